-- The proofs of what specs/Moves.antt states and of its worked cases. Assumes nothing.
use Rattle.std.specs.Prelude.{ℕ, ◌≡◌, refl, [], ◌∷◌}
use Rattle.rules.specs.Spread.{tabulate, held}
use Rattle.moves.specs.Moves.{first_buffer}

-- Four devices, groups along the first axis, the shards halved along it: the devices 0 and 2 have the halves of device 0's shard, 1 and 3 those of
-- device 1's.
first-case : first_buffer {W = ℕ} 0 (2 ∷ 2 ∷ []) (2 ∷ []) (0 ∷ []) ([] ∷ []) ((0 ∷ []) ∷ []) 1 (10 ∷ 11 ∷ 20 ∷ 21 ∷ 30 ∷ 31 ∷ 40 ∷ 41 ∷ []) (1 ∷ 2 ∷ 3 ∷ 4 ∷ 5 ∷ [])
    ≡ 10 ∷ 20 ∷ 11 ∷ 21 ∷ 5 ∷ []
unfolding tabulate held
first-case = refl
