-- The proofs of what specs/Sums.antt states and of its worked cases. Assumes nothing.
use Rattle.std.specs.Prelude.{◌≡◌, [], ◌∷◌, refl}
use Rattle.rules.specs.Spread.{tabulate, held, add_words}
use Rattle.rules.specs.Collectives.{made, reduce_places}
use Rattle.sums.specs.Sums.{summed_buffer}

-- Four devices, groups along the first axis: the devices 0 and 1 have the sums, or all have them; what stands behind stays.
first-case : summed_buffer add_words 0 (2 ∷ 2 ∷ []) (1 ∷ []) (0 ∷ []) 1 (1 ∷ 2 ∷ 3 ∷ 5 ∷ 9 ∷ []) ≡ 4 ∷ 7 ∷ 3 ∷ 5 ∷ 9 ∷ []
unfolding tabulate held made reduce_places add_words
first-case = refl

all-case : summed_buffer add_words 0 (2 ∷ 2 ∷ []) (1 ∷ []) (0 ∷ []) 2 (1 ∷ 2 ∷ 3 ∷ 5 ∷ 9 ∷ []) ≡ 4 ∷ 7 ∷ 4 ∷ 7 ∷ 9 ∷ []
unfolding tabulate held made reduce_places add_words
all-case = refl
