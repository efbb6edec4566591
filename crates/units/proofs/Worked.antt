-- The proofs of what specs/Worked.antt states and of its worked cases. Assumes nothing.
use Rattle.std.specs.Prelude.{◌≡◌, refl, [], ◌∷◌, take}
use Rattle.rules.specs.Lists.{All, done, ◌&◌}
use Rattle.rules.specs.Refusals.{refuse}
use Rattle.rules.specs.Ledger.{w1, file_in, file_of, passed}
use Rattle.units.specs.Units.{in_header, in_mesh, in_table, in_the_start, at_end, fed, end_of, unpriced, state_after}
use Rattle.units.specs.Worked.{Holds, files}

pub worked : All Holds files
unfolding end_of fed file_of file_in
worked = refl & refl & refl & refl & refl & refl & refl & refl & refl & refl & refl & refl & refl & refl & refl & refl & refl & refl & refl & refl & refl & refl & refl & refl & refl & refl & refl & refl & refl & refl & refl & refl & refl & refl & refl & refl & done

-- W1's check answers 16 words moved: all else stays, and so does a refusal
pub left-aside : (unpriced (passed 32 4 1 16 ((0 ∷ []) ∷ [] ∷ []) [] (2 ∷ 4 ∷ [])) ≡ passed 32 4 1 0 ((0 ∷ []) ∷ [] ∷ []) [] (2 ∷ 4 ∷ []))
    × (unpriced (refuse 43 21) ≡ refuse 43 21)
left-aside = (refl, refl)

-- W1, from the header's last byte on: one byte of the mesh, then none of the table, of the sharding, of the step
pub held-on-the-way : ((state_after (take 17 w1)).phase ≡ in_header) × ((state_after (take 18 w1)).phase ≡ in_mesh) × ((state_after (take 19 w1)).unit ≡ 2 ∷ [])
    × ((state_after (take 22 w1)).phase ≡ in_table (2 ∷ 2 ∷ [])) × ((state_after (take 22 w1)).unit ≡ []) × ((state_after (take 26 w1)).phase ≡ in_the_start (2 ∷ 2 ∷ []) (4 ∷ 4 ∷ []))
    × ((state_after (take 30 w1)).unit ≡ 1 ∷ 0 ∷ 1 ∷ 1 ∷ []) × ((state_after (take 34 w1)).unit ≡ 2 ∷ 0 ∷ 1 ∷ [])
    × ((state_after w1).phase ≡ at_end (2 ∷ 2 ∷ []) (4 ∷ 4 ∷ []) 8 (record { dims = (0 ∷ []) ∷ [] ∷ []; unreduced = []; replicated = [] }))
unfolding fed
held-on-the-way = (refl, refl, refl, refl, refl, refl, refl, refl, refl)
