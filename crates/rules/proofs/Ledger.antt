-- The proofs of what specs/Ledger.antt states and of its worked cases. Assumes nothing.
use Rattle.std.specs.Prelude.{◌≡◌, refl, [], ◌∷◌}
use Rattle.rules.specs.Lists.{All, done, ◌&◌}
use Rattle.rules.specs.Calls.{check_of, place_of, groups_of, groups_leave, run_of}
use Rattle.rules.specs.Ledger.{file_of, w1, Holds, ledger, beside}

-- `file_of` makes these bytes
w1-bytes : file_of (2 ∷ 2 ∷ []) (4 ∷ 4 ∷ []) ((0 ∷ []) ∷ (1 ∷ []) ∷ [] ∷ []) ((2 ∷ 0 ∷ 1 ∷ 1 ∷ []) ∷ []) ≡ w1
unfolding file_of
w1-bytes = refl

pub worked : All Holds ledger
unfolding file_of check_of place_of groups_of groups_leave run_of
worked =
    refl & refl & refl & refl & refl & refl & refl & refl & refl & refl & refl & refl
    & refl & refl & refl & refl & done

pub worked_beside : All Holds beside
unfolding file_of check_of place_of run_of
worked_beside =
    refl & refl & refl & refl & refl & refl & refl & refl & refl & refl & refl & refl
    & refl & refl & refl & refl & refl & refl & refl & refl & refl & refl & refl & refl
    & refl & done
