-- The proofs of what specs/WorkedPlaceAll.antt states and of its worked cases. Assumes nothing.
use Rattle.std.specs.Prelude.{refl}
use Rattle.rules.specs.Lists.{All, done, ◌&◌}
use Rattle.types.specs.Answers.{reason_of}
use Rattle.rules.specs.Ledger.{file_in, file_of}
use Rattle.placements.specs.PlaceAll.{placed_before, place_all_leaves}
use Rattle.placements.specs.WorkedPlaceAll.{Holds, cases}

pub worked : All Holds cases
unfolding file_in file_of place_all_leaves placed_before reason_of
worked =
    (refl, refl) & (refl, refl) & (refl, refl) & (refl, refl) & (refl, refl) & (refl, refl) & (refl, refl) & (refl, refl) & (refl, refl) & (refl, refl)
    & (refl, refl) & (refl, refl) & (refl, refl) & (refl, refl) & (refl, refl) & (refl, refl) & (refl, refl) & (refl, refl) & done
