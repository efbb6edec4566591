-- The proofs of what specs/WorkedOrders.antt states and of its worked cases. Assumes nothing.
use Rattle.std.specs.Prelude.{refl}
use Rattle.rules.specs.Lists.{All, done, ◌&◌}
use Rattle.rules.specs.PlanFile.{judge_by}
use Rattle.rules.specs.Calls.{check_of, place_of, groups_ordered_of, groups_ordered_leave, run_of}
use Rattle.rules.specs.Ledger.{Holds, file_in}
use Rattle.rules.specs.WorkedOrders.{orders, SecondEdition}

pub in_order : All Holds orders
unfolding file_in check_of place_of groups_ordered_of groups_ordered_leave run_of
in_order =
    refl & refl & refl & refl & refl & refl & refl & refl & refl & refl & refl & refl
    & refl & refl & refl & refl & refl & refl & refl & refl & refl & refl & refl & refl
    & refl & refl & refl & refl & refl & refl & refl & refl & refl & refl & refl & refl
    & refl & refl & refl & refl & refl & refl & refl & refl & refl & refl & refl & refl
    & refl & done

pub second_edition : SecondEdition
unfolding file_in judge_by
second_edition = (refl, refl)
