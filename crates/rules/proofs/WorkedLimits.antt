-- The proofs of what specs/WorkedLimits.antt states and of its worked cases. Assumes nothing.
use Rattle.std.specs.Prelude.{refl}
use Rattle.rules.specs.Lists.{All, done, ◌&◌}
use Rattle.rules.specs.PlanFile.{judge_by}
use Rattle.rules.specs.Calls.{check_of, groups_of, groups_leave}
use Rattle.rules.specs.Ledger.{Holds, file_in, file_of}
use Rattle.rules.specs.WorkedLimits.{limits, Earlier}

pub limited : All Holds limits
unfolding file_of check_of groups_of groups_leave
limited =
    refl & refl & refl & refl & refl & refl & refl & refl & refl & refl & refl & refl
    & refl & refl & refl & refl & refl & refl & refl & refl & refl & refl & refl & refl
    & refl & refl & refl & refl & refl & refl & refl & done

pub earlier : Earlier
unfolding file_in file_of judge_by
earlier = (refl, refl, refl, refl, refl, refl)
