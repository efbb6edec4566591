-- The proofs of what specs/WorkedRecords.antt states and of its worked cases. Assumes nothing.
use Rattle.std.specs.Prelude.{refl}
use Rattle.rules.specs.Lists.{All, done, ◌&◌}
use Rattle.records.specs.Writing.{write_of, write_leaves}
use Rattle.records.specs.Forms.{steps_given}
use Rattle.records.specs.Planning.{plan_of}
use Rattle.records.specs.WorkedRecords.{Holds, writes, refusals, forms, plannings}

pub written : All Holds writes
unfolding write_of write_leaves
written = refl & refl & refl & refl & refl & refl & refl & refl & refl & refl & refl & done

pub refused_as : All Holds refusals
unfolding write_of write_leaves
refused_as =
    refl & refl & refl & refl & refl & refl & refl & refl & refl & refl & refl & refl
    & refl & refl & refl & refl & refl & refl & refl & refl & refl & refl & refl & refl
    & refl & refl & refl & refl & refl & refl & refl & refl & refl & refl & refl & refl
    & refl & refl & refl & refl & refl & refl & refl & refl & refl & refl & refl & refl
    & refl & refl & refl & refl & refl & refl & refl & refl & refl & refl & refl & refl
    & refl & refl & refl & refl & refl & refl & refl & refl & refl & refl & refl & refl
    & refl & refl & refl & refl & refl & refl & refl & refl & refl & done

pub formed : All Holds forms
unfolding write_of write_leaves steps_given
formed =
    refl & refl & refl & refl & refl & refl & refl & refl & refl & refl & refl & refl
    & refl & refl & refl & refl & refl & refl & refl & refl & refl & refl & refl & done

pub planned-as : All Holds plannings
unfolding plan_of
planned-as =
    refl & refl & refl & refl & refl & refl & refl & refl & refl & refl & refl & refl
    & refl & refl & refl & refl & refl & refl & refl & refl & refl & refl & refl & refl
    & refl & refl & refl & refl & refl & refl & refl & refl & refl & refl & refl & refl & done
