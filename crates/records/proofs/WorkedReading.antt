-- The proofs of what specs/WorkedReading.antt states and of its worked cases. Assumes nothing.
use Rattle.std.specs.Prelude.{refl}
use Rattle.rules.specs.Lists.{All, done, ◌&◌}
use Rattle.types.specs.Answers.{reason_of}
use Rattle.types.specs.Types.{lists_from}
use Rattle.records.specs.Reading.{read_of, read_leaves_order, read_leaves_steps}
use Rattle.records.specs.WorkedReading.{Holds, reads}

pub read_as : All Holds reads
unfolding reason_of lists_from read_of read_leaves_order read_leaves_steps
read_as =
    refl & refl & refl & refl & refl & refl & refl & refl & refl & refl & refl & refl
    & refl & refl & refl & refl & refl & done
