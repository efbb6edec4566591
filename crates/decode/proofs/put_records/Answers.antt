use native.Mathlib.Omega.{arith}
use Rattle.decode.proofs.Walks.{walk_start, walk-stands, walk-few, walk_step, walk-done}
use Rattle.decode.proofs.put_records.Goals as goal

pub loop-place-init : goal.loop-place-init
loop-place-init c = walk_start _ c.requires

pub copy_record-place-requires : goal.copy_record-place-requires
copy_record-place-requires c = (walk-few c.loop-place.invariant c.requires.limited, c.requires.few, walk-stands c.loop-place.invariant c.loop-place-test.true)

pub loop-place-smaller : goal.loop-place-smaller
loop-place-smaller c = (walk_step c.loop-place.invariant c.loop-place-test.true c.copy_record-place.ensures).1

pub loop-place-preserved : goal.loop-place-preserved
loop-place-preserved c = (walk_step c.loop-place.invariant c.loop-place-test.true c.copy_record-place.ensures).0

pub returns : goal.returns
returns c = walk-done c.loop-place.invariant (omega (arith, c.loop-place-test.false))
