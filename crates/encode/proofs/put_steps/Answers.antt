use native.Mathlib.Omega.{arith}
use Rattle.encode.proofs.Given.{records-start, records-step, records-done}
use Rattle.encode.proofs.put_steps.Goals as goal

pub loop-i-init : goal.loop-i-init
loop-i-init c = records-start _ _ _ _

pub loop-i-preserved : goal.loop-i-preserved
loop-i-preserved c = let l = c.loop-i in
    let h = c.loop-i-test.true in
    records-step l.invariant h c.requires.1 (c.requires.2 l.i h) c.put_record-place.ensures

pub returns : goal.returns
returns c = records-done c.loop-i.invariant (omega arith)
