use native.Mathlib.Omega.{arith}
use Rattle.planner.proofs.Tails.{one-ends}
use Rattle.planner.proofs.common.Goals as goal

pub returns : goal.returns
returns c = one-ends c.loop-i.invariant (omega (arith, c.len.ensures, c.len-2.ensures, c.min-count.ensures, c.loop-i-test.false, c.loop-i.auto.i-end))
    (omega (arith, c.loop-i-test.false, c.loop-i.auto.i-end))
