use native.Mathlib.Omega.{arith}
use Rattle.order.proofs.Loops.{inverted}
use Rattle.order.proofs.invert.Goals as goal

pub returns : goal.returns
returns c = inverted c.requires c.loop-i.invariant (omega (arith, c.requires.size, c.loop-i-test.false))
