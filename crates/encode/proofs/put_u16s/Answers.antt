use native.Mathlib.Omega.{arith}
use Rattle.encode.proofs.Puts.{numbers-start, numbers-step}
use Rattle.encode.proofs.put_u16s.Goals as goal

pub loop-number-init : goal.loop-number-init
loop-number-init c = numbers-start _ _ _

pub loop-number-preserved : goal.loop-number-preserved
loop-number-preserved c = numbers-step c.loop-number.invariant (omega arith) c.put_u16-place.ensures
