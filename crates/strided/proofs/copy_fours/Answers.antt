use native.Mathlib.Omega.{arith}
use mathlib.Core.Path.{refl}
use Rattle.strided.proofs.Laws.{fill-four}
use Rattle.strided.proofs.copy_fours.Goals as goal

pub loop-to-preserved : goal.loop-to-preserved
loop-to-preserved c = fill-four c.loop-to.invariant (omega arith) refl refl refl refl
