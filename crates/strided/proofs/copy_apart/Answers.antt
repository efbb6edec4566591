use native.Mathlib.Omega.{arith}
use Rattle.strided.specs.Strided.{row}
use Rattle.laws.proofs.Fronts.{fill_end}
use Rattle.strided.proofs.copy_apart.Goals as goal

pub returns : goal.returns
unfolding row
returns c = fill_end c.loop-t.invariant (omega arith)
