use Rattle.rules.specs.PlanFile.{increasing_from}
use Rattle.types.specs.Types.{axes_of}
use Rattle.axes.proofs.Going.{Going}
use Rattle.axes.proofs.increasing.Given as goal

abbrev pub invariant-loop-axis : goal.invariant-loop-axis
invariant-loop-axis l = Going (increasing_from 0 (axes_of l.fn.list)) (increasing_from l.low) (axes_of l.fn.list) l.axis-index-end l.axis-index
