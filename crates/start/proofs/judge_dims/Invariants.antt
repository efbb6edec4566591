use Rattle.types.specs.Types.{axes_of}
use Rattle.start.proofs.Turn.{ListsTurning}
use Rattle.start.proofs.judge_dims.Given as goal

abbrev pub invariant-loop-list : goal.invariant-loop-list
invariant-loop-list l = ListsTurning l.n l.initial.marks axes_of l.list-items l.marks l.list-index
