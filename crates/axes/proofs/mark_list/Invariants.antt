use mathlib.Core.Path.{◌≡◌}
use lib.ListN.{length}
use Rattle.types.specs.Types.{axes_of}
use Rattle.axes.specs.Marks.{marks_with}
use Rattle.axes.proofs.Going.{Going}
use Rattle.axes.proofs.mark_list.Given as goal

abbrev pub invariant-loop-axis : goal.invariant-loop-axis
invariant-loop-axis l =
    (length l.marks ≡ length l.initial.marks)
    × Going (marks_with l.initial.marks (axes_of l.fn.list)) (marks_with l.marks) (axes_of l.fn.list) l.axis-index-end l.axis-index
