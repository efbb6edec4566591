use Prim.Native.Nat.{ℕ, ◌+◌, ◌≤◌}
use mathlib.Core.List.{List, ◌++◌}
use lib.ListN.{length}
use Rattle.rules.specs.Limits.{most_axes}
use Rattle.types.specs.Types.{axes_of}
use Rattle.axes.proofs.Going.{Going}
use Rattle.axes.proofs.join.Given as goal

abbrev pub invariant-loop-axis : goal.invariant-loop-axis
invariant-loop-axis l =
    Going (axes_of l.initial.whole ++ axes_of l.fn.tail) (λ (xs : List ℕ). axes_of l.whole ++ xs) (axes_of l.fn.tail) l.axis-index-end l.axis-index
    × (length (axes_of l.whole) + l.axis-index-end ≤ most_axes + l.axis-index)
