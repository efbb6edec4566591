use Prim.Native.Nat.{ℕ, ◌≤◌}
use mathlib.Core.List.{List, ◌++◌}
use lib.ListN.{length}
use Rattle.rules.specs.Lists.{without as without_of}
use Rattle.rules.specs.Limits.{most_axes}
use Rattle.types.specs.Types.{axes_of}
use Rattle.axes.proofs.Going.{Going}
use Rattle.axes.proofs.without.Given as goal

abbrev pub invariant-loop-axis : goal.invariant-loop-axis
invariant-loop-axis l =
    Going (without_of (axes_of l.fn.list) (axes_of l.other)) (λ (xs : List ℕ). axes_of l.kept ++ without_of xs (axes_of l.other)) (axes_of l.fn.list)
    l.axis-index-end l.axis-index
    × (length (axes_of l.kept) ≤ l.axis-index) × (l.axis-index-end ≤ most_axes)
