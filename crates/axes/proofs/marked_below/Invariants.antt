use Prim.Native.Nat.{◌≤◌}
use mathlib.Core.Bool.{false}
use mathlib.Core.Path.{◌≡◌}
use lib.ListN.{length, get_or}
use Rattle.rules.specs.Lists.{tab, keep}
use Rattle.types.specs.Types.{axes_of}
use Rattle.axes.proofs.marked_below.Given as goal

abbrev pub invariant-loop-i : goal.invariant-loop-i
invariant-loop-i l =
    (axes_of l.kept ≡ keep (λ a. get_or l.marks a false) (tab l.i (λ a. a))) × (length (axes_of l.kept) ≤ l.i)
