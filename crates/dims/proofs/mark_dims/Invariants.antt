use Prim.Native.Nat.{ℕ}
use mathlib.Core.List.{List}
use mathlib.Core.Path.{◌≡◌}
use lib.ListN.{length, take}
use Rattle.rules.specs.Lists.{flat}
use Rattle.types.specs.Types.{dims_of}
use Rattle.axes.specs.Marks.{marks_with}
use Rattle.axes.proofs.Going.{Going}
use Rattle.dims.proofs.mark_dims.Given as goal

abbrev pub invariant-loop-d : goal.invariant-loop-d
invariant-loop-d l =
    (length l.marks ≡ length l.initial.marks)
    × Going (marks_with l.initial.marks (flat (take l.rank (dims_of l.lists)))) (λ (ls : List (List ℕ)). marks_with l.marks (flat ls)) (take l.rank (dims_of l.lists)) l.rank l.d
