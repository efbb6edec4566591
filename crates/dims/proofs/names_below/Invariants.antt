use Prim.Native.Nat.{ℕ}
use mathlib.Core.List.{List}
use lib.ListN.{take}
use Rattle.rules.specs.Lists.{flat}
use Rattle.rules.specs.PlanFile.{all_below}
use Rattle.types.specs.Types.{dims_of}
use Rattle.axes.proofs.Going.{Going}
use Rattle.dims.proofs.names_below.Given as goal

abbrev pub invariant-loop-d : goal.invariant-loop-d
invariant-loop-d l = Going (all_below l.n (flat (take l.rank (dims_of l.lists)))) (λ (ls : List (List ℕ)). all_below l.n (flat ls))
    (take l.rank (dims_of l.lists)) l.rank l.d
