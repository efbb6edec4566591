use Prim.Native.Nat.{ℕ, ◌*◌, ◌^◌, ◌≤◌}
use mathlib.Core.List.{List}
use Rattle.types.specs.Types.{sizes_of}
use Rattle.rules.specs.Lists.{product as product_of}
use Rattle.axes.proofs.Going.{Going}
use Rattle.dims.proofs.words.Given as goal

abbrev pub invariant-loop-d : goal.invariant-loop-d
invariant-loop-d l = Going (product_of (sizes_of l.table)) (λ (xs : List ℕ). l.product * product_of xs) (sizes_of l.table) l.rank l.d
    × (l.product ≤ 65535 ^ l.d)
