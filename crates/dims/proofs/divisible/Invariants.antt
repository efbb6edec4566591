use Prim.Native.Nat.{ℕ, ◌%◌}
use mathlib.Core.List.{List}
use lib.Dec.{eqb}
use lib.ListN.{take}
use Rattle.rules.specs.Mesh.{span as span_of}
use Rattle.types.specs.Types.{dims_of, mesh_of, sizes_of}
use Rattle.dims.proofs.Pairs.{Testing}
use Rattle.dims.proofs.divisible.Given as goal

abbrev pub invariant-loop-d : goal.invariant-loop-d
invariant-loop-d l = Testing (λ (n : ℕ) (xs : List ℕ). eqb (n % span_of (mesh_of l.mesh) xs) 0) (sizes_of l.table)
    (take l.rank (dims_of l.lists)) l.rank l.d
