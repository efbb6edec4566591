use Prim.Native.Nat.{ℕ, ◌/◌}
use mathlib.Core.List.{List}
use mathlib.Core.Path.{◌≡◌}
use lib.ListN.{take, drop}
use Rattle.rules.specs.Mesh.{span as span_of}
use Rattle.types.specs.Types.{dims_of, mesh_of, sizes_of}
use Rattle.dims.proofs.Pairs.{Making}
use Rattle.dims.proofs.shard_of.Given as goal

abbrev pub invariant-loop-d : goal.invariant-loop-d
invariant-loop-d l =
    Making (λ (n : ℕ) (xs : List ℕ). n / span_of (mesh_of l.mesh) xs) (sizes_of l.table) (take l.rank (dims_of l.dims)) l.shard.sizes l.rank l.d
    × (l.shard.rank ≡ l.table.rank) × (drop l.rank l.shard.sizes ≡ drop l.rank l.table.sizes)
