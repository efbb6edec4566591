use Prim.Native.Nat.{ℕ, ◌*◌}
use mathlib.Core.Path.{◌≡◌}
use mathlib.Core.List.{List}
use lib.ListN.{take}
use Rattle.rules.specs.Mesh.{position, coords}
use Rattle.types.specs.Types.{dims_of, sizes_of}
use Rattle.dims.proofs.Pairs.{Making}
use Rattle.place.proofs.first_indexes.Given as goal

abbrev pub invariant-loop-d : goal.invariant-loop-d
invariant-loop-d l =
    Making (λ (n : ℕ) (xs : List ℕ). position l.mesh xs (coords l.mesh l.place) * n) (sizes_of l.shard) (take l.shard.rank (dims_of l.dims)) l.first.sizes l.shard.rank l.d
    × (l.first.rank ≡ l.shard.rank)
