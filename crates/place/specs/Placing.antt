-- What the first indexes ask for. Assumes nothing.
use Rattle.std.specs.Prelude.{ℕ, ◌*◌, ◌≤◌, ◌<◌, List, [], get_or, take}
use Rattle.rules.specs.Mesh.{position, coords}
use Rattle.rules.specs.Limits.{most_dims, most_words}
use Rattle.types.specs.Types.{dims_of, sizes_of}
use Rattle.types.specs.declared.DimLists.{DimLists}
use Rattle.types.specs.declared.Table.{Table}
use Rattle.mesh.specs.Fitting.{IsPlace}

-- a place on the mesh, and shard sizes whose blocks begin within the table
pub record Placing (mesh : List ℕ) (dims : DimLists) (shard : Table) (p : ℕ) : Type 0 where
  pub place : IsPlace mesh p
  pub rank : shard.rank ≤ most_dims
  pub few : (j : ℕ) → position mesh (get_or (take shard.rank (dims_of dims)) j []) (coords mesh p) * get_or (sizes_of shard) j 0 < most_words
