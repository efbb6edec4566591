-- What the judgement of a step asks of the sharding before it. An accepted start gives it, and each step that is
-- fine gives it again: `sharded-after` of taking/proofs/Takes.antt. Assumes nothing.
use Rattle.rules.specs.Sharding.{IsSharding}
use Rattle.types.specs.Types.{sharding_of, mesh_of, sizes_of, WithinPlaces}
use Rattle.types.specs.declared.Sharding as code
use Rattle.types.specs.declared.Table.{Table}
use Rattle.types.specs.declared.Mesh.{Mesh}

-- a mesh, a table, and a sharding of that table on that mesh
pub record Sharded (mesh : Mesh) (table : Table) (s : code.Sharding) : Type 0 where
  pub fits : WithinPlaces mesh table
  pub sound : IsSharding (mesh_of mesh) (sizes_of table) (sharding_of table.rank s)
