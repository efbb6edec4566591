-- What is asked of a step whose words moved are counted. Assumes nothing.
use Rattle.std.specs.Prelude.{◌≡◌}
use Rattle.rules.specs.Lists.{product}
use Rattle.rules.specs.Mesh.{devices as devices_of}
use Rattle.rules.specs.Collectives.{Step}
use Rattle.types.specs.Types.{sharding_of, mesh_of, sizes_of}
use Rattle.types.specs.declared.Mesh.{Mesh}
use Rattle.types.specs.declared.Sharding as code
use Rattle.types.specs.declared.Table.{Table}
use Rattle.laws.proofs.Accepted.{Within}
use Rattle.laws.proofs.Steps.{AcceptedStep}
use Rattle.judge.specs.Step.{Sharded}
use Rattle.taking.specs.declared.Extent.{Extent}

-- an extent is that of a mesh and a table, which are within their limits
pub record Extends (extent : Extent) (mesh : Mesh) (table : Table) : Type 0 where
  pub devices_are : extent.devices ≡ devices_of (mesh_of mesh)
  pub words_are : extent.words ≡ product (sizes_of table)
  pub within : Within (mesh_of mesh) (sizes_of table)

-- the step is accepted of the sharding before it
pub record ChargesStep (extent : Extent) (mesh : Mesh) (table : Table) (t : Step) (s : code.Sharding) : Type 0 where
  pub ready : Sharded mesh table s
  pub extends : Extends extent mesh table
  pub accepted : AcceptedStep (mesh_of mesh) (sizes_of table) t (sharding_of table.rank s)
