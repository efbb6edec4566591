use mathlib.Core.Path.{◌≡◌}
use lib.ListN.{length, take}
use Rattle.rules.specs.Lists.{flat}
use Rattle.rules.specs.Mesh.{span as span_of}
use Rattle.types.specs.Types.{dims_of, mesh_of}
use Rattle.dims.proofs.span_dims.Given as goal

abbrev pub invariant-loop-d : goal.invariant-loop-d
invariant-loop-d l = (length (take l.rank (dims_of l.lists)) ≡ l.rank) × (l.product ≡ span_of (mesh_of l.mesh) (flat (take l.d (take l.rank (dims_of l.lists)))))
