use Prim.Native.Nat.{◌≤◌}
use lib.ListN.{length}
use Rattle.rules.specs.Mesh.{coords}
use Rattle.rules.specs.Limits.{most_axes}
use Rattle.types.specs.Types.{axes_of}
use Rattle.mesh.proofs.Positions.{PositionAt}
use Rattle.mesh.proofs.position_of.Given as goal

abbrev pub invariant-loop-axis : goal.invariant-loop-axis
invariant-loop-axis l =
    PositionAt l.mesh (axes_of l.fn.list) (coords l.mesh l.place) l.position l.axis-index × (length (axes_of l.fn.list) ≤ most_axes)
