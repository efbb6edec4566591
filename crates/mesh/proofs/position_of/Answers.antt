use native.Mathlib.Omega.{arith}
use Prim.Native.Nat.{◌+◌, ◌*◌, ◌^◌, ◌<◌}
use mathlib.Core.Path.{refl}
use Rattle.rules.specs.Mesh.{coords}
use Rattle.rules.specs.Limits.{most_axes, most_devices}
use Rattle.types.specs.Types.{axes_of}
use Rattle.types.proofs.Types.{axes-length}
use Rattle.mesh.proofs.Positions.{PositionAt, position-step, position-done, numbers-length, number_at}
use Rattle.mesh.proofs.position_of.Goals as goal
use Rattle.mesh.proofs.position_of.Goals.{After-coordinate-digit}

-- one digit more
next : (c : After-coordinate-digit)
    → (let q = c.loop-axis.position * c.size_at-size.result + c.coordinate-digit.result in
    PositionAt c.args.mesh.now (axes_of c.args.list) (coords c.args.mesh.now c.args.place) q (c.loop-axis.axis-index + 1) × (q < most_devices ^ most_axes))
next c =
    let xs = c.as_slice-axis-items.result.now in
    let e = c.as_slice-axis-items.ensures in
    position-step c.args.mesh.now (axes_of c.args.list) c.args.place c.requires c.loop-axis.invariant.0 _ _ _ c.loop-axis.invariant.1
    (omega (arith, numbers-length xs e)) (number_at xs e c.loop-axis.axis-index) c.size_at-size.ensures c.coordinate-digit.ensures

pub loop-axis-init : goal.loop-axis-init
loop-axis-init c = (
  record { within = omega arith; small = omega arith; same = refl },
  omega (arith, axes-length c.args.list (c.well_formed.1.0.1.1.1.0.1.0.1)),
)

pub overflow_mul-position : goal.overflow_mul-position
overflow_mul-position c = omega (arith, (next ((goal.at.overflow_mul-position c).After-coordinate-digit)).1)

pub overflow_add-position : goal.overflow_add-position
overflow_add-position c = omega (arith, (next ((goal.at.overflow_add-position c).After-coordinate-digit)).1)

pub loop-axis-preserved : goal.loop-axis-preserved
loop-axis-preserved c = ((next ((goal.at.loop-axis-preserved c).After-coordinate-digit)).0, c.loop-axis.invariant.1)

pub returns : goal.returns
returns c =
    position-done c.loop-axis.invariant.0 (omega (arith, numbers-length c.as_slice-axis-items.result.now c.as_slice-axis-items.ensures))
