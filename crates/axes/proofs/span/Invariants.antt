use Prim.Native.Nat.{ℕ, ◌*◌, ◌^◌, ◌≤◌}
use mathlib.Core.List.{List}
use Rattle.rules.specs.Limits.{most_axes, most_devices}
use Rattle.rules.specs.Mesh.{span as span_of}
use Rattle.types.specs.Types.{axes_of, mesh_of}
use Rattle.axes.proofs.Going.{Going}
use Rattle.axes.proofs.span.Given as goal

abbrev pub invariant-loop-axis : goal.invariant-loop-axis
invariant-loop-axis l =
    Going (span_of (mesh_of l.mesh) (axes_of l.fn.list)) (λ (xs : List ℕ). l.product * span_of (mesh_of l.mesh) xs) (axes_of l.fn.list)
    l.axis-index-end l.axis-index
    × (l.product ≤ most_devices ^ l.axis-index) × (l.axis-index-end ≤ most_axes)
