use Prim.Native.Nat.{◌≤◌, ◌+◌, ◌*◌}
use mathlib.Core.Path.{◌≡◌}
use lib.ListN.{length}
use Rattle.types.specs.Types.{axes_of}
use Rattle.digits.proofs.Loops.{AxesAt}
use Rattle.digits.proofs.axis_digits.Given as goal

abbrev pub invariant-loop-i : goal.invariant-loop-i
invariant-loop-i l = (l.i ≤ length (axes_of l.axes))
    × (l.first + 3 * length (axes_of l.axes) ≡ l.end + 3 * l.i) × (length l.digits ≡ length l.initial.digits) × (length l.strides ≡ length l.initial.strides)
    × AxesAt l.mesh (axes_of l.axes) l.initial.strides l.initial.digits l.end l.inner l.digits l.strides l.first l.count l.i
