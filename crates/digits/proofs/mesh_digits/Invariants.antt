use Prim.Native.Nat.{◌≤◌, ◌+◌, ◌*◌}
use mathlib.Core.Path.{◌≡◌}
use lib.ListN.{length}
use Rattle.digits.proofs.Loops.{MeshAt}
use Rattle.digits.proofs.mesh_digits.Given as goal

abbrev pub invariant-loop-i : goal.invariant-loop-i
invariant-loop-i l = (l.i ≤ length l.mesh) × (l.first + 3 * length l.mesh ≡ l.end + 3 * l.i)
    × (length l.digits ≡ length l.initial.digits) × MeshAt l.mesh l.strides l.initial.digits l.end l.inner l.digits l.first l.count l.i
