use Prim.Native.Nat.{◌≤◌, ◌*◌, ◌+◌}
use lib.ListN.{get_or}
use Rattle.laws.proofs.Fronts.{Filled}
use Rattle.strided.specs.Strided.{offset, plane_digits}
use Rattle.strided.proofs.copy_planes.Given as goal

abbrev pub invariant-loop-i : goal.invariant-loop-i
invariant-loop-i l = (l.i ≤ l.planes)
    × Filled (λ t. get_or l.from (l.at + offset (plane_digits l.planes l.inner l.far l.count l.len l.apart l.stride) t) 0) l.initial.to l.to (l.i * l.inner)
