use Prim.Native.Nat.{◌≤◌, ◌*◌, ◌+◌}
use lib.ListN.{length, get_or}
use Rattle.laws.proofs.Fronts.{Filled}
use Rattle.strided.specs.Strided.{offset}
use Rattle.strided.proofs.+copy_strided.Given as goal

abbrev pub decreases-copy_strided : goal.decreases-copy_strided
decreases-copy_strided l = length l.digits.now

abbrev pub invariant-loop-i : goal.invariant-loop-i
invariant-loop-i l = (l.i ≤ l.size) × Filled (λ t. get_or l.from (l.at + offset l.digits t) 0) l.initial.to l.to (l.i * l.inner)
