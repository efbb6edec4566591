use Prim.Native.Nat.{◌≤◌, ◌*◌, ◌-◌, ◌+◌, ◌/◌, ◌%◌}
use lib.ListN.{length, get_or}
use Rattle.laws.proofs.Fronts.{Filled}
use Rattle.order.proofs.place_shards.Given as goal

abbrev pub invariant-loop-i : goal.invariant-loop-i
invariant-loop-i l = (l.i ≤ length l.order) × Filled (λ t. get_or l.from (get_or l.order (t / l.m) 0 * l.m + t % l.m) 0) l.initial.to l.to (l.i * l.m)

abbrev pub decreases-loop-i : goal.decreases-loop-i
decreases-loop-i l = length l.order - l.i
