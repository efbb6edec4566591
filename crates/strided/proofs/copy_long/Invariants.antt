use Prim.Native.Nat.{◌≤◌, ◌*◌, ◌+◌, ◌/◌, ◌%◌}
use lib.ListN.{get_or}
use Rattle.laws.proofs.Fronts.{Filled}
use Rattle.strided.proofs.copy_long.Given as goal

abbrev pub invariant-loop-i : goal.invariant-loop-i
invariant-loop-i l = (l.i ≤ l.count) × Filled (λ k. get_or l.from (l.at + k / l.len * l.apart + k % l.len * l.stride) 0) l.initial.to l.to (l.i * l.len)
