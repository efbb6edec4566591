use Rattle.std.proofs.Common.{◌+◌, ◌*◌, length}
use Rattle.laws.proofs.Fronts.{Filled}
use Rattle.strided.specs.Strided.{offset}
use Rattle.sums.proofs.+list_offsets.Given as goal

abbrev pub decreases-list_offsets : goal.decreases-list_offsets
decreases-list_offsets l = length l.digits.now

abbrev pub invariant-loop-i : goal.invariant-loop-i
invariant-loop-i l = Filled (λ t. l.at + offset l.digits t) l.initial.to l.to (l.i * l.inner)
