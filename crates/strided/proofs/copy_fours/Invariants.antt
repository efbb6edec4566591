use Prim.Native.Nat.{◌-◌}
use lib.ListN.{length, get_or}
use Rattle.laws.proofs.Fronts.{Filled}
use Rattle.strided.proofs.copy_fours.Given as goal

abbrev pub invariant-loop-to : goal.invariant-loop-to
invariant-loop-to l = Filled (λ t. get_or l.from t 0) l.initial.to l.to l.t

abbrev pub decreases-loop-to : goal.decreases-loop-to
decreases-loop-to l = length l.initial.to - l.t
