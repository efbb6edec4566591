use lib.ListN.{get_or}
use Rattle.laws.proofs.Fronts.{Filled}
use Rattle.order.proofs.copy_shard.Given as goal

abbrev pub invariant-loop-t : goal.invariant-loop-t
invariant-loop-t l = Filled (λ t. get_or l.from t 0) l.initial.to l.to l.t
