use lib.ListN.{get_or}
use Rattle.laws.proofs.Fronts.{Filled}
use Rattle.order.proofs.look_up.Given as goal

abbrev pub invariant-loop-number : goal.invariant-loop-number
invariant-loop-number l = Filled (λ k. get_or l.order (get_or l.initial.number-items k 0) 0) l.initial.number-items l.number-items l.number-index
