use Prim.Native.Nat.{◌*◌, ◌+◌}
use lib.ListN.{get_or}
use Rattle.laws.proofs.Fronts.{Filled}
use Rattle.strided.proofs.copy_apart.Given as goal

abbrev pub invariant-loop-t : goal.invariant-loop-t
invariant-loop-t l = Filled (λ t. get_or l.from (l.at + t * l.stride) 0) l.initial.to l.to l.t
