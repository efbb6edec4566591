use Rattle.std.proofs.Common.{◌+◌, get_or}
use Rattle.laws.proofs.Fronts.{Filled}
use Rattle.moves.proofs.add_strides.Given as goal

abbrev pub invariant-loop-i : goal.invariant-loop-i
invariant-loop-i l = Filled (λ k. get_or l.initial.strides k 0 + get_or l.added k 0) l.initial.strides l.strides l.i
