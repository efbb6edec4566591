use Prim.Native.Nat.{◌≤◌, ◌%◌}
use lib.ListN.{get_or}
use Rattle.laws.proofs.Fronts.{Filled}
use Rattle.strided.proofs.repeat_words.Given as goal

abbrev pub invariant-loop-t : goal.invariant-loop-t
invariant-loop-t l = (l.period ≤ l.t) × Filled (λ k. get_or l.initial.to (k % l.period) 0) l.initial.to l.to l.t
