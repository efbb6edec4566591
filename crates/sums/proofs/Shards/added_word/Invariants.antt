use Rattle.std.proofs.Common.{◌≡◌}
use Rattle.sums.specs.Sums.{added_word}
use Rattle.sums.proofs.Shards.added_word.Given as goal

abbrev pub invariant-loop-j : goal.invariant-loop-j
invariant-loop-j g l = l.sum ≡ added_word l.words l.self.shifts.now l.self.at l.q l.j l.t
