use Rattle.std.proofs.Common.{◌≡◌}
use Rattle.sums.specs.Sums.{written, added_word}
use Rattle.sums.proofs.Shards.add_members.Given as goal

abbrev pub invariant-loop-t : goal.invariant-loop-t
invariant-loop-t g l = l.words ≡ written l.initial.words l.self.at l.t (added_word l.initial.words l.self.shifts.now l.self.at l.q g.row.K)
