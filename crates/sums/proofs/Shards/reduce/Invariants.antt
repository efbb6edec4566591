use Rattle.std.proofs.Common.{◌≤◌}
use Rattle.rules.specs.Spread.{add_words}
use Rattle.sums.specs.Sums.{group_word, Shared}
use Rattle.sums.proofs.Shards.reduce.Given as goal

abbrev pub invariant-loop-done : goal.invariant-loop-done
invariant-loop-done l = (l.done ≤ l.self.m) × Shared 0 l.initial.words l.self.shifts.now l.self.at l.done l.n (group_word add_words 0 l.initial.words l.self.shifts.now l.self.at) l.words
