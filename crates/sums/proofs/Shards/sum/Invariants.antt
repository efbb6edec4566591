use Rattle.std.proofs.Common.{◌≡◌, ◌-◌, ◌≤◌, length}
use Rattle.rules.specs.Spread.{add_words}
use Rattle.sums.specs.Sums.{written, part_word}
use Rattle.sums.proofs.Shards.sum.Given as goal

abbrev pub invariant-loop-q : goal.invariant-loop-q
invariant-loop-q l = (1 ≤ l.q) × (l.q ≤ length l.self.shifts.now) × (l.words ≡ written l.initial.words l.self.at l.self.m (part_word add_words 0 l.initial.words l.self.shifts.now l.self.at l.q))

abbrev pub decreases-loop-q : goal.decreases-loop-q
decreases-loop-q l = length l.self.shifts.now - l.q
