use Rattle.std.proofs.Common.{◌+◌, get_or}
use Rattle.sums.specs.Sums.{Shared}
use Rattle.sums.proofs.Shards.repeat.Given as goal

abbrev pub invariant-loop-shift : goal.invariant-loop-shift
invariant-loop-shift l = Shared 0 l.initial.words l.self.shifts.now l.self.at l.self.m (l.shift-index + 1) (λ o. get_or l.initial.words (l.self.at + o) 0) l.words
