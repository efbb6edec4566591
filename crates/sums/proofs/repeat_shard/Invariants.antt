use Rattle.std.proofs.Common.{◌≡◌, ◌+◌, get_or}
use Rattle.sums.specs.Sums.{written}
use Rattle.sums.proofs.repeat_shard.Given as goal

abbrev pub invariant-loop-t : goal.invariant-loop-t
invariant-loop-t l = l.words ≡ written l.initial.words l.at l.t (λ o. get_or l.initial.words (l.first + o) 0)
