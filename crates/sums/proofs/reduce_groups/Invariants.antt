use Rattle.rules.specs.Spread.{add_words}
use Rattle.sums.specs.Sums.{Summed}
use Rattle.sums.proofs.reduce_groups.Given as goal

abbrev pub invariant-loop-d : goal.invariant-loop-d
invariant-loop-d l = Summed add_words 0 l.initial.words l.firsts l.shifts l.m l.n l.d l.words
