use mathlib.Core.Path.{◌≡◌}
use mathlib.Core.List.{map}
use lib.ListN.{drop}
use Rattle.records.specs.Writing.{judge_counts}
use Rattle.records.specs.Forms.{list_given}
use Rattle.given.proofs.judge_counts.Given as goal

abbrev pub invariant-loop-list : goal.invariant-loop-list
invariant-loop-list l = judge_counts l.n (map list_given l.lists) ≡ judge_counts l.n (map list_given (drop l.list-index l.lists))
