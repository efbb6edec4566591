use mathlib.Core.Path.{sym, ap, ◌∙◌}
use Rattle.records.specs.Writing.{judge_counts}
use Rattle.given.proofs.Counts.{counts-one, dims-counted, lists-by-dim, lists-one}
use Rattle.given.proofs.judge_lists.Goals as goal

pub returns-in-AllSlice : goal.returns-in-AllSlice
returns-in-AllSlice c = let a = c.args in
    let s = c.in-AllSlice in
    c.judge_counts.ensures ∙ dims-counted a.n a.rank s.lists ∙ ap (judge_counts a.n) (sym (lists-by-dim a.rank a.step s.lists s.is))

pub returns-in-AllReduce : goal.returns-in-AllReduce
returns-in-AllReduce c = let a = c.args in
    let s = c.in-AllReduce in
    c.judge_count.ensures ∙ sym (counts-one _ _) ∙ ap (judge_counts a.n) (sym (lists-one a.rank a.step s.list s.is))
