use mathlib.Core.Bool.{Bool, false}
use mathlib.Core.List.{List, ◌++◌}
use mathlib.Core.Path.{◌≡◌, sym, ap, ◌∙◌}
use lib.ListN.{replicate}
use Rattle.rules.specs.Lists.{flat}
use Rattle.rules.specs.Limits.{most_axes}
use Rattle.rules.specs.Refusals.{accept}
use Rattle.rules.specs.PlanFile.{judge_axes}
use Rattle.types.specs.Types.{axes_of, sharding_of}
use Rattle.axes.specs.Marks.{marked, marks_with}
use Rattle.axes.proofs.Naming.{with_append}
use Rattle.judge.proofs.Steps.{marked-before, fresh-stops, fresh-passes, not-increasing, not-reducible, reduces}
use Rattle.judge.proofs.judge_reduce.Goals as goal
use Rattle.judge.proofs.judge_reduce.Goals.{After-judge_list-free}

-- the step's axes are judged after those that it may not name
after : (c : After-judge_list-free)
    → (let a = c.args in
    let s = sharding_of a.rank a.sharding in
    judge_axes a.n false 0 (marked c.mark_list.new.marks) (axes_of a.list) ≡ judge_axes a.n false 0 (flat s.dims ++ s.replicated) (axes_of a.list))
after c = let a = c.args in
    let s = sharding_of a.rank a.sharding in
    marked-before a.n (flat s.dims ++ s.replicated) (axes_of a.list) c.requires.1
    (c.mark_list.ensures ∙ ap (λ (x : List Bool). marks_with x s.replicated) c.mark_dims.ensures
    ∙ sym (with_append (replicate most_axes false) (flat s.dims) s.replicated))

pub returns-then-not-increasing : goal.returns-then-not-increasing
returns-then-not-increasing c = λ mesh sizes. sym (not-increasing _ _ _ _ _ (sym c.increasing.ensures ∙ c.if-not-increasing.true))

pub returns-in_default : goal.returns-in_default
returns-in_default c = λ mesh sizes.
    sym (not-reducible mesh sizes _ _ _ (sym c.increasing.ensures ∙ c.if-not-increasing.false)
    (fresh-stops c.args.n _ _ c.requires.2 (c.in_default.ensures.result_value ∙ after ((goal.at.returns-in_default c).After-judge_list-free))))

pub returns : goal.returns
returns c = λ mesh sizes.
    ap accept (c.reduced.ensures c.args.rank)
    ∙ sym (reduces mesh sizes _ _ _ (sym c.increasing.ensures ∙ c.if-not-increasing.false)
    (fresh-passes c.args.n _ _ c.requires.2 (c.in-Ok.ensures.result_value ∙ after ((goal.at.returns c).After-judge_list-free))))
