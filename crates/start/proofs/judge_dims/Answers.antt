use Rattle.std.proofs.lemmas.List.{take-map}
use Rattle.std.proofs.lemmas.Result.{err_from_is_err_and}
use mathlib.Core.Path.{refl}
use Rattle.types.specs.Types.{dims_of}
use Rattle.start.proofs.Turn.{list-stops, list-passes, lists-end}
use Rattle.start.proofs.judge_dims.Goals as goal

pub returns-in_err-judge_list : goal.returns-in_err-judge_list
unfolding dims_of
returns-in_err-judge_list c =
    let judged = c.in_err-judge_list.ensures in
    let told = list-stops c.loop-list.invariant c.requires.1 c.loop-list-test.true _ refl (judged.result_value, judged.marks_after) in
    let p = err_from_is_err_and c.from_residual.result c.from_residual.ensures.1 in
    rw take-map (record { result_value = rw (p.1, p.2) told.0; marks_after = told.1 })

pub loop-list-preserved : goal.loop-list-preserved
loop-list-preserved c =
    let judged = c.in_ok-judge_list.ensures in
    list-passes c.loop-list.invariant c.requires.1 c.loop-list-test.true _ refl (judged.result_value, judged.marks_after)

pub returns : goal.returns
unfolding dims_of
returns c = let told = lists-end c.loop-list.invariant c.loop-list-test.false in rw take-map (record { result_value = told.0; marks_after = told.1 })
