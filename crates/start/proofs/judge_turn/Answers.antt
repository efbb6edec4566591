use Rattle.std.proofs.lemmas.Result.{err_from_is_err_and}
use Rattle.start.proofs.Turn.{turning, turn-stops, turn-passes, turn-ends}
use Rattle.start.proofs.judge_turn.Goals as goal

pub loop-name-init : goal.loop-name-init
loop-name-init g c = turning _ _ _ _ _

pub loop-name-preserved : goal.loop-name-preserved
loop-name-preserved g c =
    turn-passes c.loop-name.invariant c.loop-name-test.true _ c.name-item.is _ c.axis-axis.ensures c.requires (c.in_ok-judge_axis.ensures)
    c.mark.ensures c.next_low-low.ensures

pub returns : goal.returns
returns g c = let told = turn-ends c.loop-name.invariant c.loop-name-test.false in record { result_value = told.0; marks_after = told.1 }

pub returns-in_err-judge_axis : goal.returns-in_err-judge_axis
returns-in_err-judge_axis g c =
    let told = turn-stops c.loop-name.invariant c.loop-name-test.true _ c.name-item.is _ c.axis-axis.ensures (c.in_err-judge_axis.ensures) in
    let p = err_from_is_err_and c.from_residual.result c.from_residual.ensures.1 in
    record { result_value = rw (p.1, p.2) told.0; marks_after = told.1 }
