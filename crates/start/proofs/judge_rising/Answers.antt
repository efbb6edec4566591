use native.Mathlib.Omega.{arith}
use mathlib.Core.Bool.{true}
use mathlib.Core.Path.{◌∙◌}
use Rattle.types.specs.Types.{axes_of}
use Rattle.start.proofs.Turn.{after-passed}
use Rattle.start.proofs.judge_rising.Goals as goal

pub returns : goal.returns
returns c = let a = c.args in
    let first = c.in_ok-judge_list.ensures in
    rw (← first.result_value)
    (c.judge_list-2.ensures.result_value
    ∙ after-passed a.n true a.marks (axes_of a.unreduced) (omega arith) (first.result_value, first.marks_after) (axes_of a.replicated))
