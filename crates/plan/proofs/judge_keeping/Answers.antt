use mathlib.Core.Path.{sym, refl, ◌∙◌, ap}
use Rattle.types.specs.Answers.{refused_with}
use Rattle.plan.proofs.Wholes.{ready, front-stops, walk-stops, bytes_left, keeping-refused, whole-told}
use Rattle.plan.proofs.judge_keeping.Goals as goal

pub returns-in_err-opening : goal.returns-in_err-opening
returns-in_err-opening c = keeping-refused _ _ _ _ c.from_residual.ensures.1 (front-stops _ (sym c.in_err-opening.ensures.reads))

pub walk_steps-requires : goal.walk_steps-requires
walk_steps-requires c = ready _ c.in_ok-opening.ensures

pub returns-in_err-walk : goal.returns-in_err-walk
returns-in_err-walk c = let o = c.in_ok-opening.ensures in
    keeping-refused _ _ _ _ c.from_residual-in_err-walk.ensures.1 (walk-stops _ (sym o.reads) o.told.steps_are _ (sym c.in_err-walk.ensures))

pub returns-then-walk-file : goal.returns-then-walk-file
returns-then-walk-file c = let o = c.in_ok-opening.ensures in
    keeping-refused _ _ _ _ refl
    (bytes_left _ (sym o.reads) o.told.steps_are _ (sym c.in_ok-walk.ensures) c.if-walk-file.true ∙ ap refused_with (sym c.outside.ensures))

pub returns : goal.returns
returns c = whole-told _ _ c.in_ok-opening.ensures (sym c.in_ok-walk.ensures) c.if-walk-file.false
