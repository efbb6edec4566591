use mathlib.Core.Path.{sym, ap, ◌∙◌}
use Rattle.types.specs.Answers.{checked_of}
use Rattle.plan.proofs.Wholes.{plan-held, whole-stopped, check-stops, bounded, check-passes}
use Rattle.plan.proofs.check.Goals as goal

pub passed-requires : goal.passed-requires
passed-requires c = bounded _ (plan-held _ c.in-Ok.ensures)

pub returns-in-Ok : goal.returns-in-Ok
returns-in-Ok c = c.passed.ensures ∙ ap checked_of (sym (check-passes _ (plan-held _ c.in-Ok.ensures)))

pub returns-in-Err : goal.returns-in-Err
returns-in-Err c = c.refused.ensures ∙ ap checked_of (sym (check-stops _ (whole-stopped _ c.in-Err.ensures)))
