use mathlib.Core.Path.{refl}
use Rattle.records.specs.PlanAnswer.{steps_from}
use Rattle.planner.proofs.no_steps.Goals as goal

pub returns : goal.returns
unfolding steps_from
returns c = refl
