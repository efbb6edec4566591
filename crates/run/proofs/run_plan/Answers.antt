use mathlib.Core.Path.{refl, sym, ◌∙◌}
use Rattle.run.proofs.Ordered.{begins-plain}
use Rattle.run.proofs.run_plan.Goals as goal

pub returns-else-carries_order : goal.returns-else-carries_order
returns-else-carries_order c = begins-plain _ _ refl c.requires (sym c.carries_order.ensures ∙ c.if-carries_order.false) c.run_steps.ensures
