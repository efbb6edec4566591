use mathlib.Core.Path.{refl, ap₂, ◌∙◌}
use Rattle.rules.specs.PlanFile.{same}
use Rattle.blocks.proofs.Same.{same-numbers}
use Rattle.blocks.proofs.same_list.Goals as goal

pub returns : goal.returns
returns c = c.eq.ensures ∙ same-numbers _ (λ x y. refl) _ _ ∙ ap₂ same c.as_slice.ensures c.as_slice-2.ensures
