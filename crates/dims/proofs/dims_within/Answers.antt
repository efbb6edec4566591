use mathlib.Core.Path.{ap, ◌∙◌}
use mathlib.Core.List.{[], ◌∷◌}
use Rattle.types.specs.Types.{list_from, lists_from}
use Rattle.dims.proofs.dims_within.Goals as goal

pub returns : goal.returns
unfolding lists_from
returns c = (λ i. record {
  0 = (c.cleared.ensures ∙ ap list_from c.list_at.ensures) i
      ∷ (c.cleared-2.ensures ∙ ap list_from c.list_at-2.ensures) i
      ∷ (c.cleared-3.ensures ∙ ap list_from c.list_at-3.ensures) i
      ∷ (c.cleared-4.ensures ∙ ap list_from c.list_at-4.ensures) i
      ∷ [];
})
