use mathlib.Core.Path.{refl, ap, ◌∙◌}
use lib.Dec.{eqb}
use Rattle.rules.specs.Lists.{mem}
use Rattle.axes.proofs.Slices.{any-axes, eqb-turned}
use Rattle.axes.proofs.is_in.Goals as goal

pub returns : goal.returns
unfolding mem
returns c =
    let a = c.args.a.0 in
    c.contains.ensures.value ∙ any-axes (mem a) (λ b. eqb b a) refl (λ b l. rw (eqb-turned b a) refl) c.as_slice.result.now ∙ ap (mem a) c.as_slice.ensures
