use mathlib.Core.Path.{refl, ap, ◌∙◌}
use lib.Dec.{ltb}
use Rattle.std.proofs.Common.{rules, tests}
use Rattle.std.proofs.lemmas.Iterator.{YieldsList-from_slice}
use Rattle.std.proofs.lemmas.Iterator.Search.{all_from_yields_List}
use Rattle.rules.specs.PlanFile.{all_below}
use Rattle.types.specs.declared.Axis.{Axis}
use Rattle.axes.proofs.Slices.{all-axes}
use Rattle.axes.proofs.all_below.Goals as goal

pub returns : goal.returns
unfolding all_below
returns c =
    let n = c.args.n in
    all_from_yields_List (λ (x : Axis). ltb x.0 n) _ _ _ c.all.ensures.ran (YieldsList-from_slice c.as_slice.result.now cc) (λ x b q k. search (rules, tests))
    ∙ all-axes (all_below n) (λ a. ltb a n) refl (λ a l. refl) c.as_slice.result.now ∙ ap (all_below n) c.as_slice.ensures
