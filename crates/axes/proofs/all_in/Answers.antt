use mathlib.Core.Path.{refl, ap, ◌∙◌}
use Prim.Native.Nat.{ℕ}
use mathlib.Core.List.{List}
use Rattle.std.proofs.lemmas.Iterator.{YieldsList-from_slice}
use Rattle.std.proofs.lemmas.Iterator.Search.{all_from_yields_List}
use Rattle.std.proofs.Common.{rules, tests}
use Rattle.rules.specs.Lists.{mem}
use Rattle.rules.specs.PlanFile.{all_in}
use Rattle.types.specs.Types.{axes_of}
use Rattle.types.specs.declared.Axis.{Axis}
use Rattle.axes.proofs.Slices.{all-axes}
use Rattle.axes.proofs.all_in.Goals as goal

pub returns : goal.returns
unfolding all_in
returns c =
    let U = axes_of c.args.other in
    let xs = c.as_slice.result.now in
    all_from_yields_List (λ (x : Axis). mem x.0 U) _ _ _ c.all.ensures.ran (YieldsList-from_slice xs cc) (λ x b q k. search (rules, tests))
    ∙ all-axes (λ (L : List ℕ). all_in L U) (λ a. mem a U) refl (λ a l. refl) xs ∙ ap (λ (L : List ℕ). all_in L U) c.as_slice.ensures
