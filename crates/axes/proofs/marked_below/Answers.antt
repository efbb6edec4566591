use native.Mathlib.Omega.{arith}
use Prim.Native.Nat.{ℕ}
use mathlib.Core.Bool.{true, false}
use mathlib.Core.List.{List, [], ◌∷◌, ◌++◌, append-nil}
use mathlib.Core.Path.{sym, ap, ◌∙◌}
use Rattle.types.specs.Types.{axes_of}
use Rattle.axes.proofs.Lists.{one-more}
use Rattle.axes.proofs.Naming.{marked_next}
use lib.ListN.{length}
use Rattle.rules.specs.Lists.{keep}
use Rattle.axes.proofs.marked_below.Goals as goal
use Rattle.axes.proofs.marked_below.Goals.{then-is_marked, else-is_marked}

pub loop-i-init : goal.loop-i-init
unfolding keep
loop-i-init c = (c.empty-kept.ensures, omega (arith, ap length c.empty-kept.ensures))

pub loop-i-preserved : goal.loop-i-preserved
unfolding keep
loop-i-preserved c =
    let l = c.loop-i in
    elim c.if-is_marked.branch [
      | then-is_marked w ↦
          let e = ap axes_of w.kept-is ∙ w.with-kept.ensures in (
            e ∙ ap (λ (K : List ℕ). K ++ (l.i ∷ [])) l.invariant.0 ∙ marked_next _ l.i true (sym w.if-is_marked.true ∙ c.is_marked.ensures),
            omega (arith, one-more _ _ e, l.invariant.1),
          )
      | else-is_marked w ↦
          let e = ap axes_of w.kept-is in (
            e ∙ l.invariant.0 ∙ sym (append-nil _) ∙ marked_next _ l.i false (sym w.if-is_marked.false ∙ c.is_marked.ensures),
            omega (arith, ap length e, l.invariant.1),
          )
    ]
