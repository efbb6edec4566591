use native.Mathlib.Omega.{arith}
use mathlib.Core.Bool.{true, false}
use mathlib.Core.List.{List, ◌++◌, append-nil}
use mathlib.Core.Path.{sym, ap, ◌∙◌}
use lib.ListN.{length, drop}
use Prim.Native.Nat.{ℕ, ◌+◌}
use Rattle.rules.specs.Lists.{without as without_of}
use Rattle.types.specs.Types.{axes_of}
use Rattle.types.proofs.Types.{axes-length}
use Rattle.axes.proofs.Going.{begin, onward, finish}
use Rattle.axes.proofs.Lists.{keeps, one-more}
use Rattle.axes.proofs.Slices.{axis-in, axes-count}
use Rattle.axes.proofs.without.Goals as goal
use Rattle.axes.proofs.without.Goals.{then-not-is_in, else-not-is_in}

pub loop-axis-init : goal.loop-axis-init
loop-axis-init c =
    let n = axes-count c.as_slice-axis-items.result.now c.as_slice-axis-items.ensures in (
      rw c.empty-kept.ensures (begin _ _ _ n),
      omega (arith, ap length c.empty-kept.ensures),
      omega (arith, n, axes-length c.args.list c.well_formed.0.1.1.1.0.1.0.1),
    )

pub loop-axis-preserved : goal.loop-axis-preserved
loop-axis-preserved c =
    let l = c.loop-axis in
    let a = axis-in c.as_slice-axis-items.result.now c.as_slice-axis-items.ensures l.axis-index in
    let L = axes_of c.args.other in
    let rest = drop (l.axis-index + 1) (axes_of c.args.list) in
    elim c.if-not-is_in.branch [
      | then-not-is_in w ↦
          let e = ap axes_of w.kept-is ∙ w.with-kept.ensures in (
            onward l.invariant.0 c.loop-axis-test.true _ 0 a _
                (keeps (axes_of l.kept) L rest false _ (sym w.if-not-is_in.true ∙ c.is_in.ensures) ∙ ap (λ (K : List ℕ). K ++ without_of rest L) (sym e)),
            omega (arith, one-more _ _ e, l.invariant.1),
            l.invariant.2,
          )
      | else-not-is_in w ↦
          let e = ap axes_of w.kept-is in (
            onward l.invariant.0 c.loop-axis-test.true _ 0 a _
                (keeps (axes_of l.kept) L rest true _ (sym w.if-not-is_in.false ∙ c.is_in.ensures)
                ∙ ap (λ (K : List ℕ). K ++ without_of rest L) (append-nil _ ∙ sym e)),
            omega (arith, ap length e, l.invariant.1),
            l.invariant.2,
          )
    ]

pub returns : goal.returns
unfolding without_of
returns c = sym (finish c.loop-axis.invariant.0 c.loop-axis-test.false ∙ append-nil _)
