use native.Mathlib.Omega.{arith}
use mathlib.Core.List.{append_assoc, ◌∷◌, []}
use mathlib.Core.Path.{sym}
use Rattle.axes.proofs.Going.{begin, onward}
use Rattle.axes.proofs.Lists.{one-more}
use Rattle.axes.proofs.Slices.{axis-in, axes-count}
use Rattle.axes.proofs.join.Goals as goal

pub loop-axis-init : goal.loop-axis-init
loop-axis-init c =
    let n = axes-count c.as_slice-axis-items.result.now c.as_slice-axis-items.ensures in
    (begin _ _ _ n, omega (arith, n, c.requires))

pub loop-axis-preserved : goal.loop-axis-preserved
loop-axis-preserved c =
    let l = c.loop-axis in
    let w = c.with-whole.ensures in
    let a = axis-in c.as_slice-axis-items.result.now c.as_slice-axis-items.ensures l.axis-index in (
      onward l.invariant.0 c.loop-axis-test.true _ 0 a _ (rw w (sym (append_assoc _ (_ ∷ []) _))),
      omega (arith, one-more _ _ w, l.invariant.1),
    )
