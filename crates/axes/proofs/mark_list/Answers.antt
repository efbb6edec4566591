use mathlib.Core.Path.{refl, sym, ◌∙◌}
use Rattle.axes.specs.Marks.{marks_with}
use Rattle.axes.proofs.Going.{begin, onward, finish}
use Rattle.axes.proofs.Slices.{axis-in, axes-count}
use Rattle.axes.proofs.mark_list.Goals as goal

pub loop-axis-init : goal.loop-axis-init
loop-axis-init c = (refl, begin _ _ _ (axes-count c.as_slice-axis-items.result.now c.as_slice-axis-items.ensures))

pub loop-axis-preserved : goal.loop-axis-preserved
unfolding marks_with
loop-axis-preserved c =
    let l = c.loop-axis in
    let a = axis-in c.as_slice-axis-items.result.now c.as_slice-axis-items.ensures l.axis-index in
    (c.mark.auto.marks ∙ l.invariant.0, onward l.invariant.1 c.loop-axis-test.true _ 0 a _ (rw c.mark.ensures refl))

pub returns : goal.returns
unfolding marks_with
returns c = sym (finish c.loop-axis.invariant.1 c.loop-axis-test.false)
