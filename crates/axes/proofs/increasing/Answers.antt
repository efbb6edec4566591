use mathlib.Core.Path.{sym, ◌∙◌}
use borrow.Author.Tests.{lt-leb, le-leb}
use Rattle.rules.specs.PlanFile.{increasing_from}
use Rattle.axes.proofs.Going.{begin, ahead, onward, finish}
use Rattle.axes.proofs.Slices.{axis-in, axes-count}
use Rattle.axes.proofs.increasing.Goals as goal

pub loop-axis-init : goal.loop-axis-init
loop-axis-init c = begin _ _ _ (axes-count c.as_slice-axis-items.result.now c.as_slice-axis-items.ensures)

pub returns-then-a-low : goal.returns-then-a-low
unfolding increasing_from
returns-then-a-low c =
    let a = axis-in c.as_slice-axis-items.result.now c.as_slice-axis-items.ensures c.loop-axis.axis-index in
    sym (ahead c.loop-axis.invariant c.loop-axis-test.true _ 0 a ∙ simp (lt-leb _ _ c.if-a-low.true))

pub loop-axis-preserved : goal.loop-axis-preserved
unfolding increasing_from
loop-axis-preserved c =
    let a = axis-in c.as_slice-axis-items.result.now c.as_slice-axis-items.ensures c.loop-axis.axis-index in
    onward c.loop-axis.invariant c.loop-axis-test.true _ 0 a _ (simp (le-leb _ _ c.if-a-low.false))

pub returns : goal.returns
unfolding increasing_from
returns c = sym (finish c.loop-axis.invariant c.loop-axis-test.false)
