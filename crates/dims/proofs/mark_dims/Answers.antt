use native.Mathlib.Omega.{arith}
use mathlib.Core.List.{[]}
use mathlib.Core.Path.{refl, sym, ◌∙◌}
use Rattle.types.specs.Types.{axes_of}
use Rattle.axes.specs.Marks.{marks_with}
use Rattle.axes.proofs.Going.{begin, onward, finish}
use Rattle.axes.proofs.Naming.{with_append}
use Rattle.dims.proofs.Dims.{dims-length, list_at}
use Rattle.dims.proofs.mark_dims.Goals as goal

pub loop-d-init : goal.loop-d-init
unfolding marks_with
loop-d-init c = let a = c.args in
    (refl, begin _ _ _ (sym (dims-length a.lists a.rank (c.well_formed.0.1.1.0.1.0.1) (omega arith))))

pub loop-d-preserved : goal.loop-d-preserved
unfolding marks_with
loop-d-preserved c = let a = c.args in
    let i = c.loop-d.invariant in
    let h = c.loop-d-test.true in
    let l = c.at-list in
    let m = c.mark_list in (
      m.auto.marks ∙ i.0,
      onward i.1 h (axes_of l.result) [] (list_at a.lists a.rank _ _ h l.ensures) _
          (rw m.ensures (with_append _ (axes_of l.result) _)),
    )

pub returns : goal.returns
unfolding marks_with
returns c = sym (finish c.loop-d.invariant.1 c.loop-d-test.false)
