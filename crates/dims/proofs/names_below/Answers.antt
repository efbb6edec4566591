use native.Mathlib.Omega.{arith}
use mathlib.Core.List.{[]}
use mathlib.Core.Path.{sym, ◌∙◌}
use Rattle.rules.specs.PlanFile.{all_below}
use Rattle.types.specs.Types.{axes_of}
use Rattle.axes.proofs.Going.{begin, ahead, onward, finish}
use Rattle.dims.proofs.Dims.{dims-length, list_at, below-append}
use Rattle.dims.proofs.names_below.Goals as goal

pub loop-d-init : goal.loop-d-init
unfolding all_below
loop-d-init c = begin _ _ _ (sym (dims-length c.args.lists c.args.rank (c.well_formed.0.1.1.0.1.0.1) (omega arith)))

pub returns-then-not-all_below : goal.returns-then-not-all_below
unfolding all_below
returns-then-not-all_below c = let a = c.args in
    let h = c.loop-d-test.true in
    let l = axes_of c.at-list.result in
    sym (ahead c.loop-d.invariant h l [] (list_at a.lists a.rank c.loop-d.d l h c.at-list.ensures)
    ∙ below-append a.n l _ ∙ simp (sym c.all_below.ensures ∙ c.if-not-all_below.true))

pub loop-d-preserved : goal.loop-d-preserved
unfolding all_below
loop-d-preserved c = let a = c.args in
    let h = c.loop-d-test.true in
    let l = axes_of c.at-list.result in
    onward c.loop-d.invariant h l [] (list_at a.lists a.rank c.loop-d.d l h c.at-list.ensures) _
    (below-append a.n l _ ∙ simp (sym c.all_below.ensures ∙ c.if-not-all_below.false))

pub returns : goal.returns
unfolding all_below
returns c = sym (finish c.loop-d.invariant c.loop-d-test.false)
