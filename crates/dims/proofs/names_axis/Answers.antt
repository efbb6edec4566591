use native.Mathlib.Omega.{arith}
use mathlib.Core.List.{[]}
use mathlib.Core.Path.{sym, ◌∙◌}
use Rattle.types.specs.Types.{axes_of}
use Rattle.axes.proofs.Going.{begin, ahead}
use Rattle.dims.proofs.Dims.{dims-length, list_at, some-here}
use Rattle.dims.proofs.names_axis.Goals as goal

pub loop-d-init : goal.loop-d-init
loop-d-init c = begin _ _ _ (sym (dims-length c.args.lists c.args.rank (c.well_formed.0.1.1.0.1.0.1) (omega arith)))

pub returns-then-len-ne0 : goal.returns-then-len-ne0
returns-then-len-ne0 c = let a = c.args in
    let h = c.loop-d-test.true in
    let l = axes_of c.at-list.result in
    sym (ahead c.loop-d.invariant h l [] (list_at a.lists a.rank c.loop-d.d l h c.at-list.ensures)
    ∙ some-here l _ (λ e. c.if-len-ne0.true (c.len.ensures ∙ e)))
