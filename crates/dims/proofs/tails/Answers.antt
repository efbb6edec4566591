use native.Mathlib.Omega.{arith}
use mathlib.Core.List.{[]}
use mathlib.Core.Path.{sym, ◌∙◌}
use Rattle.rules.specs.PlanFile.{is_tail}
use Rattle.dims.proofs.Pairs.{testing, fails, passes}
use Rattle.dims.proofs.Dims.{dims-length, list_at}
use Rattle.dims.proofs.tails.Goals as goal

pub loop-d-init : goal.loop-d-init
loop-d-init c = let a = c.args in
    testing is_tail _ _ a.rank (dims-length a.dims a.rank (c.well_formed.0.1.1.0.1.0.1) (omega arith))
    (dims-length a.lists a.rank (c.well_formed.1.0.1.1.0.1.0.1) (omega arith))

pub returns-then-not-is_tail : goal.returns-then-not-is_tail
returns-then-not-is_tail c = let a = c.args in
    let h = c.loop-d-test.true in
    let p = list_at a.dims a.rank c.loop-d.d _ h c.at-list.ensures in
    let q = list_at a.lists a.rank c.loop-d.d _ h c.at-tail.ensures in
    sym (fails c.loop-d.invariant h _ [] p _ [] q (sym c.is_tail.ensures ∙ c.if-not-is_tail.true))

pub loop-d-preserved : goal.loop-d-preserved
loop-d-preserved c = let a = c.args in
    let h = c.loop-d-test.true in
    let p = list_at a.dims a.rank c.loop-d.d _ h c.at-list.ensures in
    let q = list_at a.lists a.rank c.loop-d.d _ h c.at-tail.ensures in
    passes c.loop-d.invariant h _ [] p _ [] q (sym c.is_tail.ensures ∙ c.if-not-is_tail.false)
