use mathlib.Core.Path.{sym, ◌∙◌}
use lib.ListN.{length}
use Rattle.std.proofs.lemmas.Result.{err_from_is_err_and}
use Rattle.given.proofs.Whole.{shaped, in_parts, rest_of, then-stop, then-on}
use Rattle.given.proofs.judge_records.Goals as goal

pub returns-in_err-judge_shape : goal.returns-in_err-judge_shape
returns-in_err-judge_shape c = let a = c.args in
    let r = c.from_residual in
    let p = err_from_is_err_and r.result r.ensures.1 in
    let n = c.outermost_steps-count.ensures (length a.sizes.now) in
    rw (p.1, p.2) (then-stop _ _ c.in_err-judge_shape.ensures ∙ sym (in_parts a.mesh.now a.order.now a.sizes.now a.start a.steps.now n))

pub judge_rest-requires : goal.judge_rest-requires
judge_rest-requires c = let a = c.args in
    shaped a.mesh.now a.order.now a.sizes.now c.outermost_steps-count.result (sym c.in_ok-judge_shape.ensures) _ _ c.mesh_of-axes.ensures
    c.table_of-table.ensures

pub returns : goal.returns
returns c = let a = c.args in
    let n = c.outermost_steps-count.ensures (length a.sizes.now) in
    let e = c.in_ok-judge_shape.ensures in
    c.judge_rest.ensures
    ∙ rest_of a.mesh.now a.order.now a.sizes.now a.start a.steps.now n (sym e) _ _ c.mesh_of-axes.ensures c.table_of-table.ensures
    ∙ then-on _ e ∙ sym (in_parts a.mesh.now a.order.now a.sizes.now a.start a.steps.now n)
