use mathlib.Core.Path.{sym, ◌∙◌}
use lib.ListN.{length}
use Rattle.std.proofs.lemmas.Result.{err_from_is_err_and}
use Rattle.given.proofs.Whole.{axes_few, shaped, then-stop, then-on}
use Rattle.planner.proofs.Routes.{sharding-judged, reach-decides}
use Rattle.planner.proofs.judge_route.Goals as goal

pub returns-in_err-judge_shape : goal.returns-in_err-judge_shape
returns-in_err-judge_shape c = let r = c.from_residual in
    let p = err_from_is_err_and r.result r.ensures.1 in
    rw (p.1, p.2) (then-stop _ _ c.in_err-judge_shape.ensures)

pub judge_sharding-requires : goal.judge_sharding-requires
judge_sharding-requires c = let a = c.args in
    shaped a.mesh.now a.order.now a.table.now 0 (sym c.in_ok-judge_shape.ensures) _ _ c.mesh_of-m.ensures c.table_of-t.ensures

pub returns-in_err-judge_sharding : goal.returns-in_err-judge_sharding
returns-in_err-judge_sharding c = let a = c.args in
    let r = c.from_residual-in_err-judge_sharding in
    let p = err_from_is_err_and r.result r.ensures.1 in
    let s = c.in_ok-judge_shape.ensures in
    let first = sharding-judged a.mesh.now a.order.now a.table.now s _ _ a.start c.mesh_of-m.ensures c.table_of-t.ensures in
    rw (p.1, p.2) (then-stop _ _ (c.in_err-judge_sharding.ensures ∙ first) ∙ then-on _ s)

pub judge_sharding-requires-2 : goal.judge_sharding-requires-2
judge_sharding-requires-2 c = let a = c.args in
    shaped a.mesh.now a.order.now a.table.now 0 (sym c.in_ok-judge_shape.ensures) _ _ c.mesh_of-m.ensures c.table_of-t.ensures

pub returns-in_err-judge_sharding-2 : goal.returns-in_err-judge_sharding-2
returns-in_err-judge_sharding-2 c = let a = c.args in
    let r = c.from_residual-in_err-judge_sharding-2 in
    let p = err_from_is_err_and r.result r.ensures.1 in
    let s = c.in_ok-judge_shape.ensures in
    let first = sharding-judged a.mesh.now a.order.now a.table.now s _ _ a.start c.mesh_of-m.ensures c.table_of-t.ensures in
    let second = sharding-judged a.mesh.now a.order.now a.table.now s _ _ a.goal c.mesh_of-m.ensures c.table_of-t.ensures in
    rw (p.1, p.2) (then-stop _ _ (c.in_err-judge_sharding-2.ensures ∙ second) ∙ then-on _ (c.in_ok-judge_sharding.ensures ∙ first) ∙ then-on _ s)

pub returns : goal.returns
returns c = let a = c.args in
    let s = c.in_ok-judge_shape.ensures in
    let first = sharding-judged a.mesh.now a.order.now a.table.now s _ _ a.start c.mesh_of-m.ensures c.table_of-t.ensures in
    let second = sharding-judged a.mesh.now a.order.now a.table.now s _ _ a.goal c.mesh_of-m.ensures c.table_of-t.ensures in
    let o = c.in_ok-judge_sharding.ensures ∙ first in
    let q = c.in_ok-judge_sharding-2.ensures ∙ second in
    c.judge_reach.ensures (length a.table.now)
    ∙ reach-decides a.mesh.now a.order.now a.table.now a.start a.goal (axes_few a.mesh.now a.order.now a.table.now 0 (sym s)) o q
    ∙ then-on _ q ∙ then-on _ o ∙ then-on _ s
