use mathlib.Core.Path.{sym, ◌∙◌}
use lib.ListN.{length}
use Rattle.std.proofs.lemmas.Result.{err_from_is_err_and}
use Rattle.given.proofs.Whole.{on-mesh, then-stop, then-on}
use Rattle.given.proofs.judge_shape.Goals as goal

pub returns-in_err-judge_limits : goal.returns-in_err-judge_limits
returns-in_err-judge_limits c = let r = c.from_residual in
    let p = err_from_is_err_and r.result r.ensures.1 in
    rw (p.1, p.2) (then-stop _ _ c.in_err-judge_limits.ensures)

pub returns-in_err-judge_sizes : goal.returns-in_err-judge_sizes
returns-in_err-judge_sizes c = let r = c.from_residual-in_err-judge_sizes in
    let p = err_from_is_err_and r.result r.ensures.1 in
    rw (p.1, p.2) (then-stop _ _ c.in_err-judge_sizes.ensures.judges ∙ then-on _ c.in_ok-judge_limits.ensures)

pub judge_mesh_order-requires : goal.judge_mesh_order-requires
judge_mesh_order-requires c = let a = c.args in
    on-mesh a.mesh.now (length a.sizes.now) a.steps (sym c.in_ok-judge_limits.ensures) (sym c.in_ok-judge_sizes.ensures.judges)

pub returns-in_err-judge_mesh_order : goal.returns-in_err-judge_mesh_order
returns-in_err-judge_mesh_order c = let r = c.from_residual-in_err-judge_mesh_order in
    let p = err_from_is_err_and r.result r.ensures.1 in
    rw (p.1, p.2) (then-stop _ _ c.in_err-judge_mesh_order.ensures ∙ then-on _ c.in_ok-judge_sizes.ensures.judges ∙ then-on _ c.in_ok-judge_limits.ensures)

pub returns-in_err-judge_sizes-2 : goal.returns-in_err-judge_sizes-2
returns-in_err-judge_sizes-2 c = let r = c.from_residual-in_err-judge_sizes-2 in
    let p = err_from_is_err_and r.result r.ensures.1 in
    rw (p.1, p.2) (c.in_err-judge_sizes-2.ensures.judges ∙ then-on _ c.in_ok-judge_mesh_order.ensures ∙ then-on _ c.in_ok-judge_sizes.ensures.judges
    ∙ then-on _ c.in_ok-judge_limits.ensures)

pub returns : goal.returns
returns c =
    c.in_ok-judge_sizes-2.ensures.judges ∙ then-on _ c.in_ok-judge_mesh_order.ensures ∙ then-on _ c.in_ok-judge_sizes.ensures.judges
    ∙ then-on _ c.in_ok-judge_limits.ensures
