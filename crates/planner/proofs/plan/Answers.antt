use mathlib.Core.Path.{sym}
use Rattle.planner.proofs.Routes.{plan-refused, plan-made, plan-promise}
use Rattle.planner.proofs.plan.Goals as goal

pub returns-in-Err : goal.returns-in-Err
returns-in-Err c = let a = c.args in
    plan-promise _ _ _ (λ i. (c.type_inv.mesh i).fits) (λ i. (c.type_inv.order i).fits) (λ i. (c.type_inv.table i).fits) _ _ _
    (plan-refused a.mesh.now a.order.now a.table.now a.start a.goal _ c.in-Err.ensures c.no_steps.ensures)

pub returns-in-Ok : goal.returns-in-Ok
returns-in-Ok c = let a = c.args in
    plan-promise _ _ _ (λ i. (c.type_inv.mesh i).fits) (λ i. (c.type_inv.order i).fits) (λ i. (c.type_inv.table i).fits) _ _ _
    (plan-made a.mesh.now a.order.now a.table.now a.start a.goal (sym c.in-Ok.ensures) c.plan_steps.ensures)
