use Rattle.std.proofs.Common.{◌∙◌}
use Rattle.records.specs.PlanAnswer.{steps_planned}
use Rattle.capi.specs.Boundary.{planned_reply}
use Rattle.capi.proofs.Replies.{plan-refused, plan-told}
use Rattle.capi.proofs.ishkrela_plan.Goals as goal

pub returns-in-Ok : goal.returns-in-Ok
returns-in-Ok c =
    let a = c.args in
    c.plan_made.ensures ∙ plan-told _ _ _ _ _ c.plan-planned.ensures c.in-Ok.is
    ∙ (λ i. planned_reply (steps_planned a.mesh.now a.order.now a.table.now (c.from-from.ensures i) (c.from-to.ensures i)))

pub returns-in-Err : goal.returns-in-Err
returns-in-Err c =
    let a = c.args in
    c.plan_refused.ensures ∙ plan-refused _ _ _ _ _ c.plan-planned.ensures c.in-Err.is
    ∙ (λ i. planned_reply (steps_planned a.mesh.now a.order.now a.table.now (c.from-from.ensures i) (c.from-to.ensures i)))
