-- The locality of one step of an accepted plan (`locality`). Assumes nothing.
use mathlib.Core.Path.{sym, subst}
use Rattle.rules.specs.Lists.{Below}
use Rattle.rules.specs.Collectives.{stepped}
use Rattle.rules.specs.PlanFile.{announced_shape}
use Rattle.laws.specs.Demands.{Locality}
use Rattle.laws.proofs.Sources.{step_local}
use Rattle.laws.proofs.Accepted.{AcceptedPlan, accepted}
use Rattle.laws.proofs.Next.{next-shape, next-ready}

pub locality : Locality
unfolding stepped
locality file p e k t rest d W addAll v w x bx same i bi =
    let a : AcceptedPlan p = accepted file p e in
    step_local p.mesh addAll t (announced_shape p k) v w x i (next-ready a k t rest d) bx (subst (Below i) (sym (next-shape a k t rest d)) bi) same
