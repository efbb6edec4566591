use Rattle.rules.specs.PlanFile.{judge_kind}
use Rattle.judge.proofs.judge_kind.Goals as goal

pub returns-in-AllGather : goal.returns-in-AllGather
unfolding judge_kind
returns-in-AllGather c = rw c.in-AllGather.is c.gather_off.ensures
