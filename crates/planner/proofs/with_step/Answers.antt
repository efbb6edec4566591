use Rattle.planner.proofs.Three.{more}
use Rattle.planner.proofs.with_step.Goals as goal

pub returns-then-naming : goal.returns-then-naming
returns-then-naming c ts t e f = more _ _ _ c.count-at.ensures c.requires ts t e f c.if-naming.true
