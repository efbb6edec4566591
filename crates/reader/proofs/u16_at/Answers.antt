use Rattle.std.proofs.Common.{arith}
use Rattle.std.proofs.lemmas.Grind.{common_steps}
use Rattle.rules.specs.PlanFile.{u16_at}
use Rattle.reader.proofs.u16_at.Goals as goal

pub returns-in_default : goal.returns-in_default
unfolding u16_at
returns-in_default c = grind (arith, common_steps, c.in_default.ensures)

pub returns : goal.returns
unfolding u16_at
returns c = grind (arith, common_steps, c.in-Some.ensures)
