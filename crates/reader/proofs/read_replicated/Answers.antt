use mathlib.Core.Path.{refl}
use Rattle.rules.specs.PlanFile.{replicated_at}
use Rattle.reader.proofs.read_replicated.Goals as goal

pub returns-then-carried : goal.returns-then-carried
unfolding replicated_at
returns-then-carried c = rw c.if-carried.true c.read_list.ensures

pub returns : goal.returns
unfolding replicated_at
returns c = rw (c.if-carried.false, c.empty.ensures) refl
