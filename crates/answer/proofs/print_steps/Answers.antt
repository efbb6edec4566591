use mathlib.Core.Path.{sym}
use Rattle.rules.specs.Limits.{most_depth}
use Rattle.blocks.proofs.Next.{judging-next}
use Rattle.answer.proofs.print_steps.Goals as goal

pub loop-k-preserved : goal.loop-k-preserved
loop-k-preserved g c = judging-next _ most_depth _ _ _ c.loop-k.invariant (sym c.in-Ok.ensures)
