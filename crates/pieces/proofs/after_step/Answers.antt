use mathlib.Core.Path.{sym, ◌∙◌}
use Rattle.pieces.proofs.Blocks.{next-inner}
use Rattle.pieces.proofs.after_step.Goals as goal

pub returns-then-rest-ne0 : goal.returns-then-rest-ne0
returns-then-rest-ne0 c = next-inner c.loop-frame.invariant (sym c.innermost.ensures ∙ c.in-Some.is) c.if-rest-ne0.true
