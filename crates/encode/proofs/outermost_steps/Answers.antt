use native.Mathlib.Omega.{arith}
use Rattle.encode.proofs.Counting.{counting-step, counting-done}
use Rattle.encode.proofs.outermost_steps.Goals as goal

pub loop-i-preserved : goal.loop-i-preserved
loop-i-preserved c =
    counting-step c.loop-i.invariant (omega arith) c.inner_at.ensures.1 c.from-outer.ensures c.saturating_sub.ensures

pub returns-then-count-i : goal.returns-then-count-i
returns-then-count-i c = counting-done c.loop-i.invariant (omega arith)

pub returns-after-loop-i : goal.returns-after-loop-i
returns-after-loop-i c = counting-done c.loop-i.invariant (omega arith)
