use Rattle.encode.proofs.Counting.{Counting}
use Rattle.encode.proofs.outermost_steps.Given as goal

abbrev pub invariant-loop-i : goal.invariant-loop-i
invariant-loop-i l = Counting l.steps l.outer l.still l.i
