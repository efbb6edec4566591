use Rattle.groups.proofs.Tests.{Sizing}
use Rattle.groups.proofs.judge_sizes.Given as goal

abbrev pub invariant-loop-size : goal.invariant-loop-size
invariant-loop-size l = Sizing l.mesh l.product l.size-index
