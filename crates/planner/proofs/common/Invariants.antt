use Rattle.types.specs.Types.{axes_of}
use Rattle.planner.proofs.Tails.{Common}
use Rattle.planner.proofs.common.Given as goal

abbrev pub invariant-loop-i : goal.invariant-loop-i
invariant-loop-i l = Common (axes_of l.start) (axes_of l.goal) l.i
