use Rattle.types.specs.Types.{axes_of}
use Rattle.planner.proofs.Tails.{Rest}
use Rattle.planner.proofs.rest.Given as goal

abbrev pub invariant-loop-i : goal.invariant-loop-i
invariant-loop-i l = Rest (axes_of l.list) (axes_of l.tail) l.from l.i
