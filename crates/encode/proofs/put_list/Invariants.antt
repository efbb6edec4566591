use Rattle.types.specs.Types.{numbers_of}
use Rattle.encode.proofs.Puts.{Axes}
use Rattle.encode.proofs.put_list.Given as goal

abbrev pub invariant-loop-axis : goal.invariant-loop-axis
invariant-loop-axis l = Axes l.initial.out l.out l.initial.place l.place (numbers_of l.axes) l.axis-index
