use Prim.Native.Nat.{◌-◌}
use lib.ListN.{length}
use Rattle.order.proofs.Loops.{Inverted}
use Rattle.order.proofs.invert.Given as goal

abbrev pub invariant-loop-i : goal.invariant-loop-i
invariant-loop-i l = Inverted (length l.initial.places) l.order l.places l.i

abbrev pub decreases-loop-i : goal.decreases-loop-i
decreases-loop-i l = length l.order - l.i
