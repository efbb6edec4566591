use Prim.Native.Nat.{◌*◌}
use mathlib.Core.Path.{◌≡◌}
use lib.ListN.{length}
use Rattle.strided.proofs.Joins.{Made}
use Rattle.strided.proofs.join_digits.Given as goal

abbrev pub invariant-loop-i : goal.invariant-loop-i
invariant-loop-i l = Made l.digits l.joined l.first (l.i * 3) × (length l.joined ≡ length l.initial.joined)
