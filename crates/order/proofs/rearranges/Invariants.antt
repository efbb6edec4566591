use mathlib.Core.Path.{◌≡◌}
use lib.ListN.{length}
use Rattle.rules.specs.Limits.{most_devices}
use Rattle.order.proofs.Loops.{Marked}
use Rattle.order.proofs.rearranges.Given as goal

abbrev pub invariant-loop-number : goal.invariant-loop-number
invariant-loop-number l = Marked l.n l.order l.seen l.number-index × (length l.seen ≡ most_devices)
