use mathlib.Core.Path.{ap}
use native.Mathlib.Omega.{arith}
use lib.ListN.{length}
use Rattle.laws.proofs.Lists.{length-tab}
use Rattle.groups.proofs.axes_below.Goals as goal

pub with-all-requires : goal.with-all-requires
with-all-requires c = omega (arith, ap length c.loop-a.invariant, length-tab c.loop-a.a (λ a. a), c.requires)
