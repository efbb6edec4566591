use mathlib.Core.Path.{◌≡◌}
use Rattle.rules.specs.Lists.{tab}
use Rattle.types.specs.Types.{axes_of}
use Rattle.groups.proofs.axes_below.Given as goal

abbrev pub invariant-loop-a : goal.invariant-loop-a
invariant-loop-a l = axes_of l.all ≡ tab l.a (λ a. a)
