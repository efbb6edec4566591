use mathlib.Core.Path.{◌≡◌}
use lib.ListN.{take}
use Rattle.types.specs.Types.{axes_of}
use Rattle.groups.proofs.list_of.Given as goal

abbrev pub invariant-loop-axis : goal.invariant-loop-axis
invariant-loop-axis l = axes_of l.list ≡ take l.axis-index l.axes
