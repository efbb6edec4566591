use mathlib.Core.Path.{◌≡◌}
use mathlib.Core.List.{◌++◌}
use lib.ListN.{drop}
use Rattle.rules.specs.Lists.{without}
use Rattle.types.specs.Types.{axes_of, numbers_of}
use Rattle.groups.proofs.extended.Given as goal

abbrev pub invariant-loop-axis : goal.invariant-loop-axis
invariant-loop-axis l =
    axes_of l.initial.whole ++ without (axes_of l.fn.more) (axes_of l.but)
    ≡ axes_of l.whole ++ without (numbers_of (drop l.axis-index l.axis-items)) (axes_of l.but)
