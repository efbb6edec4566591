use Prim.Native.Nat.{◌*◌}
use mathlib.Core.List.{map}
use Rattle.rules.specs.Limits.{most_axes}
use Rattle.types.specs.Types.{axes_of}
use Rattle.laws.proofs.Fronts.{Filled}
use Rattle.marshal.specs.Structs.{axis_among}
use Rattle.marshal.proofs.put_lists.Given as goal

abbrev pub invariant-loop-d : goal.invariant-loop-d
invariant-loop-d l = Filled (axis_among (map axes_of l.lists)) l.initial.axes l.axes (l.d * most_axes)
