use mathlib.Core.List.{[], ◌∷◌}
use lib.ListN.{get_or}
use Rattle.rules.specs.Limits.{most_axes}
use Rattle.types.specs.Types.{axes_of}
use Rattle.decode.proofs.Forms.{Parts}
use Rattle.decode.proofs.put_places.Given as goal

abbrev pub invariant-loop-i : goal.invariant-loop-i
invariant-loop-i l = Parts 1 most_axes (λ j. get_or (axes_of l.list) j 0 ∷ []) l.initial.out l.out l.at l.next l.i
