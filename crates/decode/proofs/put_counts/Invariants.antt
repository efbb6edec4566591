use mathlib.Core.List.{[], ◌∷◌}
use lib.ListN.{length, get_or, take}
use Rattle.rules.specs.Limits.{most_dims}
use Rattle.types.specs.Types.{dims_of}
use Rattle.decode.proofs.Forms.{Parts}
use Rattle.decode.proofs.put_counts.Given as goal

abbrev pub invariant-loop-d : goal.invariant-loop-d
invariant-loop-d l = Parts 1 most_dims (λ j. length (get_or (take l.rank (dims_of l.lists)) j []) ∷ []) l.initial.out l.out l.at l.next l.d
