use mathlib.Core.List.{[]}
use lib.ListN.{get_or, take}
use Rattle.rules.specs.Limits.{most_dims}
use Rattle.types.specs.Types.{dims_of}
use Rattle.records.specs.Forms.{six_places}
use Rattle.decode.proofs.Forms.{Parts}
use Rattle.decode.proofs.put_axes.Given as goal

abbrev pub invariant-loop-d : goal.invariant-loop-d
invariant-loop-d l = Parts 6 most_dims (λ j. six_places (get_or (take l.rank (dims_of l.lists)) j [])) l.initial.out l.out l.at l.next l.d
