use mathlib.Core.List.{◌++◌}
use mathlib.Core.Path.{◌≡◌}
use lib.ListN.{take, drop}
use Rattle.types.specs.Types.{dims_of}
use Rattle.dims.proofs.Pairs.{Making}
use Rattle.dims.proofs.join_lists.Given as goal

abbrev pub invariant-loop-d : goal.invariant-loop-d
invariant-loop-d l = Making ◌++◌ (take l.rank (dims_of l.dims)) (take l.rank (dims_of l.lists)) (dims_of l.next) l.rank l.d
    × (drop l.rank (dims_of l.next) ≡ drop l.rank (dims_of l.dims))
