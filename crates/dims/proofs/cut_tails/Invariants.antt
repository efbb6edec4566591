use mathlib.Core.Path.{◌≡◌}
use lib.ListN.{take, drop}
use Rattle.rules.specs.Collectives.{cut_tail}
use Rattle.types.specs.Types.{dims_of}
use Rattle.dims.proofs.Pairs.{Making}
use Rattle.dims.proofs.cut_tails.Given as goal

abbrev pub invariant-loop-d : goal.invariant-loop-d
invariant-loop-d l = Making cut_tail (take l.rank (dims_of l.dims)) (take l.rank (dims_of l.lists)) (dims_of l.next) l.rank l.d
    × (drop l.rank (dims_of l.next) ≡ drop l.rank (dims_of l.dims))
