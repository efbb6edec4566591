use mathlib.Core.Path.{◌≡◌}
use lib.ListN.{take, drop}
use Rattle.types.specs.Types.{dims_of}
use Rattle.dims.proofs.Pairs.{Making}
use Rattle.records.specs.Planning.{rest_of_start}
use Rattle.planner.proofs.rests.Given as goal

abbrev pub invariant-loop-d : goal.invariant-loop-d
invariant-loop-d l = Making rest_of_start (take l.rank (dims_of l.start)) (take l.rank (dims_of l.goal)) (dims_of l.next) l.rank l.d
    × (drop l.rank (dims_of l.next) ≡ drop l.rank (dims_of l.start))
