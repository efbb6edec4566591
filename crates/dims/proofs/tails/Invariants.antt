use lib.ListN.{take}
use Rattle.rules.specs.PlanFile.{is_tail}
use Rattle.types.specs.Types.{dims_of}
use Rattle.dims.proofs.Pairs.{Testing}
use Rattle.dims.proofs.tails.Given as goal

abbrev pub invariant-loop-d : goal.invariant-loop-d
invariant-loop-d l = Testing is_tail (take l.rank (dims_of l.dims)) (take l.rank (dims_of l.lists)) l.rank l.d
