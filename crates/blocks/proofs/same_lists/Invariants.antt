use lib.ListN.{take}
use Rattle.rules.specs.PlanFile.{same}
use Rattle.types.specs.Types.{dims_of}
use Rattle.dims.proofs.Pairs.{Testing}
use Rattle.blocks.proofs.same_lists.Given as goal

abbrev pub invariant-loop-d : goal.invariant-loop-d
invariant-loop-d l = Testing same (take l.rank (dims_of l.a)) (take l.rank (dims_of l.b)) l.rank l.d
