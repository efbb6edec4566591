use lib.ListN.{take}
use Rattle.types.specs.Types.{dims_of}
use Rattle.encode.proofs.Puts.{Lists}
use Rattle.encode.proofs.put_lists.Given as goal

abbrev pub invariant-loop-list : goal.invariant-loop-list
invariant-loop-list l = Lists l.initial.out l.out l.at l.place (take l.rank (dims_of l.fn.lists)) l.list-index
