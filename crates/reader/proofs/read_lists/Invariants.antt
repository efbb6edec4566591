use mathlib.Core.List.{map}
use Rattle.types.specs.Types.{axes_of}
use Rattle.reader.proofs.Listing.{Listing}
use Rattle.reader.proofs.read_lists.Given as goal

abbrev pub invariant-loop-list : goal.invariant-loop-list
invariant-loop-list l = Listing l.file l.at l.n l.rank (map axes_of l.list-items) l.next l.list-index
