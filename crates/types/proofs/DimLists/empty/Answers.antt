use borrow.Author.Rules.{rules}
use Rattle.types.specs.Types.{dims_of}
use Rattle.types.proofs.DimLists.empty.Goals as goal

pub returns : goal.returns
unfolding dims_of
returns c = search rules
