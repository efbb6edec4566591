use Rattle.given.proofs.Sizes.{places-are}
use Rattle.given.proofs.places.Goals as goal

pub returns : goal.returns
returns g c = rw c.copy_from_slice.ensures.after (places-are c.args.sizes.now g.row.N c.min-count.result c.min-count.ensures)
