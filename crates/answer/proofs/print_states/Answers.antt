use Rattle.plan.proofs.Wholes.{ready}
use Rattle.answer.proofs.print_states.Goals as goal

pub shard_of-requires : goal.shard_of-requires
shard_of-requires g c = let f = (ready _ c.in-Ok.ensures).ready.fits in (f.rank, f.sized)

pub print_steps-requires : goal.print_steps-requires
print_steps-requires g c = ready _ c.in-Ok.ensures
