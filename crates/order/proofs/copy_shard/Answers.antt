use native.Mathlib.Omega.{arith}
use Rattle.laws.proofs.Fronts.{fill-all}
use Rattle.order.proofs.copy_shard.Goals as goal

pub returns : goal.returns
returns c = fill-all 0 c.args.to.now c.args.from.now c.loop-t.invariant (omega arith) c.requires
