use native.Mathlib.Omega.{arith}
use Rattle.types.proofs.Types.{axes-length}
use Rattle.planner.proofs.Tails.{rest-room}
use Rattle.planner.proofs.rest.Goals as goal

pub with-tail-requires : goal.with-tail-requires
with-tail-requires c =
    omega (arith, rest-room c.loop-i.invariant, c.len-i-end.ensures, c.loop-i-test.true, axes-length c.args.list (omega arith))
