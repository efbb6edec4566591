use native.Mathlib.Omega.{arith}
use mathlib.Core.Path.{sym}
use Rattle.std.proofs.lemmas.Result.{IfOk-from_err}
use Rattle.reader.proofs.Answers.{handed-on, refused-so}
use Rattle.plan.proofs.Wholes.{plan-held, whole-stopped}
use Rattle.plan.proofs.States.{state-stops, no-such-state, state-is}
use Rattle.plan.proofs.state_after.Goals as goal

pub returns-in_err-keeping : goal.returns-in_err-keeping
returns-in_err-keeping c = let e = c.from_residual.ensures in
    (handed-on _ _ _ e.1 (state-stops _ _ (whole-stopped _ c.in_err-keeping.ensures.whole)), IfOk-from_err _ _ e.0)

pub returns-then-whole-state : goal.returns-then-whole-state
returns-then-whole-state c =
    (refused-so c.outside.ensures (no-such-state _ _ (plan-held _ c.in_ok-keeping.ensures.whole) c.if-whole-state.true), tt)

pub shard_of-shard-requires : goal.shard_of-shard-requires
shard_of-shard-requires c = let f = (plan-held _ c.in_ok-keeping.ensures.whole).2.ready.fits in
    (f.rank, f.sized)

pub returns : goal.returns
returns c = let j = c.in_ok-keeping.ensures in
    let h = plan-held _ j.whole in
    let f = h.2.ready.fits in (
      sym (state-is _ _ h c.if-whole-state.false _ j.keeps c.shard_of-shard.result c.shard_of-shard.ensures.1),
      record {
        counted = j.whole.counted;
        rank_is = c.shard_of-shard.ensures.0;
        rank_few = omega (arith, c.shard_of-shard.ensures.0, f.rank);
        axes_few = f.axes;
      },
    )
