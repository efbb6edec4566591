use Rattle.std.proofs.Common.{◌≡◌, length, ◌∙◌, arith}
use Rattle.sums.specs.Sums.{group_word}
use Rattle.sums.proofs.Adding.{first-shard, add_step}
use Rattle.sums.proofs.Shards.sum.Goals as goal

pub loop-q-init : goal.loop-q-init
loop-q-init c = (omega arith, omega (arith, c.requires.some), first-shard c.args.words.now c.requires)

pub loop-q-preserved : goal.loop-q-preserved
loop-q-preserved c =
    let l = c.loop-q in
    let r = c.add_some-q in (
      omega (arith, l.invariant.0),
      r.ensures.result_nonzero.1,
      r.ensures.words_after ∙ add_step c.args.words.now c.requires l.q r.result l.words (omega (arith, l.invariant.0)) r.ensures.result_nonzero.1 l.invariant.2,
    )

pub returns : goal.returns
unfolding group_word
returns c =
    let l = c.loop-q in
    let e : l.q ≡ length c.args.self.shifts.now = omega (arith, l.invariant.1) in
    rw e at l.invariant.2
