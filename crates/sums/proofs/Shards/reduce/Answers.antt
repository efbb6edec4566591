use Rattle.std.proofs.Common.{◌≡◌, ◌+◌, arith}
use Rattle.rules.specs.Spread.{add_words}
use Rattle.sums.proofs.Sharing.{block-step}
use Rattle.sums.proofs.Shards.reduce.Goals as goal

-- a whole block, or what is left, is done
pub loop-done-preserved : goal.loop-done-preserved
loop-done-preserved c =
    let l = c.loop-done in
    let b : c.min.result ≡ 4096 = omega arith in
    let e : l.done + c.min.result ≡ l.done + 4096 = omega arith in (
      omega arith,
      rw e at (block-step add_words 0 c.args.words.now c.requires.group c.requires.some.members l.done c.min.result l.words c.reduce_block.new.words (omega arith) l.invariant.1 c.reduce_block.ensures),
    )

pub returns-2 : goal.returns-2
returns-2 c =
    let l = c.loop-done in
    let e : l.done + c.min.result ≡ c.args.self.m = omega arith in
    rw e at (block-step add_words 0 c.args.words.now c.requires.group c.requires.some.members l.done c.min.result l.words c.reduce_block.new.words (omega arith) l.invariant.1 c.reduce_block.ensures)
