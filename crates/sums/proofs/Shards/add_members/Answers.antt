use Rattle.sums.proofs.Adding.{add-word}
use Rattle.sums.proofs.Shards.add_members.Goals as goal

pub loop-t-preserved : goal.loop-t-preserved
loop-t-preserved g c = rw (c.added_word.ensures, c.loop-t.invariant) (add-word c.args.words.now c.requires.group c.requires.next c.loop-t.t c.loop-t-test.true)
