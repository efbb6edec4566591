use Rattle.rules.specs.Spread.{add_words}
use Rattle.sums.proofs.Sharing.{upto-group, upto_skip}
use Rattle.sums.proofs.reduce_groups.Goals as goal
use Rattle.sums.proofs.reduce_groups.Goals.{then-first-at, else-first-at}

pub reduce-requires-clause-group : goal.reduce-requires-clause-group
reduce-requires-clause-group c = rw (c.loop-d.auto.words, ← c.if-first-at.true) (c.requires.groups.groups c.loop-d.d c.loop-d-test.true)

pub loop-d-preserved : goal.loop-d-preserved
loop-d-preserved c =
    let l = c.loop-d in
    let t = c.loop-d-test.true in
    let g = c.requires.groups in
    let m = c.requires.some.members in
    let old = c.args.words.now in
    elim c.if-first-at.branch [
      | then-first-at w ↦ rw w.words-is (upto-group add_words 0 old g m l.d l.words w.reduce.new.words t w.if-first-at.true l.invariant w.reduce.ensures)
      | else-first-at w ↦ rw w.words-is (upto_skip add_words 0 old g m l.d l.words w.if-first-at.false l.invariant)
    ]
