use native.Mathlib.Omega.{arith}
use Rattle.strided.specs.Strided.{repeated}
use Rattle.laws.proofs.Fronts.{fill-word, fill_end}
use Rattle.strided.proofs.Repeats.{repeat-start, repeat-word}
use Rattle.strided.proofs.repeat_words.Goals as goal

pub loop-t-init : goal.loop-t-init
unfolding repeated
loop-t-init c = (omega arith, repeat-start 0 c.args.to.now c.args.period c.requires.1)

pub loop-t-preserved : goal.loop-t-preserved
unfolding repeated
loop-t-preserved c = let l = c in
    let s = c in
    (omega arith, fill-word l.loop-t.invariant.1 (omega arith) (repeat-word 0 s.args.to.now s.args.period s.requires.0 l.loop-t.invariant.0 l.loop-t.invariant.1))

pub returns : goal.returns
unfolding repeated
returns c = fill_end c.loop-t.invariant.1 (omega arith)
