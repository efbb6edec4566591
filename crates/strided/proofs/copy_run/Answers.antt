use native.Mathlib.Omega.{arith}
use mathlib.Core.Path.{refl}
use Rattle.laws.proofs.Fronts.{fill-word, fill-all}
use Rattle.strided.proofs.copy_run.Goals as goal

pub loop-t-preserved : goal.loop-t-preserved
loop-t-preserved c = fill-word c.loop-t.invariant (omega arith) refl

pub returns : goal.returns
returns c = let r = c.copy_fours-t in
    let s = c in
    fill-all 0 r.new.to s.args.from.now c.loop-t.invariant (omega arith) (omega (arith, s.requires, r.auto.to))
