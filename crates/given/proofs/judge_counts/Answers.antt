use mathlib.Core.Path.{refl, sym, ◌∙◌}
use Rattle.std.proofs.lemmas.Result.{err_from_is_err_and}
use Rattle.given.proofs.Counts.{counts-next, counts-fine}
use Rattle.given.proofs.judge_counts.Goals as goal

pub returns-in_err-judge_count : goal.returns-in_err-judge_count
returns-in_err-judge_count c =
    let a = c.args in
    let p = err_from_is_err_and c.from_residual.result c.from_residual.ensures.1 in
    let e = counts-next a.n a.lists.now c.loop-list.list-index c.loop-list-test.true in
    rw (p.1, p.2, c.loop-list.invariant, e, ← c.in_err-judge_count.ensures) refl

pub loop-list-preserved : goal.loop-list-preserved
loop-list-preserved c =
    let a = c.args in
    let e = counts-next a.n a.lists.now c.loop-list.list-index c.loop-list-test.true in
    rw (c.loop-list.invariant, e, ← c.in_ok-judge_count.ensures) refl

pub returns : goal.returns
returns c = sym (c.loop-list.invariant ∙ counts-fine c.args.n c.args.lists.now c.loop-list.list-index c.loop-list-test.false)
