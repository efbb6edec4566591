use mathlib.Core.Path.{sym}
use Rattle.std.proofs.lemmas.Result.{err_from_is_err_and}
use Rattle.blocks.proofs.Heads.{count-stops, number-stops, too-deep, head-is}
use Rattle.blocks.proofs.read_repeat.Goals as goal

pub returns-in_err-count : goal.returns-in_err-count
returns-in_err-count c = let p = err_from_is_err_and c.from_residual.result c.from_residual.ensures.1 in
    rw (p.1, p.2) (sym (count-stops _ _ _ _ (sym c.in_err-count.ensures)))

pub returns-in_err-inner : goal.returns-in_err-inner
returns-in_err-inner c = let p = err_from_is_err_and c.from_residual-in_err-inner.result c.from_residual-in_err-inner.ensures.1 in
    rw (p.1, p.2) (sym (number-stops _ _ _ _ (sym c.in_ok-count.ensures) (sym c.in_err-inner.ensures)))

pub returns-then-depth-eq0 : goal.returns-then-depth-eq0
returns-then-depth-eq0 c = sym (too-deep _ _ _ _ (sym c.in_ok-count.ensures) (sym c.in_ok-inner.ensures) c.if-depth-eq0.true)

pub returns : goal.returns
returns c = sym (head-is _ _ _ _ (sym c.in_ok-count.ensures) (sym c.in_ok-inner.ensures) c.if-depth-eq0.false)
