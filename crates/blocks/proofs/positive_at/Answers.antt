use mathlib.Core.Path.{sym, ap, ◌∙◌}
use Rattle.rules.specs.Refusals.{accept}
use Rattle.blocks.proofs.Heads.{positive-past, positive-zero, positive-is}
use Rattle.blocks.proofs.positive_at.Goals as goal

pub returns-in_default : goal.returns-in_default
returns-in_default c = rw c.outside.ensures (sym (positive-past _ _ _ c.in_default.ensures.lookup.3))

pub returns-then-byte-eq0 : goal.returns-then-byte-eq0
returns-then-byte-eq0 c = let byte = c.in-Some.ensures.lookup.3 in
    sym (positive-zero _ _ _ byte.0 (sym (byte.1 0) ∙ c.if-byte-eq0.true))

pub returns : goal.returns
returns c = let byte = c.in-Some.ensures.lookup.3 in
    ap accept (byte.1 0) ∙ sym (positive-is _ _ _ byte.0 (λ e. c.if-byte-eq0.false (byte.1 0 ∙ e)))
