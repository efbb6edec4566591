use mathlib.Core.Path.{sym, ◌∙◌}
use Rattle.judge.proofs.Steps.{not-tails, gathers}
use Rattle.judge.proofs.gather_off.Goals as goal

pub returns-then-not-tails : goal.returns-then-not-tails
returns-then-not-tails c = sym (not-tails _ _ _ (sym c.tails.ensures ∙ c.if-not-tails.true))

pub returns : goal.returns
returns c = gathers _ _ _ (sym c.tails.ensures ∙ c.if-not-tails.false) c.cut_tails-cut.ensures.0
