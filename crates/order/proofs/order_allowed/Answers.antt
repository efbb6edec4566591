use mathlib.Core.Path.{sym, ap, ◌∙◌}
use mathlib.Core.Bool.{not}
use Rattle.order.proofs.Loops.{not-allowed, allowed-unless}
use Rattle.order.proofs.order_allowed.Goals as goal

pub returns-else-rearranges : goal.returns-else-rearranges
returns-else-rearranges c = c.if-rearranges.false ∙ sym (not-allowed _ _ (sym c.rearranges.ensures ∙ c.if-rearranges.false))

pub returns-then-rearranges : goal.returns-then-rearranges
returns-then-rearranges c = ap not c.is_plain.ensures ∙ sym (allowed-unless _ _ (sym c.rearranges.ensures ∙ c.if-rearranges.true))
