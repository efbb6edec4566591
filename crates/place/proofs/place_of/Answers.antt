use mathlib.Core.Path.{sym, ◌∙◌}
use Rattle.place.proofs.Places.{place-plain}
use Rattle.place.proofs.place_of.Goals as goal

pub returns-then-not-carries_order : goal.returns-then-not-carries_order
returns-then-not-carries_order c = place-plain _ _ _ _ c.requires.2 (sym c.carries_order.ensures ∙ c.if-not-carries_order.true)
