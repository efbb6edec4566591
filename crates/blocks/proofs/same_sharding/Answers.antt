use mathlib.Core.Path.{sym, ◌∙◌}
use mathlib.Core.Bool.{true≢false}
use Rattle.types.specs.Types.{sharding_of}
use Rattle.blocks.proofs.Same.{dims-differ, unreduced-differ, replicated-decides}
use Rattle.blocks.proofs.same_sharding.Goals.{then-same_lists, else-same_lists}
use Rattle.blocks.proofs.same_sharding.Goals as goal

pub returns-then-same_list : goal.returns-then-same_list
returns-then-same_list c = let a = c.args in elim c.if-same_lists.branch [
  | then-same_lists w ↦ c.same_list-then-same_list.ensures ∙ sym (replicated-decides (sharding_of a.rank a.a) (sharding_of a.rank a.b)
      (sym c.same_lists.ensures ∙ w.if-same_lists.true) (sym w.same_list.ensures ∙ sym w.value-is ∙ c.if-same_list.true))
  | else-same_lists w ↦ absurd (true≢false (sym c.if-same_list.true ∙ w.value-is ∙ w.if-same_lists.false))
]

pub returns-else-same_list : goal.returns-else-same_list
returns-else-same_list c = let a = c.args in elim c.if-same_lists.branch [
  | then-same_lists w ↦ c.if-same_list.false ∙ sym (unreduced-differ (sharding_of a.rank a.a) (sharding_of a.rank a.b)
      (sym c.same_lists.ensures ∙ w.if-same_lists.true) (sym w.same_list.ensures ∙ sym w.value-is ∙ c.if-same_list.false))
  | else-same_lists w ↦ c.if-same_list.false ∙ sym (dims-differ (sharding_of a.rank a.a) (sharding_of a.rank a.b)
      (sym c.same_lists.ensures ∙ w.if-same_lists.false))
]
