use native.Mathlib.Omega.{arith}
use mathlib.Core.Path.{refl, sym, ◌∙◌}
use Rattle.rounds.proofs.Steps.{by}
use Rattle.rounds.proofs.Rows.{row-start, row_next, row_step, row_done}
use Rattle.rounds.proofs.Rounds.{item-repeat, item-plain, bytes_inside, rounds-start, rounds-next, rounds-step}
use Rattle.rounds.proofs.+run_block_run_item_run_row.Goals as goal

pub run_block-overflow_add-rounds : goal.run_block-overflow_add-rounds
run_block-overflow_add-rounds t c = let g = c.requires in omega (arith, bytes_inside _ _ _ _ _ g, g.short)

pub run_block-bounds-file-at : goal.run_block-bounds-file-at
run_block-bounds-file-at t c = omega (arith, bytes_inside _ _ _ _ _ c.requires)

pub run_block-overflow_add-inner : goal.run_block-overflow_add-inner
run_block-overflow_add-inner t c = let g = c.requires in omega (arith, bytes_inside _ _ _ _ _ g, g.short)

pub run_block-bounds-file-at-2 : goal.run_block-bounds-file-at-2
run_block-bounds-file-at-2 t c = omega (arith, bytes_inside _ _ _ _ _ c.requires)

pub run_block-loop-i-init : goal.run_block-loop-i-init
run_block-loop-i-init t c = rounds-start _ _ _ _ _ _ _ c.requires refl refl

pub run_block-run_row-here-requires : goal.run_block-run_row-here-requires
run_block-run_row-here-requires t c = (omega (arith, c.decreases), rounds-next _ _ _ _ _ c.loop-i.invariant)

pub run_block-loop-i-preserved : goal.run_block-loop-i-preserved
run_block-loop-i-preserved t c =
    rounds-step _ _ _ _ _ c.loop-i.invariant c.loop-i-test.true _ _ c.run_row-here.ensures c.run_row-here.auto.work c.run_row-here.auto.spare

pub run_item-overflow_sub-depth : goal.run_item-overflow_sub-depth
run_item-overflow_sub-depth t c =
    omega (arith, (item-repeat _ _ _ _ _ _ _ (sym c.is_repeat.ensures ∙ c.if-is_repeat.true) c.requires.accepted).0)

pub run_item-run_block-requires : goal.run_item-run_block-requires
run_item-run_block-requires t c =
    let r = item-repeat _ _ _ _ _ _ _ (sym c.is_repeat.ensures ∙ c.if-is_repeat.true) c.requires.accepted in
    (omega (arith, r.0, c.decreases), by c.requires r.1)

pub run_item-run_plain-requires : goal.run_item-run_plain-requires
run_item-run_plain-requires t c =
    by c.requires (item-plain _ _ _ _ _ _ _ (sym c.is_repeat.ensures ∙ c.if-is_repeat.false) c.requires.accepted)

pub run_item-returns-then-is_repeat : goal.run_item-returns-then-is_repeat
run_item-returns-then-is_repeat t c w e =
    c.run_block.ensures w (item-repeat _ _ _ _ _ _ _ (sym c.is_repeat.ensures ∙ c.if-is_repeat.true) e).1

pub run_item-returns-else-is_repeat : goal.run_item-returns-else-is_repeat
run_item-returns-else-is_repeat t c w e =
    c.run_plain.ensures w (item-plain _ _ _ _ _ _ _ (sym c.is_repeat.ensures ∙ c.if-is_repeat.false) e)

pub run_row-loop-done-init : goal.run_row-loop-done-init
run_row-loop-done-init t c = row-start _ _ _ _ _ _ c.requires

pub run_row-run_item-here-requires : goal.run_row-run_item-here-requires
run_row-run_item-here-requires t c = (omega (arith, c.decreases), row_next _ _ _ _ c.loop-done.invariant c.loop-done-test.true)

pub run_row-loop-done-preserved : goal.run_row-loop-done-preserved
run_row-loop-done-preserved t c =
    row_step _ _ _ _ c.loop-done.invariant c.loop-done-test.true _ _ c.run_item-here.ensures c.run_item-here.auto.work c.run_item-here.auto.spare

pub run_row-returns : goal.run_row-returns
run_row-returns t c = row_done _ _ _ _ c.loop-done.invariant c.loop-done-test.false
