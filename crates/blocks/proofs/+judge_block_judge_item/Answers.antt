use native.Mathlib.Omega.{arith}
use Prim.Native.Nat.{◌+◌, ◌-◌}
use mathlib.Core.Path.{sym, ap, ◌∙◌}
use Rattle.std.proofs.lemmas.Result.{err_from_is_err_and}
use Rattle.types.specs.Types.{sharding_of, mesh_of, sizes_of}
use Rattle.blocks.specs.Blocks.{summarized}
use Rattle.blocks.proofs.Heads.{head-facts}
use Rattle.blocks.proofs.Plain.{summary-stops}
use Rattle.blocks.proofs.Inner.{moved-start, inner-stops, inner-done, runs_few, moved_few, next-few, moved-step}
use Rattle.blocks.proofs.Items.{head-halts, inner-halts, closes, item-repeat, item-plain}
use Rattle.blocks.proofs.+judge_block_judge_item.Goals as goal

-- ---- a block

pub judge_block-returns-in_err-head : goal.judge_block-returns-in_err-head
judge_block-returns-in_err-head t c =
    let a = c.args in
    let p = err_from_is_err_and c.from_residual.result c.from_residual.ensures.1 in
    rw (p.1, p.2) (sym (head-halts (mesh_of a.mesh) (sizes_of a.table) a.file.now a.depth a.k a.at (sharding_of a.table.rank a.sharding) a.largest
    (sym c.in_err-head.ensures)))

pub judge_block-overflow_sub-below : goal.judge_block-overflow_sub-below
judge_block-overflow_sub-below t c =
    let a = c.args in
    omega (arith, (head-facts a.depth a.k a.file.now a.at (sym c.in_ok-head.ensures)).allowed)

pub judge_block-loop-i-init : goal.judge_block-loop-i-init
judge_block-loop-i-init t c =
    let a = c.args in
    let p = c.requires in
    let f = head-facts a.depth a.k a.file.now a.at (sym c.in_ok-head.ensures) in
    moved-start (mesh_of a.mesh) (sizes_of a.table) a.file.now (a.depth - 1) _ _ _ _ _ f.inside p.ready.sound p.counted

pub judge_block-returns-in_err-item : goal.judge_block-returns-in_err-item
judge_block-returns-in_err-item t c =
    let a = c.args in
    let inner = inner-stops (mesh_of a.mesh) (sizes_of a.table) a.file.now (a.depth - 1) c.loop-i.invariant.judged c.loop-i-test.true
    (summary-stops _ _ _ _ _ _ (sym c.in_err-item.ensures)) in
    let p = err_from_is_err_and c.from_residual-in_err-item.result c.from_residual-in_err-item.ensures.1 in
    rw (p.1, p.2)
    (sym (inner-halts (mesh_of a.mesh) (sizes_of a.table) a.file.now a.depth a.k a.at (sharding_of a.table.rank a.sharding) (sym c.in_ok-head.ensures)
    a.largest inner))

pub judge_block-overflow_add-block-in-loop-i : goal.judge_block-overflow_add-block-in-loop-i
judge_block-overflow_add-block-in-loop-i t c =
    let a = c.args in
    let g = c.loop-i.invariant.judged in
    let r = runs_few (mesh_of a.mesh) (sizes_of a.table) a.file.now (a.depth - 1) g c.requires.ready.fits.sized.least c.loop-i-test.true
    (sym c.in_ok-item.ensures) in
    omega (arith, r, g.takes.few, g.runs_are, g.few)

pub judge_block-overflow_add-block-in-loop-i-2 : goal.judge_block-overflow_add-block-in-loop-i-2
judge_block-overflow_add-block-in-loop-i-2 t c =
    let a = c.args in
    let g = c.loop-i.invariant.judged in
    let m = sym c.in_ok-item.ensures in
    let r = runs_few (mesh_of a.mesh) (sizes_of a.table) a.file.now (a.depth - 1) g c.requires.ready.fits.sized.least c.loop-i-test.true m in
    let n = next-few (mesh_of a.mesh) (sizes_of a.table) a.file.now (a.depth - 1) c.loop-i.invariant c.requires.extends.within c.loop-i-test.true m in
    let o = moved_few (mesh_of a.mesh) (sizes_of a.table) a.file.now (a.depth - 1) c.requires.extends.within c.loop-i.invariant c.requires.ready.sound in
    omega (arith, r, n, o, g.takes.few, g.runs_are, g.few)

pub judge_block-loop-i-preserved : goal.judge_block-loop-i-preserved
judge_block-loop-i-preserved t c =
    let a = c.args in
    moved-step (mesh_of a.mesh) (sizes_of a.table) a.file.now (a.depth - 1) c.loop-i.invariant c.requires.extends.within c.loop-i-test.true
    (sym c.in_ok-item.ensures)

pub judge_block-close_block-requires : goal.judge_block-close_block-requires
judge_block-close_block-requires t c =
    let a = c.args in
    let g = c.loop-i.invariant.judged in
    record {
      rank_few = c.requires.ready.fits.rank;
      runs_few = omega (arith, g.takes.few, g.runs_are, g.few);
      moved_few = moved_few (mesh_of a.mesh) (sizes_of a.table) a.file.now (a.depth - 1) c.requires.extends.within c.loop-i.invariant
          c.requires.ready.sound;
    }

pub judge_block-returns : goal.judge_block-returns
judge_block-returns t c =
    let a = c.args in
    let g = c.loop-i.invariant.judged in
    let done = inner-done (mesh_of a.mesh) (sizes_of a.table) a.file.now (a.depth - 1) g c.loop-i-test.false in
    c.close_block.ensures
    ∙ sym (closes (mesh_of a.mesh) (sizes_of a.table) a.file.now a.depth a.k a.at (sharding_of a.table.rank a.sharding) (sym c.in_ok-head.ensures) a.largest
    done g.number_is g.runs_are g.largest-is c.loop-i.invariant.moved_is g.here g.at_is)

-- ---- an item

pub judge_item-returns-then-is_repeat : goal.judge_item-returns-then-is_repeat
judge_item-returns-then-is_repeat t c =
    let a = c.args in
    let s = sharding_of a.table.rank a.sharding in
    let r = sym c.is_repeat.ensures ∙ c.if-is_repeat.true in
    c.judge_block.ensures ∙ sym (ap (summarized (mesh_of a.mesh) (sizes_of a.table) a.k a.largest s)
    (item-repeat (mesh_of a.mesh) (sizes_of a.table) a.file.now a.depth a.k a.at s r))

pub judge_item-returns-else-is_repeat : goal.judge_item-returns-else-is_repeat
judge_item-returns-else-is_repeat t c =
    let a = c.args in
    let s = sharding_of a.table.rank a.sharding in
    let r = sym c.is_repeat.ensures ∙ c.if-is_repeat.false in
    c.judge_plain.ensures ∙ sym (ap (summarized (mesh_of a.mesh) (sizes_of a.table) a.k a.largest s)
    (item-plain (mesh_of a.mesh) (sizes_of a.table) a.file.now a.depth a.k a.at s r))
