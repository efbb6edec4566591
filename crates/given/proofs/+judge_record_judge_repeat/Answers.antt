use native.Mathlib.Omega.{arith}
use Prim.Native.Nat.{◌+◌, ◌-◌}
use mathlib.Core.Path.{sym, ap, ◌∙◌}
use Rattle.std.proofs.lemmas.Result.{err_from_is_err_and}
use Rattle.rules.specs.Refusals.{Judged}
use Rattle.rules.specs.PlanFile.{StepsRead}
use Rattle.types.specs.Types.{sharding_of, mesh_of, sizes_of}
use Rattle.blocks.proofs.Heads.{head-facts}
use Rattle.blocks.proofs.Items.{item-repeat, item-plain}
use Rattle.records.specs.Writing.{step_numbered}
use Rattle.records.specs.Forms.{steps_given}
use Rattle.records.proofs.Numbers.{numbered-on, numbered-stops}
use Rattle.given.specs.Given.{bytes_given, place_given, summarized}
use Rattle.encode.proofs.Counting.{given-length}
use Rattle.given.proofs.Plain.{repeat-inside, is-ranked, no-repeat}
use Rattle.given.proofs.Heads.{repeat-there, repeat-next}
use Rattle.given.proofs.Inside.{within-start, within-stops, within-done, within_step, ran_few, repeat-halts, inside-halts, closes}
use Rattle.given.proofs.+judge_record_judge_repeat.Goals as goal

pub judge_record-returns-then-is_repeat : goal.judge_record-returns-then-is_repeat
judge_record-returns-then-is_repeat t c =
    let a = c.args in
    let e = sym c.is_repeat.ensures ∙ c.if-is_repeat.true in
    c.judge_repeat.ensures ∙ sym (ap (λ (j : Judged StepsRead). step_numbered (summarized a.i j)) (item-repeat (mesh_of a.mesh) (sizes_of a.table) (bytes_given a.table.rank a.steps.now) a.depth (a.i + 1)
    (place_given a.table.rank a.steps.now a.i) (sharding_of a.table.rank a.sharding) (repeat-there a.steps.now a.i e a.table.rank a.depth)))

pub judge_record-returns-else-is_repeat : goal.judge_record-returns-else-is_repeat
judge_record-returns-else-is_repeat t c =
    let a = c.args in
    let p = c.requires.shaped in
    let e = sym c.is_repeat.ensures ∙ c.if-is_repeat.false in
    c.judge_plain.ensures ∙ sym (ap (λ (j : Judged StepsRead). step_numbered (summarized a.i j)) (item-plain (mesh_of a.mesh) (sizes_of a.table) (bytes_given a.table.rank a.steps.now) a.depth (a.i + 1)
    (place_given a.table.rank a.steps.now a.i) (sharding_of a.table.rank a.sharding) (no-repeat (mesh_of a.mesh) (sizes_of a.table) a.table.rank p.rank_is p.fits.rank a.steps.now a.i e)))

pub judge_repeat-returns-in_err-head : goal.judge_repeat-returns-in_err-head
judge_repeat-returns-in_err-head t c =
    let a = c.args in
    let r = c.from_residual in
    let q = err_from_is_err_and r.result r.ensures.1 in
    rw (q.1, q.2) (sym (numbered-stops _ _ (λ n k e. repeat-halts (mesh_of a.mesh) (sizes_of a.table) (steps_given a.table.rank a.steps.now) a.depth a.i (sharding_of a.table.rank a.sharding) e)
    (sym (c.in_err-head.ensures a.table.rank))))

pub judge_repeat-overflow_sub-below : goal.judge_repeat-overflow_sub-below
judge_repeat-overflow_sub-below t c =
    let a = c.args in
    let r = numbered-on _ (sym (c.in_ok-head.ensures a.table.rank)) in
    let f = head-facts a.depth (a.i + 1) (bytes_given a.table.rank a.steps.now) (place_given a.table.rank a.steps.now a.i + 1) r in
    omega (arith, f.allowed)

pub judge_repeat-loop-n-init : goal.judge_repeat-loop-n-init
judge_repeat-loop-n-init t c =
    let a = c.args in
    let r = numbered-on _ (sym (c.in_ok-head.ensures a.table.rank)) in
    let f = head-facts a.depth (a.i + 1) (bytes_given a.table.rank a.steps.now) (place_given a.table.rank a.steps.now a.i + 1) r in
    within-start (mesh_of a.mesh) (sizes_of a.table) (steps_given a.table.rank a.steps.now) (a.depth - 1) _ a.i (sharding_of a.table.rank a.sharding) (repeat-next a.steps.now a.i c.requires.1 a.table.rank a.depth) f.inside
    (omega (arith, repeat-inside a.steps.now a.i c.requires.1, given-length a.table.rank a.steps.now)) c.requires.0.sound

pub judge_repeat-judge_record-requires : goal.judge_repeat-judge_record-requires
judge_repeat-judge_record-requires t c =
    let a = c.args in
    let p = c.requires.0 in
    let g = c.loop-n.invariant in
    let n = given-length a.table.rank a.steps.now in (
      omega (arith, g.inside, g.further, n, c.decreases, repeat-inside a.steps.now a.i c.requires.1),
      record {
        shaped = p.shaped;
        sound = g.inner.sound;
        inside = omega (arith, g.inside, n);
      },
    )

pub judge_repeat-returns-in_err-item : goal.judge_repeat-returns-in_err-item
judge_repeat-returns-in_err-item t c =
    let a = c.args in
    let r = numbered-on _ (sym (c.in_ok-head.ensures a.table.rank)) in
    let u = c.from_residual-in_err-item in
    let q = err_from_is_err_and u.result u.ensures.1 in
    rw (q.1, q.2) (sym (numbered-stops _ _ (λ n k e. inside-halts (mesh_of a.mesh) (sizes_of a.table) (steps_given a.table.rank a.steps.now) a.depth a.i (sharding_of a.table.rank a.sharding) r
    (within-stops (mesh_of a.mesh) (sizes_of a.table) (steps_given a.table.rank a.steps.now) (a.depth - 1) c.loop-n.invariant c.loop-n-test.true e)) (sym c.in_err-item.ensures)))

pub judge_repeat-overflow_add-block-in-loop-n : goal.judge_repeat-overflow_add-block-in-loop-n
judge_repeat-overflow_add-block-in-loop-n t c =
    let g = c.loop-n.invariant in
    let a = c.args in
    let p = c.requires.0.shaped in
    let m = numbered-on _ (sym c.in_ok-item.ensures) in
    let k = is-ranked (mesh_of a.mesh) (sizes_of a.table) a.table.rank p.rank_is p.fits.rank a.steps.now a.i in
    let f = ran_few (mesh_of a.mesh) (sizes_of a.table) (steps_given a.table.rank a.steps.now) (a.depth - 1) g k p.fits.sized.least c.loop-n-test.true m in
    omega (arith, f, g.inner.takes.few, g.inner.runs_are, g.inner.few)

pub judge_repeat-loop-n-preserved : goal.judge_repeat-loop-n-preserved
judge_repeat-loop-n-preserved t c =
    let a = c.args in
    let p = c.requires.0.shaped in
    let m = numbered-on _ (sym c.in_ok-item.ensures) in
    let k = is-ranked (mesh_of a.mesh) (sizes_of a.table) a.table.rank p.rank_is p.fits.rank a.steps.now a.i in
    within_step (mesh_of a.mesh) (sizes_of a.table) (steps_given a.table.rank a.steps.now) (a.depth - 1) c.loop-n.invariant k p.fits.sized.least c.loop-n-test.true m

pub judge_repeat-close_repeat-requires : goal.judge_repeat-close_repeat-requires
judge_repeat-close_repeat-requires t c =
    let g = c.loop-n.invariant in
    record { rank_few = c.requires.0.shaped.fits.rank; runs_few = omega (arith, g.inner.takes.few, g.inner.runs_are, g.inner.few) }

pub judge_repeat-returns : goal.judge_repeat-returns
judge_repeat-returns t c =
    let g = c.loop-n.invariant in
    let a = c.args in
    let r = numbered-on _ (sym (c.in_ok-head.ensures a.table.rank)) in
    let done = within-done (mesh_of a.mesh) (sizes_of a.table) (steps_given a.table.rank a.steps.now) (a.depth - 1) g c.loop-n-test.false in
    c.close_repeat.ensures ∙ sym (ap step_numbered (closes (mesh_of a.mesh) (sizes_of a.table) (steps_given a.table.rank a.steps.now) a.depth a.i (sharding_of a.table.rank a.sharding) r _ _ done g.inner.number_is g.inner.runs_are g.inner.here))
