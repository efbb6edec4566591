use native.Mathlib.Omega.{arith}
use mathlib.Core.Path.{sym, ap, ◌∙◌}
use Rattle.std.proofs.lemmas.Result.{err_from_is_err_and}
use Rattle.types.specs.Types.{sharding_of, mesh_of, sizes_of}
use Rattle.records.specs.Writing.{step_numbered}
use Rattle.records.specs.Forms.{steps_given}
use Rattle.records.proofs.Numbers.{numbered-on, numbered-stops}
use Rattle.encode.proofs.Counting.{given-length}
use Rattle.given.proofs.Plain.{is-ranked}
use Rattle.given.proofs.Turns.{turns-start, turns-done, turn-stops, turned, turn-over, turn_step}
use Rattle.given.proofs.judge_outermost.Goals as goal

pub loop-n-init : goal.loop-n-init
loop-n-init c = let a = c.args in
    turns-start (mesh_of a.mesh) (sizes_of a.table) (steps_given a.table.rank a.steps.now) a.count (sharding_of a.table.rank a.start) c.requires.sound

pub judge_record-requires : goal.judge_record-requires
judge_record-requires c = let a = c.args in
    let g = c.loop-n.invariant in
    record {
      shaped = c.requires.shaped;
      sound = g.sound;
      inside = omega (arith, g.inside, given-length a.table.rank a.steps.now);
    }

pub returns-in_err-item : goal.returns-in_err-item
returns-in_err-item c = let a = c.args in
    let r = c.from_residual in
    let q = err_from_is_err_and r.result r.ensures.1 in
    rw (q.1, q.2) (sym (numbered-stops _ _ (λ n k e. turn-stops (mesh_of a.mesh) (sizes_of a.table) (steps_given a.table.rank a.steps.now) c.loop-n.invariant c.loop-n-test.true e) (sym c.in_err-item.ensures)))

pub overflow_add-ran : goal.overflow_add-ran
overflow_add-ran c = let a = c.args in
    let p = c.requires.shaped in
    let k = is-ranked (mesh_of a.mesh) (sizes_of a.table) a.table.rank p.rank_is p.fits.rank a.steps.now 0 in
    let m = numbered-on _ (sym c.in_ok-item.ensures) in
    let t = turned (mesh_of a.mesh) (sizes_of a.table) (steps_given a.table.rank a.steps.now) c.loop-n.invariant k p.fits.sized.least c.loop-n-test.true m in
    omega (arith, t.few, c.loop-n.invariant.ran_few)

pub returns-then-ran-gt-MOST_RUN : goal.returns-then-ran-gt-MOST_RUN
returns-then-ran-gt-MOST_RUN c = let a = c.args in
    let p = c.requires.shaped in
    let k = is-ranked (mesh_of a.mesh) (sizes_of a.table) a.table.rank p.rank_is p.fits.rank a.steps.now 0 in
    let m = numbered-on _ (sym c.in_ok-item.ensures) in
    c.refusal_at.ensures ∙ sym (ap step_numbered (turn-over (mesh_of a.mesh) (sizes_of a.table) (steps_given a.table.rank a.steps.now) c.loop-n.invariant k p.fits.sized.least c.loop-n-test.true m c.if-ran-gt-MOST_RUN.true))

pub loop-n-preserved : goal.loop-n-preserved
loop-n-preserved c = let a = c.args in
    let p = c.requires.shaped in
    let k = is-ranked (mesh_of a.mesh) (sizes_of a.table) a.table.rank p.rank_is p.fits.rank a.steps.now 0 in
    let m = numbered-on _ (sym c.in_ok-item.ensures) in
    turn_step (mesh_of a.mesh) (sizes_of a.table) (steps_given a.table.rank a.steps.now) c.loop-n.invariant k p.fits.sized.least c.loop-n-test.true m c.if-ran-gt-MOST_RUN.false

pub returns : goal.returns
returns c = let a = c.args in sym (ap step_numbered (turns-done (mesh_of a.mesh) (sizes_of a.table) (steps_given a.table.rank a.steps.now) c.loop-n.invariant c.loop-n-test.false))
