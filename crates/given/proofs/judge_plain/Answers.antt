use native.Mathlib.Omega.{arith}
use Prim.Native.Nat.{◌+◌}
use mathlib.Core.Path.{sym, ap, ◌∙◌}
use Rattle.std.proofs.lemmas.Result.{err_from_is_err_and}
use Rattle.types.specs.Types.{sharding_of, mesh_of, sizes_of}
use Rattle.records.specs.Writing.{step_numbered}
use Rattle.records.proofs.Numbers.{numbered-stops}
use Rattle.given.proofs.Plain.{at-record, past-last, form-passed, form-stops, step-stops, plain-is}
use Rattle.given.proofs.judge_plain.Goals as goal

pub returns-then-steps-i : goal.returns-then-steps-i
returns-then-steps-i c = let a = c.args in
    let p = c.requires.0.shaped in
    rw c.outside.ensures (sym (ap step_numbered (past-last (mesh_of a.mesh) (sizes_of a.table) a.table.rank p.rank_is p.fits.rank a.steps.now a.i (sharding_of a.table.rank a.sharding) c.if-steps-i.true)))

pub returns-in_err-step : goal.returns-in_err-step
returns-in_err-step c = let a = c.args in
    let r = c.from_residual in
    let q = err_from_is_err_and r.result r.ensures.1 in
    let p = c.requires.0.shaped in
    rw (q.1, q.2) (sym (numbered-stops _ _ (λ m k w. form-stops (mesh_of a.mesh) (sizes_of a.table) a.table.rank p.rank_is p.fits.rank a.steps.now a.i (omega (arith, c.if-steps-i.false)) c.requires.1 (sharding_of a.table.rank a.sharding) a.mesh.n p.n_is p.fits.axes _ c.step_record-record.ensures w)
    (sym c.in_err-step.ensures.judges)))

pub returns-in-Ok : goal.returns-in-Ok
returns-in-Ok c = let a = c.args in
    let f = c.in_ok-step.ensures in
    let p = c.requires.0.shaped in
    sym (ap step_numbered (plain-is (mesh_of a.mesh) (sizes_of a.table) a.table.rank p.rank_is p.fits.rank a.steps.now a.i (omega (arith, c.if-steps-i.false)) c.requires.1 (sharding_of a.table.rank a.sharding) a.mesh.n p.n_is p.fits.axes (f.gives ∙ c.step_record-record.ensures) (form-passed a.mesh.n (a.i + 1) a.table.rank f.gives f.judges) (sym c.in-Ok.ensures)))

pub returns-in-Err : goal.returns-in-Err
returns-in-Err c = let a = c.args in
    let f = c.in_ok-step.ensures in
    let p = c.requires.0.shaped in
    sym (ap step_numbered (step-stops (mesh_of a.mesh) (sizes_of a.table) a.table.rank p.rank_is p.fits.rank a.steps.now a.i (omega (arith, c.if-steps-i.false)) c.requires.1 (sharding_of a.table.rank a.sharding) a.mesh.n p.n_is p.fits.axes (f.gives ∙ c.step_record-record.ensures) (form-passed a.mesh.n (a.i + 1) a.table.rank f.gives f.judges) (sym c.in-Err.ensures))
    ∙ at-record c.refusal_at.result _ (a.i + 1) c.refusal_at.ensures)
