use mathlib.Core.Path.{sym}
use Rattle.std.proofs.lemmas.Result.{err_from_is_err_and}
use Rattle.types.specs.Types.{mesh_of, sizes_of}
use Rattle.taking.proofs.Takes.{counted, bytes-stop, judgement-stops, step-taken}
use Rattle.taking.proofs.take_step.Goals as goal

pub returns-in_err-read : goal.returns-in_err-read
returns-in_err-read c = let a = c.args in
    let n = counted c.requires.fits c.well_formed.1.1.1.0.1.1.1.0.1.0.1 c.well_formed.1.1.1.1.0.1.1.1.0.1.0.1 in
    let p = err_from_is_err_and c.from_residual.result c.from_residual.ensures.1 in
    rw (p.1, p.2) (sym (bytes-stop (mesh_of a.mesh) (sizes_of a.table) _ _ _ _ n.0 n.1 (sym c.in_err-read.ensures)))

pub returns-in_err-after : goal.returns-in_err-after
returns-in_err-after c = let a = c.args in
    let n = counted c.requires.fits c.well_formed.1.1.1.0.1.1.1.0.1.0.1 c.well_formed.1.1.1.1.0.1.1.1.0.1.0.1 in
    let p = err_from_is_err_and c.from_residual-in_err-after.result c.from_residual-in_err-after.ensures.1 in
    rw (p.1, p.2) (sym (judgement-stops (mesh_of a.mesh) (sizes_of a.table) _ _ _ _ n.0 n.1 (sym c.in_ok-read.ensures) (sym c.in_err-after.ensures)))

pub returns : goal.returns
returns c = let a = c.args in
    let n = counted c.requires.fits c.well_formed.1.1.1.0.1.1.1.0.1.0.1 c.well_formed.1.1.1.1.0.1.1.1.0.1.0.1 in
    sym (step-taken (mesh_of a.mesh) (sizes_of a.table) _ _ _ _ n.0 n.1 (sym c.in_ok-read.ensures) (sym c.in_ok-after.ensures))
