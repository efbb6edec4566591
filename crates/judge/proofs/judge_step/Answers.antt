use native.Mathlib.Omega.{arith}
use mathlib.Core.Path.{refl}
use lib.Seq.{length-take-le}
use Rattle.std.proofs.lemmas.Result.{err_from_is_err_and}
use Rattle.types.specs.Types.{step_of, sharding_of, mesh_of, sizes_of}
use Rattle.judge.proofs.Steps.{split}
use Rattle.judge.proofs.judge_step.Goals as goal

pub returns-in_err-judge_named : goal.returns-in_err-judge_named
returns-in_err-judge_named c = let a = c.args in
    let r = a.table.rank in
    let e = length-take-le a.mesh.n a.mesh.sizes (omega (arith, c.requires.fits.axes, c.well_formed.1.1.1.0.1.1.1.0.1.0.1)) in
    let p = err_from_is_err_and c.from_residual.result c.from_residual.ensures.1 in
    rw (p.1, p.2, split (mesh_of a.mesh) (sizes_of a.table) a.k (step_of r a.step) (sharding_of r a.sharding) e, ← c.in_err-judge_named.ensures) refl

pub returns : goal.returns
returns c = let a = c.args in
    let r = a.table.rank in
    let e = length-take-le a.mesh.n a.mesh.sizes (omega (arith, c.requires.fits.axes, c.well_formed.1.1.1.0.1.1.1.0.1.0.1)) in
    rw (split (mesh_of a.mesh) (sizes_of a.table) a.k (step_of r a.step) (sharding_of r a.sharding) e, ← c.in_ok-judge_named.ensures) c.judge_kind.ensures
