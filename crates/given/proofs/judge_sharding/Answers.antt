use mathlib.Core.Path.{◌∙◌}
use Rattle.std.proofs.lemmas.Result.{err_from_is_err_and}
use Rattle.types.specs.Types.{mesh_of, sizes_of}
use Rattle.given.proofs.Counts.{dims-counted, dims-stop, others-stop, start-decides}
use Rattle.given.proofs.judge_sharding.Goals as goal

pub returns-in_err-judge_counts : goal.returns-in_err-judge_counts
returns-in_err-judge_counts c = let a = c.args in
    let p = err_from_is_err_and c.from_residual.result c.from_residual.ensures.1 in
    let e = c.in_err-judge_counts.ensures ∙ dims-counted a.mesh.n a.table.rank a.sharding.dims in
    rw (p.1, p.2) (dims-stop (mesh_of a.mesh) (sizes_of a.table) a.mesh.n a.table.rank a.sharding c.requires.n_is _ e)

pub returns-in_err-judge_counts-2 : goal.returns-in_err-judge_counts-2
returns-in_err-judge_counts-2 c = let a = c.args in
    let r = c.from_residual-in_err-judge_counts-2 in
    let p = err_from_is_err_and r.result r.ensures.1 in
    let d = c.in_ok-judge_counts.ensures ∙ dims-counted a.mesh.n a.table.rank a.sharding.dims in
    rw (p.1, p.2)
    (others-stop (mesh_of a.mesh) (sizes_of a.table) a.mesh.n a.table.rank a.sharding c.requires.n_is d _ c.in_err-judge_counts-2.ensures)

pub returns : goal.returns
returns c = let a = c.args in
    let d = c.in_ok-judge_counts.ensures ∙ dims-counted a.mesh.n a.table.rank a.sharding.dims in
    c.judge_start.ensures
    ∙ start-decides (mesh_of a.mesh) (sizes_of a.table) a.mesh.n a.table.rank a.sharding c.requires.n_is d c.requires.fits.axes
    c.in_ok-judge_counts-2.ensures
