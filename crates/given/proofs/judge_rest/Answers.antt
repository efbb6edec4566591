use native.Mathlib.Omega.{arith}
use mathlib.Core.Path.{sym, ◌∙◌}
use Rattle.std.proofs.lemmas.Result.{err_from_is_err_and}
use Rattle.types.specs.Types.{mesh_of, sizes_of}
use Rattle.given.proofs.Whole.{is-sharding, records-decide, then-stop}
use Rattle.given.proofs.judge_rest.Goals as goal

pub returns-in_err-judge_sharding : goal.returns-in_err-judge_sharding
returns-in_err-judge_sharding c = let r = c.from_residual in
    let p = err_from_is_err_and r.result r.ensures.1 in
    rw (p.1, p.2) (then-stop _ _ c.in_err-judge_sharding.ensures)

pub judge_outermost-requires : goal.judge_outermost-requires
judge_outermost-requires c = let a = c.args in
    record {
      shaped = c.requires;
      sound = (is-sharding (mesh_of a.mesh) (sizes_of a.table) a.mesh.n a.table.rank a.start c.requires.n_is c.requires.fits.axes (sym c.in_ok-judge_sharding.ensures)).1;
      inside = omega arith;
    }

pub returns : goal.returns
returns c = let a = c.args in
    c.judge_outermost.ensures
    ∙ sym (records-decide (mesh_of a.mesh) (sizes_of a.table) a.mesh.n a.table.rank a.start c.requires.n_is c.requires.fits.axes (sym c.in_ok-judge_sharding.ensures) a.steps.now a.count)
