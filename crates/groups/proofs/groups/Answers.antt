use mathlib.Core.Path.{sym}
use Rattle.std.proofs.lemmas.Result.{err_from_is_err_and}
use Rattle.groups.proofs.Listing.{plain-mesh, plain-promised}
use Rattle.groups.proofs.groups.Goals as goal

pub returns-in_err-judge_mesh : goal.returns-in_err-judge_mesh
returns-in_err-judge_mesh c = let p = err_from_is_err_and c.from_residual.result c.from_residual.ensures.1 in
    rw (p.1, p.2) (plain-mesh _ _ _ _ (sym c.in_err-judge_mesh.ensures))

pub returns : goal.returns
returns c = plain-promised _ _ _ _ c.list_places.ensures
