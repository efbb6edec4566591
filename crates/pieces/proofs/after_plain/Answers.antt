use native.Mathlib.Omega.{arith}
use Prim.Native.Nat.{ℕ, ◌+◌, max}
use mathlib.Core.Path.{sym, ap, ◌∙◌}
use Rattle.std.proofs.lemmas.Result.{err_from_is_err_and}
use Rattle.types.specs.Types.{sharding_of, step_of, mesh_of, sizes_of}
use Rattle.units.specs.Units as units
use Rattle.units.proofs.Sounds.{framed-more}
use Rattle.pieces.specs.Held.{standing_of}
use Rattle.pieces.proofs.Plain.{plain-stops, plain-on, ready-after}
use Rattle.pieces.proofs.after_plain.Goals as goal

pub returns-in_err-after : goal.returns-in_err-after
returns-in_err-after c = let a = c.args in
    let p = err_from_is_err_and c.from_residual.result c.from_residual.ensures.1 in
    rw (p.1, p.2) (plain-stops (mesh_of a.mesh) (sizes_of a.table) (standing_of a.table.rank a.standing) (step_of a.table.rank a.step)
    (sym c.in_err-after.ensures))

pub shard_words-words-requires : goal.shard_words-words-requires
shard_words-words-requires c = let a = c.args in
    (ready-after a.standing.number (step_of a.table.rank a.step) c.requires.ready (sym c.in_ok-after.ensures), c.requires.total_is)

pub after_step-requires : goal.after_step-requires
after_step-requires c = let a = c.args in
    let p = c.requires in
    record {
      rank_few = p.ready.fits.rank;
      ran_few = omega (arith, p.ran_few);
      framed = framed-more a.standing.number (a.standing.number + 1) _ (omega arith) p.framed;
    }

pub returns : goal.returns
returns c = let a = c.args in
    let q = standing_of a.table.rank a.standing in
    let most = c.max.ensures ∙ ap (max q.largest) c.shard_words-words.ensures in
    c.after_step.ensures (mesh_of a.mesh) (sizes_of a.table)
    ∙ ap (λ (m : ℕ). units.after_step (mesh_of a.mesh) (sizes_of a.table) (q.number + 1) m (sharding_of a.table.rank c.in_ok-after.after) q.frames q.number q.behind (q.ran + 1)) most
    ∙ plain-on (mesh_of a.mesh) (sizes_of a.table) q (step_of a.table.rank a.step) (sym c.in_ok-after.ensures)
