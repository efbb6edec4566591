use Prim.Native.Nat.{max}
use mathlib.Core.Path.{sym, ap, ◌∙◌}
use Rattle.std.proofs.lemmas.Result.{err_from_is_err_and}
use Rattle.types.specs.Types.{mesh_of, sizes_of}
use Rattle.taking.proofs.Takes.{is-accepted, sharded-after}
use Rattle.blocks.proofs.Plain.{plain-stops, plain-is}
use Rattle.blocks.proofs.judge_plain.Goals as goal

pub returns-in_err-read : goal.returns-in_err-read
returns-in_err-read c = let a = c.args in
    let p = err_from_is_err_and c.from_residual.result c.from_residual.ensures.1 in
    rw (p.1, p.2) (sym (plain-stops (mesh_of a.mesh) (sizes_of a.table) _ _ _ _ a.largest (sym c.in_err-read.ensures)))

pub charge_step-moved-requires : goal.charge_step-moved-requires
charge_step-moved-requires c = let a = c.args in
    let p = c.requires in
    record { ready = p.ready; extends = p.extends; accepted = is-accepted (mesh_of a.mesh) (sizes_of a.table) _ _ _ _ (sym c.in_ok-read.ensures) }

pub shard_words-words-requires : goal.shard_words-words-requires
shard_words-words-requires c = let p = c.requires in
    (sharded-after _ _ _ p.ready (sym c.in_ok-read.ensures), p.extends.words_are)

pub returns : goal.returns
returns c = let a = c.args in
    sym (plain-is (mesh_of a.mesh) (sizes_of a.table) _ _ _ _ (sym c.in_ok-read.ensures) a.largest c.requires.counted
    (c.max.ensures ∙ ap (max a.largest) c.shard_words-words.ensures) c.charge_step-moved.ensures)
