use mathlib.Core.Path.{sym, ◌∙◌}
use Rattle.types.specs.Types.{dims_of, mesh_of}
use Rattle.judge.proofs.Steps.{shard-divides, not-divisible, slices}
use Rattle.judge.proofs.slice_on.Goals as goal

pub returns-then-not-divisible : goal.returns-then-not-divisible
returns-then-not-divisible c = let a = c.args in
    let w = c.shard_of-shard.ensures in
    let d = shard-divides (mesh_of a.mesh) _ _ (dims_of a.lists) _ _ w.0 w.1 in
    sym (not-divisible _ _ _ _ _ (sym (c.divisible.ensures ∙ d) ∙ c.if-not-divisible.true))

pub returns : goal.returns
returns c = let a = c.args in
    let w = c.shard_of-shard.ensures in
    let d = shard-divides (mesh_of a.mesh) _ _ (dims_of a.lists) _ _ w.0 w.1 in
    slices _ _ _ _ _ (sym (c.divisible.ensures ∙ d) ∙ c.if-not-divisible.false) c.join_lists-joined.ensures.0
