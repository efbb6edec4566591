use mathlib.Core.Path.{refl}
use Rattle.rules.specs.Spread.{add_words}
use Rattle.step.proofs.Kernels.{one_word, nowhere, move-requires, moved-so, reduce-requires, reduced-so, at_source, at_target}
use Rattle.step.proofs.step_from.Goals as goal

pub move_into-requires-clause-moving : goal.move_into-requires-clause-moving
move_into-requires-clause-moving c =
    (move-requires c.args.step c.requires c.in-AllSlice.is tt _ _ (nowhere c.args.step c.requires _ c.empty-none.ensures) refl).0

pub move_into-requires-clause-words_value : goal.move_into-requires-clause-words_value
move_into-requires-clause-words_value c =
    (move-requires c.args.step c.requires c.in-AllSlice.is tt _ _ (nowhere c.args.step c.requires _ c.empty-none.ensures) refl).1.0

pub returns-in-AllSlice-clause-there_after : goal.returns-in-AllSlice-clause-there_after
returns-in-AllSlice-clause-there_after c =
    (moved-so c.args.step c.requires c.in-AllSlice.is tt _ _ (nowhere c.args.step c.requires _ c.empty-none.ensures) refl add_words one_word 0 refl c.args.here.now c.args.there.now
    c.move_into.new.new c.move_into.ensures).1

pub move_into-requires-in-AllGather-clause-moving : goal.move_into-requires-in-AllGather-clause-moving
move_into-requires-in-AllGather-clause-moving c =
    (move-requires c.args.step c.requires c.in-AllGather.is tt _ _ refl (nowhere c.args.step c.requires _ c.empty-none.ensures)).0

pub move_into-requires-in-AllGather-clause-words_value : goal.move_into-requires-in-AllGather-clause-words_value
move_into-requires-in-AllGather-clause-words_value c =
    (move-requires c.args.step c.requires c.in-AllGather.is tt _ _ refl (nowhere c.args.step c.requires _ c.empty-none.ensures)).1.0

pub returns-in-AllGather-clause-there_after : goal.returns-in-AllGather-clause-there_after
returns-in-AllGather-clause-there_after c =
    (moved-so c.args.step c.requires c.in-AllGather.is tt _ _ refl (nowhere c.args.step c.requires _ c.empty-none.ensures) add_words one_word 0 refl c.args.here.now c.args.there.now
    c.move_into-in-AllGather.new.new c.move_into-in-AllGather.ensures).1

pub move_into-requires-in-AllToAll-clause-moving : goal.move_into-requires-in-AllToAll-clause-moving
move_into-requires-in-AllToAll-clause-moving c =
    let e = c.in-AllToAll.is in
    let z = c.empty-none.ensures in
    let p = at_source c.args.step c.requires e _ z _ c.with-off.ensures in
    let q = at_target c.args.step c.requires e _ z _ c.with-on.ensures in
    (move-requires c.args.step c.requires e tt _ _ p q).0

pub move_into-requires-in-AllToAll-clause-words_value : goal.move_into-requires-in-AllToAll-clause-words_value
move_into-requires-in-AllToAll-clause-words_value c =
    let e = c.in-AllToAll.is in
    let z = c.empty-none.ensures in
    let p = at_source c.args.step c.requires e _ z _ c.with-off.ensures in
    let q = at_target c.args.step c.requires e _ z _ c.with-on.ensures in
    (move-requires c.args.step c.requires e tt _ _ p q).1.0

pub returns-in-AllToAll-clause-there_after : goal.returns-in-AllToAll-clause-there_after
returns-in-AllToAll-clause-there_after c =
    let e = c.in-AllToAll.is in
    let z = c.empty-none.ensures in
    let p = at_source c.args.step c.requires e _ z _ c.with-off.ensures in
    let q = at_target c.args.step c.requires e _ z _ c.with-on.ensures in
    (moved-so c.args.step c.requires e tt _ _ p q add_words one_word 0 refl c.args.here.now c.args.there.now
    c.move_into-in-AllToAll.new.new c.move_into-in-AllToAll.ensures).1

pub reduce_here-requires : goal.reduce_here-requires
reduce_here-requires c = reduce-requires c.args.step c.requires c.in-AllReduce.is _ refl

pub returns-in-AllReduce-clause-here_after : goal.returns-in-AllReduce-clause-here_after
returns-in-AllReduce-clause-here_after c =
    let r = c.reduce_here in
    (reduced-so c.args.step c.requires c.in-AllReduce.is _ refl add_words 0 refl c.args.here.now c.args.there.now r.new.here
    r.new.there (r.ensures.here_after, r.ensures.there_unchanged)).0
