use mathlib.Core.Path.{sym, ap}
use native.Mathlib.Omega.{arith}
use Rattle.types.specs.Types.{sharding_of, mesh_of, sizes_of}
use Rattle.reader.proofs.Answers.{handed-on}
use Rattle.blocks.proofs.Plain.{summary-stops}
use Rattle.plan.proofs.Walks.{walking, halted, arrived, runs_few, next-few, too_many, onward}
use Rattle.plan.proofs.walk_steps.Goals as goal

pub loop-k-init : goal.loop-k-init
loop-k-init c = let o = c.args.opening in
    walking (mesh_of o.mesh) (sizes_of o.table) c.args.file.now _ _ _ _ c.requires.behind c.requires.inside c.requires.ready.sound c.shard_words-most.ensures

pub returns-in_err-item : goal.returns-in_err-item
returns-in_err-item c = let o = c.args.opening in
    handed-on _ _ _ c.from_residual.ensures.1
    (halted (mesh_of o.mesh) (sizes_of o.table) c.args.file.now c.loop-k.invariant c.loop-k-test.true (summary-stops _ _ _ _ _ _ (sym c.in_err-item.ensures)))

pub overflow_add-ran : goal.overflow_add-ran
overflow_add-ran c = let o = c.args.opening in
    let g = c.loop-k.invariant in
    omega (arith, g.ran_few, runs_few (mesh_of o.mesh) (sizes_of o.table) c.args.file.now g c.requires.within c.loop-k-test.true (sym c.in_ok-item.ensures))

pub returns-then-ran-gt-MOST_RUN : goal.returns-then-ran-gt-MOST_RUN
returns-then-ran-gt-MOST_RUN c = let o = c.args.opening in
    sym (too_many (mesh_of o.mesh) (sizes_of o.table) c.args.file.now c.loop-k.invariant c.requires.within c.loop-k-test.true (sym c.in_ok-item.ensures)
    c.if-ran-gt-MOST_RUN.true)

pub overflow_add-moved : goal.overflow_add-moved
overflow_add-moved c = let o = c.args.opening in
    let g = c.loop-k.invariant in
    let m = sym c.in_ok-item.ensures in
    let r = runs_few (mesh_of o.mesh) (sizes_of o.table) c.args.file.now g c.requires.within c.loop-k-test.true m in
    omega (arith, r, g.ran_few, g.moved_few, next-few (mesh_of o.mesh) (sizes_of o.table) c.args.file.now g c.requires.within c.loop-k-test.true m)

pub loop-k-preserved : goal.loop-k-preserved
loop-k-preserved c = let o = c.args.opening in
    let u = c.kept_until-kept.ensures in
    onward (mesh_of o.mesh) (sizes_of o.table) c.args.file.now c.loop-k.invariant c.requires.within c.loop-k-test.true (sym c.in_ok-item.ensures)
    c.if-ran-gt-MOST_RUN.false _ (λ h. ap (sharding_of o.table.rank) (u.0 h)) (λ h. ap (sharding_of o.table.rank) (u.1 h))

pub returns : goal.returns
returns c = let o = c.args.opening in
    sym (arrived (mesh_of o.mesh) (sizes_of o.table) c.args.file.now c.loop-k.invariant c.loop-k-test.false)
