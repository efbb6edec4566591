use native.Mathlib.Omega.{arith}
use mathlib.Core.Bool.{false}
use mathlib.Core.Path.{◌≡◌, refl, ◌∙◌}
use lib.ListN.{replicate}
use lib.Seq.{length-take-le}
use Rattle.std.proofs.lemmas.Result.{err_from_is_err_and}
use Rattle.rules.specs.Lists.{flat}
use Rattle.rules.specs.Limits.{most_axes}
use Rattle.rules.specs.Sharding.{divisible}
use Rattle.rules.specs.Refusals.{◌>>◌, need}
use Rattle.rules.specs.PlanFile.{judge_start}
use Rattle.types.specs.Answers.{judged}
use Rattle.types.specs.Types.{sharding_of, mesh_of, sizes_of}
use Rattle.axes.specs.Marks.{marked}
use Rattle.start.proofs.Turn.{rising-after, start-parts}
use Rattle.start.proofs.judge_start.Goals as goal
use Rattle.start.proofs.judge_start.Goals.{After-judge_rising}

-- after the dimensions' lists: what is left of the judgement, the two increasing lists and 17
left : (c : After-judge_rising)
    → (let a = c.args in
    let s = sharding_of a.table.rank a.sharding in
    judge_start (mesh_of a.mesh) (sizes_of a.table) s ≡ ◌>>◌ (judged c.judge_rising.result) (need (divisible (mesh_of a.mesh) (sizes_of a.table) s.dims) 17))
unfolding marked
left c = let a = c.args in
    let s = sharding_of a.table.rank a.sharding in
    let dims = c.in_ok-judge_dims.ensures in
    let e = length-take-le a.mesh.n a.mesh.sizes (omega (arith, c.well_formed.1.0.1.1.1.0.1.0.1)) in
    start-parts (mesh_of a.mesh) (sizes_of a.table) s e
    ∙ rw (← dims.result_value, c.judge_rising.ensures)
    (rw (rising-after a.mesh.n false (replicate most_axes false) (flat s.dims) c.requires.axes (dims.result_value, dims.marks_after) s.unreduced s.replicated) refl)

pub returns-in_err-judge_dims : goal.returns-in_err-judge_dims
unfolding marked
returns-in_err-judge_dims c = let a = c.args in
    let p = err_from_is_err_and c.from_residual.result c.from_residual.ensures.1 in
    let e = length-take-le a.mesh.n a.mesh.sizes (omega (arith, c.well_formed.1.0.1.1.1.0.1.0.1)) in
    rw (p.1, p.2, start-parts (mesh_of a.mesh) (sizes_of a.table) (sharding_of a.table.rank a.sharding) e, ← c.in_err-judge_dims.ensures.result_value) refl

pub returns-in_err-judge_rising : goal.returns-in_err-judge_rising
returns-in_err-judge_rising c =
    let p = err_from_is_err_and c.from_residual-in_err-judge_rising.result c.from_residual-in_err-judge_rising.ensures.1 in
    rw (p.1, p.2, left ((goal.at.returns-in_err-judge_rising c).After-judge_rising), c.in_err-judge_rising.was) refl

pub returns-then-not-divisible : goal.returns-then-not-divisible
returns-then-not-divisible c =
    rw (
      left ((goal.at.returns-then-not-divisible c).After-judge_rising),
      c.in_ok-judge_rising.was,
      ← c.divisible.ensures,
      c.if-not-divisible.true,
      c.outside.ensures,
    ) refl

pub returns : goal.returns
returns c =
    rw (left ((goal.at.returns c).After-judge_rising), c.in_ok-judge_rising.was, ← c.divisible.ensures, c.if-not-divisible.false) refl
