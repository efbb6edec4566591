use native.Mathlib.Omega.{arith}
use mathlib.Core.Bool.{false}
use mathlib.Core.Path.{◌≡◌, sym, ◌∙◌, subst}
use Prim.Native.Nat.{ℕ}
use lib.Dec.{T}
use lib.ListN.{take}
use lib.Seq.{length-take-le}
use Rattle.rules.specs.Lists.{flat}
use Rattle.rules.specs.Sharding.{named}
use Rattle.rules.specs.PlanFile.{judge_axes, all_below}
use Rattle.types.specs.Types.{dims_of, sharding_of, mesh_of, sizes_of}
use Rattle.axes.specs.Marks.{marked}
use Rattle.judge.proofs.Rooms.{fresh-room}
use Rattle.judge.proofs.Steps.{marked-before, fresh-stops, fresh-passes, not-fresh, all-fresh}
use Rattle.judge.proofs.judge_slice.Goals as goal
use Rattle.judge.proofs.judge_slice.Goals.{After-judge_dims-fresh}

-- the step's axes are judged after all that the sharding names
after : (c : After-judge_dims-fresh)
    → (let a = c.args in
    let L = flat (take a.table.rank (dims_of a.lists)) in
    judge_axes a.mesh.n false 0 (marked c.mark_named.new.marks) L ≡ judge_axes a.mesh.n false 0 (named (sharding_of a.table.rank a.sharding)) L)
after c = let a = c.args in
    marked-before a.mesh.n (named (sharding_of a.table.rank a.sharding)) (flat (take a.table.rank (dims_of a.lists))) c.requires.0.fits.axes
    c.mark_named.ensures

pub returns-in_default : goal.returns-in_default
returns-in_default c =
    sym (not-fresh _ _ _ _ _
    (fresh-stops c.args.mesh.n _ _ c.requires.1 (c.in_default.ensures.result_value ∙ after ((goal.at.returns-in_default c).After-judge_dims-fresh))))

pub slice_on-requires : goal.slice_on-requires
slice_on-requires c = let a = c.args in
    let g = c.requires.0 in
    let f = fresh-passes a.mesh.n _ _ c.requires.1 (c.in-Ok.ensures.result_value ∙ after ((goal.at.slice_on-requires c).After-judge_dims-fresh)) in
    let e = length-take-le a.mesh.n a.mesh.sizes (omega (arith, g.fits.axes, c.well_formed.1.1.1.0.1.1.1.0.1.0.1)) in
    let Ss = take a.table.rank (dims_of a.lists) in (
      g.fits,
      fresh-room (mesh_of a.mesh) (sizes_of a.table) (sharding_of a.table.rank a.sharding) g.sound (omega (arith, e, g.fits.axes)) Ss
          (subst (λ (x : ℕ). T (all_below x (flat Ss))) (sym e) c.requires.1) (rw f tt),
    )

pub returns : goal.returns
returns c =
    c.slice_on.ensures
    ∙ sym (all-fresh _ _ _ _ _
    (fresh-passes c.args.mesh.n _ _ c.requires.1 (c.in-Ok.ensures.result_value ∙ after ((goal.at.returns c).After-judge_dims-fresh))))
