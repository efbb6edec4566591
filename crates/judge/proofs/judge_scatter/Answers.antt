use native.Mathlib.Omega.{arith}
use mathlib.Core.List.{List, []}
use mathlib.Core.Path.{sym, ap, ◌∙◌, subst}
use Prim.Native.Nat.{ℕ}
use lib.Dec.{T}
use lib.ListN.{take}
use lib.Seq.{length-take-le}
use Rattle.rules.specs.Lists.{flat}
use Rattle.rules.specs.Sharding.{Sharding}
use Rattle.rules.specs.Collectives.{reduced as reduced_of}
use Rattle.rules.specs.PlanFile.{all_below}
use Rattle.types.specs.Answers.{number_of}
use Rattle.types.specs.Types.{dims_of, sharding_of, mesh_of, sizes_of}
use Rattle.axes.proofs.Naming.{none-marked}
use Rattle.dims.specs.Dims.{Room}
use Rattle.judge.proofs.Rooms.{scatter-room}
use Rattle.judge.proofs.Steps.{fresh-stops, fresh-passes, named-twice, not-owed, all-owed, scatters}
use Rattle.judge.proofs.judge_scatter.Goals as goal

pub returns-in_default : goal.returns-in_default
returns-in_default c =
    sym (named-twice _ _ _ c.args.mesh.n _ _
    (fresh-stops c.args.mesh.n [] _ c.requires.1 {i = number_of c.in_default.field-0.reason} {j = c.in_default.field-0.step} (rw (← none-marked) c.in_default.ensures.result_value)))

pub returns-then-not-all_in : goal.returns-then-not-all_in
returns-then-not-all_in c =
    let f = fresh-passes c.args.mesh.n [] _ c.requires.1 (rw (← none-marked) c.in-Ok.ensures.result_value) in
    sym (not-owed _ _ _ c.args.mesh.n _ _ c.requires.1 f c.ascending-axes.ensures (sym c.all_in.ensures ∙ c.if-not-all_in.true))

pub slice_on-requires : goal.slice_on-requires
unfolding reduced_of
slice_on-requires c = let a = c.args in
    let g = c.requires.0 in
    let r = a.table.rank in
    let Ss = take r (dims_of a.lists) in
    let f = fresh-passes a.mesh.n [] (flat Ss) c.requires.1 (rw (← none-marked) c.in-Ok.ensures.result_value) in
    let o = sym c.all_in.ensures ∙ c.if-not-all_in.false in
    let e = length-take-le a.mesh.n a.mesh.sizes (omega (arith, g.fits.axes, c.well_formed.1.1.1.0.1.1.1.0.1.0.1)) in
    let dims = ap (λ (x : Sharding). x.dims) (sym (c.reduced-between.ensures r)) in (
      g.fits,
      subst (λ (ds : List (List ℕ)). Room ds Ss) dims
          (scatter-room (mesh_of a.mesh) (sizes_of a.table) (sharding_of r a.from) g.sound (omega (arith, e, g.fits.axes)) Ss
          (subst (λ (x : ℕ). T (all_below x (flat Ss))) (sym e) c.requires.1) (rw f tt)
          (all-owed (mesh_of a.mesh) (sizes_of a.table) a.k a.mesh.n Ss (sharding_of r a.from) c.requires.1 f c.ascending-axes.ensures o)),
    )

pub returns : goal.returns
returns c =
    let f = fresh-passes c.args.mesh.n [] _ c.requires.1 (rw (← none-marked) c.in-Ok.ensures.result_value) in
    c.slice_on.ensures
    ∙ scatters _ _ _ c.args.mesh.n _ _ c.requires.1 f c.ascending-axes.ensures (sym c.all_in.ensures ∙ c.if-not-all_in.false)
    (c.reduced-between.ensures c.args.table.rank)
