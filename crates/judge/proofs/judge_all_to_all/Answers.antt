use native.Mathlib.Omega.{arith}
use mathlib.Core.List.{List}
use mathlib.Core.Path.{sym, ap, ◌∙◌, subst}
use Prim.Native.Nat.{ℕ}
use lib.Dec.{T}
use lib.Seq.{length-take-le}
use Rattle.std.proofs.lemmas.Result.{err_from_is_err_and}
use Rattle.rules.specs.PlanFile.{all_below, gather_off, slice_on}
use Rattle.types.specs.Types.{axes_of, sharding_of, mesh_of, sizes_of}
use Rattle.dims.proofs.Dims.{dims-length}
use Rattle.laws.proofs.Judging.{two_dims-facts}
use Rattle.laws.proofs.Steps.{only_at}
use Rattle.judge.proofs.Steps.{no-dims, gather-stops, gather-passes, target_room}
use Rattle.judge.proofs.judge_all_to_all.Goals as goal

pub returns-then-not-two_dims : goal.returns-then-not-two_dims
returns-then-not-two_dims c = let a = c.args in
    let r = a.table.rank in
    let w = dims-length a.sharding.dims r (c.well_formed.1.1.1.1.0.1.1.0.1.1.0.1.0.1) (omega (arith, c.requires.0.fits.rank)) in
    sym (no-dims (mesh_of a.mesh) (sizes_of a.table) a.k a.source.0 a.target.0 (axes_of a.list) (sharding_of r a.sharding) r w
    (sym c.two_dims.ensures ∙ c.if-not-two_dims.true))

pub returns-in_err-between : goal.returns-in_err-between
returns-in_err-between c = let a = c.args in
    let r = a.table.rank in
    let L = axes_of a.list in
    let s = sharding_of r a.sharding in
    let h = c.requires.0.fits.rank in
    let w = dims-length a.sharding.dims r (c.well_formed.1.1.1.1.0.1.1.0.1.1.0.1.0.1) (omega (arith, h)) in
    let d = sym c.two_dims.ensures ∙ c.if-not-two_dims.false in
    let off = only_at r a.source.0 L _ _ h (two_dims-facts r a.source.0 a.target.0 (rw d tt)).0 c.empty-none.ensures c.with-off.ensures in
    let p = err_from_is_err_and c.from_residual.result c.from_residual.ensures.1 in
    rw (p.1, p.2)
    (gather-stops (mesh_of a.mesh) (sizes_of a.table) a.k a.source.0 a.target.0 L s r w d
    (c.in_err-between.ensures ∙ ap (λ (x : List (List ℕ)). gather_off a.k x s) off))

pub slice_on-requires : goal.slice_on-requires
slice_on-requires c = let a = c.args in
    let g = c.requires.0 in
    let r = a.table.rank in
    let L = axes_of a.list in
    let s = sharding_of r a.sharding in
    let h = g.fits.rank in
    let w = dims-length a.sharding.dims r (c.well_formed.1.1.1.1.0.1.1.0.1.1.0.1.0.1) (omega (arith, h)) in
    let e = length-take-le a.mesh.n a.mesh.sizes (omega (arith, g.fits.axes, c.well_formed.1.1.1.1.1.0.1.1.1.0.1.0.1)) in
    let b = subst (λ (x : ℕ). T (all_below x L)) (sym e) c.requires.1 in
    let d = sym c.two_dims.ensures ∙ c.if-not-two_dims.false in
    let t = two_dims-facts r a.source.0 a.target.0 (rw d tt) in
    let off = only_at r a.source.0 L _ _ h t.0 c.empty-none.ensures c.with-off.ensures in
    let on = only_at r a.target.0 L _ _ h t.1 c.empty-none.ensures c.with-on.ensures in (
      g.fits,
      rw on
          (target_room (mesh_of a.mesh) (sizes_of a.table) a.k a.source.0 a.target.0 L s r w d (sharding_of r c.in_ok-between.between)
          (c.in_ok-between.ensures ∙ ap (λ (x : List (List ℕ)). gather_off a.k x s) off) g.sound (omega (arith, e, g.fits.axes)) g.fits.sized.least b t.0
          t.1),
    )

pub returns : goal.returns
returns c = let a = c.args in
    let r = a.table.rank in
    let L = axes_of a.list in
    let s = sharding_of r a.sharding in
    let h = c.requires.0.fits.rank in
    let w = dims-length a.sharding.dims r (c.well_formed.1.1.1.1.0.1.1.0.1.1.0.1.0.1) (omega (arith, h)) in
    let d = sym c.two_dims.ensures ∙ c.if-not-two_dims.false in
    let t = two_dims-facts r a.source.0 a.target.0 (rw d tt) in
    let off = only_at r a.source.0 L _ _ h t.0 c.empty-none.ensures c.with-off.ensures in
    let on = only_at r a.target.0 L _ _ h t.1 c.empty-none.ensures c.with-on.ensures in
    let b = sharding_of r c.in_ok-between.between in
    c.slice_on.ensures ∙ ap (λ (x : List (List ℕ)). slice_on (mesh_of a.mesh) (sizes_of a.table) a.k x b) on
    ∙ sym (gather-passes (mesh_of a.mesh) (sizes_of a.table) a.k a.source.0 a.target.0 L s r w d b
    (c.in_ok-between.ensures ∙ ap (λ (x : List (List ℕ)). gather_off a.k x s) off))
