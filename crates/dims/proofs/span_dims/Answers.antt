use native.Mathlib.Omega.{arith}
use mathlib.Core.Path.{◌≡◌, refl, ap₂, ◌∙◌}
use native.Mathlib.Nat.{le_trans}
use lib.ListN.{take}
use Prim.Native.Nat.{◌+◌, ◌*◌}
use Rattle.rules.specs.Lists.{flat}
use Rattle.rules.specs.Mesh.{span as span_of}
use Rattle.types.specs.Types.{axes_of, dims_of, mesh_of}
use Rattle.dims.proofs.Dims.{dims-length, list_at, span_more, span-most, flat-front}
use Rattle.dims.proofs.span_dims.Goals as goal
use Rattle.dims.proofs.span_dims.Goals.{After-span-product}

-- one list more
next : (c : After-span-product) → c.loop-d.product * c.span-product.result
    ≡ span_of (mesh_of c.args.mesh) (flat (take (c.loop-d.d + 1) (take c.args.rank (dims_of c.args.lists))))
next c =
    let a = c.args in
    let d = c.loop-d.d in
    let i = c.loop-d.invariant in
    let h = c.loop-d-test.true in
    let l = axes_of c.at-list.result in
    ap₂ ◌*◌ i.1 c.span-product.ensures
    ∙ span_more (mesh_of a.mesh) (take a.rank (dims_of a.lists)) d l (omega (arith, i.0)) (list_at a.lists a.rank d l h c.at-list.ensures)

pub loop-d-init : goal.loop-d-init
loop-d-init c = (
  dims-length c.args.lists c.args.rank (c.well_formed.0.1.1.0.1.0.1) (omega arith),
  refl,
)

pub overflow_mul-product : goal.overflow_mul-product
overflow_mul-product c = let ls = take c.args.rank (dims_of c.args.lists) in
    let b = span-most (mesh_of c.args.mesh) c.requires.1 (flat (take (c.loop-d.d + 1) ls))
    (le_trans (flat-front ls (c.loop-d.d + 1)) c.requires.2) in
    omega (arith, next c, b)

pub loop-d-preserved : goal.loop-d-preserved
loop-d-preserved c = (c.loop-d.invariant.0, next c)
