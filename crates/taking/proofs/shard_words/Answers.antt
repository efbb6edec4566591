use native.Mathlib.Omega.{arith}
use Prim.Native.Nat.{◌*◌, ◌/◌}
use mathlib.Core.List.{◌++◌}
use mathlib.Core.Path.{◌≡◌, ap₂, ◌∙◌}
use native.Mathlib.Nat.{mul-div_cancel}
use lib.ListN.{length, length-take, length-append, take}
use Rattle.rules.specs.Lists.{flat, product}
use Rattle.rules.specs.Mesh.{span}
use Rattle.rules.specs.Sharding.{shard_sizes}
use Rattle.types.specs.Types.{axes_of, dims_of, mesh_of, sizes_of}
use Rattle.laws.proofs.Sizes.{cut-divisible, cut_product}
use Rattle.dims.proofs.Dims.{span-least}
use Rattle.laws.proofs.Lists.{few-distinct}
use Rattle.laws.proofs.Steps.{varies}
use Rattle.taking.proofs.shard_words.Goals as goal

pub span_dims-requires : goal.span_dims-requires
span_dims-requires c = let r = c.requires.0 in
    let a = c.args in
    let dims = flat (take a.table.rank (dims_of a.sharding.dims)) in
    let u = axes_of a.sharding.unreduced in
    let v = varies (mesh_of a.mesh) (sizes_of a.table) _ r.sound in
    let cut = length-take a.mesh.n a.mesh.sizes in (
      r.fits.rank,
      r.fits.sized,
      omega (arith, few-distinct (length (mesh_of a.mesh)) (dims ++ u) v.once v.of_mesh, length-append dims u, r.fits.axes, cut),
    )

pub nonzero_div-result : goal.nonzero_div-result
nonzero_div-result c = omega (arith, span-least (mesh_of c.args.mesh) c.requires.0.fits.sized (flat (take c.args.table.rank (dims_of c.args.sharding.dims))), c.span_dims.ensures)

pub returns : goal.returns
returns c = let a = c.args in
    let mesh = mesh_of a.mesh in
    let sizes = sizes_of a.table in
    let dims = take a.table.rank (dims_of a.sharding.dims) in
    let words = product (shard_sizes mesh sizes dims) in
    let r = c.requires.0 in
    let e : a.total ≡ words * span mesh (flat dims) = c.requires.1 ∙ cut_product mesh (cut-divisible mesh sizes dims r.sound.divides) in
    ap₂ ◌/◌ e c.span_dims.ensures ∙ mul-div_cancel words (span-least mesh r.fits.sized (flat dims))
