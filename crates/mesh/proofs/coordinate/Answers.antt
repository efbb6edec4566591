use mathlib.Core.Path.{sym, ap₂, ◌∙◌}
use Prim.Native.Nat.{ℕ, ◌/◌, ◌%◌}
use native.Mathlib.Omega.{arith}
use Rattle.mesh.proofs.Sizes.{axis-bounds, coords-at}
use Rattle.mesh.proofs.coordinate.Goals as goal

pub nonzero_div-result : goal.nonzero_div-result
nonzero_div-result c = let a = c in
    omega (arith, (axis-bounds a.args.mesh.now a.requires.on a.args.axis.0).stride_pos, c.product_from-stride.ensures)

pub nonzero_rem-result : goal.nonzero_rem-result
nonzero_rem-result c = let a = c in
    omega (arith, (axis-bounds a.args.mesh.now a.requires.on a.args.axis.0).size_pos, c.size_at-size.ensures)

pub returns : goal.returns
returns c = let a = c in
    ap₂ (λ (s n : ℕ). a.args.place / s % n) c.product_from-stride.ensures c.size_at-size.ensures
    ∙ sym (coords-at a.args.mesh.now a.args.place a.args.axis.0 a.requires.below)
