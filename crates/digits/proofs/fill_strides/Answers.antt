use native.Mathlib.Omega.{arith}
use Prim.Native.Nat.{◌*◌, ◌-◌, ◌+◌}
use mathlib.Core.Path.{◌≡◌}
use lib.ListN.{drop}
use Rattle.rules.specs.Lists.{product}
use Rattle.mesh.proofs.Sizes.{product-less}
use Rattle.digits.proofs.fill_strides.Goals as goal
use Rattle.digits.proofs.fill_strides.Goals.{After-product_from}

-- the words from one device of the axis to the next
stride : (c : After-product_from) → c.product_from.result * c.args.m ≡ product (drop c.loop-i.i c.args.mesh.now) * c.args.m
stride c =
    let e : c.loop-i.i - 1 + 1 ≡ c.loop-i.i = omega arith in
    rw (c.product_from.ensures, e)

pub overflow_mul-strides : goal.overflow_mul-strides
overflow_mul-strides c = omega (
  arith,
  stride ((goal.at.overflow_mul-strides c).After-product_from),
  product-less c.args.mesh.now c.loop-i.i c.args.m c.requires.0.on.devices_pos,
  c.requires.1,
)
