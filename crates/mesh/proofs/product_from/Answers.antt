use native.Mathlib.Omega.{arith}
use mathlib.Core.Path.{refl}
use Rattle.mesh.proofs.Sizes.{product-step}
use Rattle.mesh.proofs.product_from.Goals as goal

pub overflow_mul-product : goal.overflow_mul-product
overflow_mul-product c = omega (arith, (product-step c.loop-i.invariant c.requires c.loop-i-test.true _ refl).1)
