use Rattle.mesh.proofs.Sizes.{ProductAt}
use Rattle.mesh.proofs.product_from.Given as goal

abbrev pub invariant-loop-i : goal.invariant-loop-i
invariant-loop-i l = ProductAt l.mesh l.first l.product l.i
