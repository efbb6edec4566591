use native.Mathlib.Omega.{arith}
use Rattle.types.proofs.Types.{axes-length}
use Rattle.marshal.proofs.count_of.Goals as goal

pub overflow_cast-result : goal.overflow_cast-result
overflow_cast-result c = omega (arith, axes-length c.args.list c.well_formed.0.1.1.1.0.1.0.1)
