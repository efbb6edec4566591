use native.Mathlib.Omega.{arith}
use Rattle.types.proofs.Types.{axes-length}
use Rattle.types.proofs.AxisList.len.Goals as goal

pub returns-then-count-gt-MOST : goal.returns-then-count-gt-MOST
returns-then-count-gt-MOST c = let a = c in omega (arith, axes-length a.args.self (a.well_formed.0.1.1.1.0.1.0.1))

pub returns-else-count-gt-MOST : goal.returns-else-count-gt-MOST
returns-else-count-gt-MOST c = let a = c in omega (arith, axes-length a.args.self (a.well_formed.0.1.1.1.0.1.0.1))
