use native.Mathlib.Omega.{arith}
use Rattle.types.proofs.Types.{axes-length, axis-at}
use Rattle.types.proofs.AxisList.at.Goals as goal

pub bounds-self-i : goal.bounds-self-i
bounds-self-i c = let a = c in
    omega (arith, axes-length a.args.self (a.well_formed.0.1.1.1.0.1.0.1))

pub returns-then-i-len : goal.returns-then-i-len
returns-then-i-len c = let a = c in
    axis-at a.args.self (a.well_formed.0.1.1.1.0.1.0.1) a.args.i (omega arith)
