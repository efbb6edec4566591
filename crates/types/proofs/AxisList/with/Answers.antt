use Prim.Native.Nat.{◌<◌}
use native.Mathlib.Omega.{arith}
use Rattle.rules.specs.Limits.{most_axes}
use Rattle.types.proofs.Types.{axes-length, axes-with}
use Rattle.types.proofs.AxisList.with.Goals as goal
use Rattle.types.proofs.AxisList.with.Goals.{After-struct_known-1}

-- there is a place left
few : (c : After-struct_known-1) → c.args.self.count < most_axes
few c =
    let s = c in
    omega (arith, axes-length s.args.self (s.well_formed.0.1.1.1.0.1.0.1), s.requires)

pub bounds-next-at : goal.bounds-next-at
bounds-next-at c = few ((goal.at.bounds-next-at c).After-struct_known-1)

pub overflow_cast-next : goal.overflow_cast-next
overflow_cast-next c = let h = few ((goal.at.overflow_cast-next c).After-struct_known-1) in omega arith

pub returns : goal.returns
returns c = let s = c in axes-with s.args.self (s.well_formed.0.1.1.1.0.1.0.1) s.args.a (few ((goal.at.returns c).After-struct_known-1))
