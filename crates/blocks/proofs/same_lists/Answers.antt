use native.Mathlib.Omega.{arith}
use Rattle.rules.specs.PlanFile.{same}
use Rattle.dims.proofs.Pairs.{testing}
use Rattle.dims.proofs.Dims.{dims-length}
use Rattle.blocks.proofs.same_lists.Goals as goal

pub loop-d-init : goal.loop-d-init
loop-d-init c = let a = c.args in
    testing same _ _ a.rank (dims-length a.a a.rank (c.well_formed.0.1.1.0.1.0.1) (omega arith))
    (dims-length a.b a.rank (c.well_formed.1.0.1.1.0.1.0.1) (omega arith))
