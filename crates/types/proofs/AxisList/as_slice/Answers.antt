use mathlib.Core.Path.{ap, ◌∙◌}
use native.Mathlib.Omega.{arith}
use Prim.Native.Nat.{ℕ}
use lib.ListN.{take}
use Rattle.types.specs.Types.{numbers_of}
use Rattle.types.proofs.Types.{axes-few, axes-front}
use Rattle.types.proofs.AxisList.as_slice.Goals as goal

pub shared_ref_as_front-result : goal.shared_ref_as_front-result
shared_ref_as_front-result c = omega (arith, axes-few c.args.self.now)

pub returns : goal.returns
returns c = ap (λ (n : ℕ). numbers_of (take n c.args.self.now.axes)) c.len.ensures ∙ axes-front c.args.self.now
