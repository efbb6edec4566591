use native.Mathlib.Omega.{arith}
use mathlib.Core.Path.{◌∙◌}
use Prim.Native.Nat.{◌+◌}
use Rattle.encode.proofs.Counting.{repeat-inner, plain-inner}
use Rattle.encode.proofs.inner_at.Goals as goal

pub returns-then-steps-from-eq9 : goal.returns-then-steps-from-eq9
returns-then-steps-from-eq9 c = let a = c.args in (
  omega (arith, c.type_inv.steps (a.from + 2), c.from.ensures),
  λ rank. c.from.ensures ∙ repeat-inner a.steps.now a.from c.if-steps-from-eq9.true rank,
)

pub returns-else-steps-from-eq9 : goal.returns-else-steps-from-eq9
returns-else-steps-from-eq9 c = let a = c.args in (omega arith, plain-inner a.steps.now a.from c.if-steps-from-eq9.false)
