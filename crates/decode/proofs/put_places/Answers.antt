use mathlib.Core.Path.{refl, ap}
use mathlib.Core.List.{[], ◌∷◌}
use Prim.Native.Nat.{ℕ}
use Rattle.decode.proofs.Forms.{parts-step, parts-done}
use Rattle.decode.proofs.put_places.Goals as goal

pub loop-i-preserved : goal.loop-i-preserved
loop-i-preserved c = parts-step c.loop-i.invariant c.loop-i-test.true _ (ap (λ (n : ℕ). n ∷ []) c.at.ensures) refl c.put_byte-next.ensures

pub returns : goal.returns
returns c = parts-done c.loop-i.invariant c.loop-i-test.false
