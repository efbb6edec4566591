use mathlib.Core.Path.{refl, ap, ◌∙◌}
use mathlib.Core.List.{[], ◌∷◌}
use Prim.Native.Nat.{ℕ}
use lib.ListN.{length}
use Rattle.encode.proofs.Puts.{put_both}
use Rattle.decode.proofs.Forms.{parts-step, parts-done, put-same}
use Rattle.decode.proofs.put_counts.Goals as goal

pub loop-d-preserved : goal.loop-d-preserved
loop-d-preserved c =
    parts-step c.loop-d.invariant c.loop-d-test.true _ (ap (λ (n : ℕ). n ∷ []) (c.count_of.ensures ∙ ap length c.list_at.ensures)) refl c.put_byte-next.ensures

pub returns : goal.returns
returns c =
    put_both (parts-done c.loop-d.invariant c.loop-d-test.false) (put-same (ap (λ (n : ℕ). n ∷ []) c.count_of-2.ensures) c.put_byte.ensures)
