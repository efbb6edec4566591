use mathlib.Core.Path.{◌≡◌, refl, sym, ◌∙◌}
use mathlib.Core.Bool.{false, not, ◌&&◌}
use lib.Dec.{eqb, ltb}
use Prim.Native.Nat.{◌+◌}
use lib.ListN.{get_or}
use Rattle.pieces.proofs.count_number.Goals.{then-numbers, else-numbers, then-numbers-2, else-numbers-2}
use Rattle.pieces.proofs.count_number.Goals as goal

pub returns : goal.returns
returns c =
    let a = c.args in
    let fine : c.if-numbers.fine ≡ (a.numbers.fine && (ltb a.device a.n && not (get_or a.marks.now a.device false))) =
    elim c.if-numbers.branch [
      | then-numbers w ↦ w.fine-is ∙ w.is_new-fine.ensures ∙ sym (rw w.if-numbers.true refl)
      | else-numbers w ↦ w.fine-is ∙ w.if-numbers.false ∙ sym (rw w.if-numbers.false refl)
    ] in
    let plain : c.if-numbers-2.plain ≡ (a.numbers.plain && eqb a.device a.numbers.count) =
    elim c.if-numbers-2.branch [
      | then-numbers-2 w ↦ w.plain-is ∙ sym (rw w.if-numbers-2.true refl)
      | else-numbers-2 w ↦ w.plain-is ∙ w.if-numbers-2.false ∙ sym (rw w.if-numbers-2.false refl)
    ] in
    λ i. record { count = a.numbers.count + 1; marks = c.mark.ensures i; fine = fine i; plain = plain i }
