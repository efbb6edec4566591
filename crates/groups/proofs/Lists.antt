-- Laws of lists that loops take from the front. They know nothing of meshes. Assumes nothing.
use Rattle.types.specs.Types.{numbers_of}
use Rattle.types.specs.declared.Axis.{Axis}
use Rattle.axes.proofs.Going.{drop_at}
use Prim.Native.Nat.{ℕ, ◌+◌, ◌<◌}
use mathlib.Core.Path.{◌≡◌, refl, sym, ap, ◌∙◌}
use mathlib.Core.Bool.{Bool, true, false, not}
use mathlib.Core.List.{List, [], ◌∷◌, ◌++◌, append_assoc, append-nil}
use native.Mathlib.Numerals.{add-one}
use lib.ListN.{length, get_or, take, drop}
use lib.Seq.{take-suc}
use Rattle.rules.specs.Lists.{pick, mem, keep, without}

-- one entry more of those that are passed
pub take_at : (l : List ℕ) (i a : ℕ) → i < length l → a ≡ get_or l i 0 → take (i + 1) l ≡ take i l ++ a ∷ []
take_at l i a h e = rw (add-one i, take-suc l i 0 h, ← e) refl

-- one entry more of those that are added
pub keeps : (K L rest : List ℕ) (gone : Bool) (a : ℕ) → gone ≡ mem a L → K ++ without (a ∷ rest) L ≡ (K ++ pick gone [] (a ∷ [])) ++ without rest L
unfolding without keep
keeps K L rest gone a e = rw (← e) (go gone)
  where
    go : (t : Bool) → K ++ pick (not t) (a ∷ without rest L) (without rest L) ≡ (K ++ pick t [] (a ∷ [])) ++ without rest L
    go true = rw (append-nil K) refl
    go false = sym (append_assoc K (a ∷ []) (without rest L))

-- the same, of axes that are passed: `whole` is what they are added to in the end
pub axis-kept : (whole K L : List ℕ) (axes : List Axis) (i : ℕ) (gone : Bool) → whole ≡ K ++ without (numbers_of (drop i axes)) L → i < length axes
    → gone ≡ mem (get_or axes i (record { 0 = 0 })).0 L
    → whole ≡ (K ++ pick gone [] ((get_or axes i (record { 0 = 0 })).0 ∷ [])) ++ without (numbers_of (drop (i + 1) axes)) L
unfolding numbers_of
axis-kept whole K L axes i gone g h e =
    let a : Axis = get_or axes i (record { 0 = 0 }) in
    g ∙ ap (λ (l : List Axis). K ++ without (numbers_of l) L) (drop_at axes i a (record { 0 = 0 }) h refl)
    ∙ keeps K L (numbers_of (drop (i + 1) axes)) gone a.0 e
