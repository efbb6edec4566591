-- Laws of the bytes of a record, from the stores that make them: parts of one length in turn (`Parts`), and a record without the one list. Assumes nothing.
use Prim.Native.Nat.{ℕ, ◌+◌, ◌*◌, ◌≤◌, ◌<◌}
use mathlib.Core.Path.{◌≡◌, sym, ap, ◌∙◌, subst, transport}
use mathlib.Core.List.{List, [], ◌∷◌, ◌++◌, append-nil, append_assoc}
use native.Mathlib.Omega.{arith}
use native.Mathlib.Nat.{zero-mul}
use native.Mathlib.Numerals.{add-one}
use lib.ListN.{length}
use Rattle.rules.specs.Lists.{tab, flat}
use Rattle.laws.proofs.Fronts.{next-part}
use Rattle.records.specs.Forms.{five_lists, form_bytes}
use Rattle.encode.specs.Putting.{Put}
use Rattle.encode.proofs.Puts.{put-none, put_both}

flat-last : (ls : List (List ℕ)) (l : List ℕ) → flat (ls ++ l ∷ []) ≡ flat ls ++ l
flat-last [] l = append-nil l
flat-last (k ∷ ls) l = ap (λ (m : List ℕ). k ++ m) (flat-last ls l) ∙ sym (append_assoc k (flat ls) l)

-- i of so many parts are stored, each of one length
pub record Parts (length_each most : ℕ) (part : ℕ → List ℕ) (entry exit : List ℕ) (at next i : ℕ) : Type 0 where
  pub few : i ≤ most
  pub far : next ≡ at + i * length_each
  pub put : Put entry exit at next (flat (tab i part))

module _ {each most : ℕ} {part : ℕ → List ℕ} {entry : List ℕ} {at : ℕ} where
  pub parts-start : Parts each most part entry entry at at 0
  parts-start = record { few = omega arith; far = omega (arith, zero-mul each); put = put-none entry at }

  module _ {exit : List ℕ} {next i : ℕ} (g : Parts each most part entry exit at next i) where
    pub parts-step : i < most → {after : List ℕ} {r : ℕ} (bytes : List ℕ) → bytes ≡ part i → length bytes ≡ each → Put exit after next r bytes
        → Parts each most part entry after at r (i + 1)
    parts-step h {after} {r} bytes e n p = record {
      few = omega arith;
      far = omega (arith, g.far, p.next, n, next-part i each);
      put = subst (Put entry after at r)
          (ap (λ (b : List ℕ). flat (tab i part) ++ b) e ∙ sym (ap (λ (k : ℕ). flat (tab k part)) (add-one i) ∙ flat-last (tab i part) (part i)))
          (put_both g.put p);
    }

    pub parts-done : most ≤ i → Put entry exit at next (flat (tab most part))
    parts-done h =
        let e : i ≡ most = omega (arith, g.few) in
        subst (λ (k : ℕ). Put entry exit at next (flat (tab k part))) e g.put

module _ {entry exit : List ℕ} {at r : ℕ} where
  -- bytes that are known in other words
  pub put-same : {bytes others : List ℕ} → bytes ≡ others → Put entry exit at r bytes → Put entry exit at r others
  put-same e x = transport (λ i. Put entry exit at r (e i)) x

  -- a record without the one list
  pub without-list : (head : List ℕ) (ls : List (List ℕ)) {l : List ℕ} → l ≡ [] → Put entry exit at r (form_bytes head (five_lists ls l))
      → Put entry exit at r (form_bytes head (five_lists ls []))
  without-list head ls e x = transport (λ i. Put entry exit at r (form_bytes head (five_lists ls (e i)))) x
