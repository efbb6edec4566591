-- Bytes that stand in a file from a place on: reading there is reading of these bytes alone, as far as they go. Assumes nothing.
use Prim.Native.Nat.{ℕ, ◌+◌, ◌/◌, ◌%◌, ◌≤◌, ◌<◌}
use mathlib.Core.Path.{◌≡◌, refl, sym, ap, ◌∙◌}
use mathlib.Core.List.{List, [], ◌∷◌, ◌++◌}
use native.Mathlib.Omega.{arith}
use native.Mathlib.Nat.{div-add-mod', mod-lt}
use lib.ListN.{length, get_or, take, drop, length-append, length-drop}
use lib.Seq.{take_at, drop_at, get_or-drop, drop-drop}
use lib.Dec.{lit<}
use Rattle.rules.specs.PlanFile.{u16_at}
use Rattle.records.specs.Records.{u16_bytes}

-- the bytes of the file from `at` on are the tail
pub record From (at : ℕ) (file tail : List ℕ) : Type 0 where
  pub is : drop at file ≡ tail
  pub inside : at ≤ length file

pub from_all : (file : List ℕ) → From 0 file file
from_all file = record { is = refl; inside = omega arith }

module _ (at : ℕ) (file : List ℕ) where
  pub from-length : (tail : List ℕ) → From at file tail → at + length tail ≡ length file
  from-length tail f = omega (arith, ap length f.is, length-drop at file, f.inside)

  pub from_next : (x y : List ℕ) → From at file (x ++ y) → From (at + length x) file y
  from_next x y f = record {
    is = sym (drop-drop (length x) at file) ∙ ap (drop (length x)) f.is ∙ drop_at x y (length x) refl;
    inside = omega (arith, from-length (x ++ y) f, length-append x y);
  }

  pub from-take : (x y : List ℕ) → From at file (x ++ y) → take (length x) (drop at file) ≡ x
  from-take x y f = ap (take (length x)) f.is ∙ take_at x y (length x) refl

  pub from_byte : (b : ℕ) (y : List ℕ) → From at file (b ∷ y) → get_or file at 0 ≡ b
  from_byte b y f =
      let z : at ≡ at + 0 = omega arith in
      ap (λ (k : ℕ). get_or file k 0) z ∙ sym (get_or-drop at file 0 0) ∙ ap (λ (l : List ℕ). get_or l 0 0) f.is

  pub from_second : (b c : ℕ) (y : List ℕ) → From at file (b ∷ c ∷ y) → get_or file (at + 1) 0 ≡ c
  from_second b c y f = sym (get_or-drop at file 1 0) ∙ ap (λ (l : List ℕ). get_or l 1 0) f.is

  pub from-rest : (b : ℕ) (y : List ℕ) → From at file (b ∷ y) → From (at + 1) file y
  from-rest b y f = from_next (b ∷ []) y f

  pub from-lt : (b : ℕ) (y : List ℕ) → From at file (b ∷ y) → at < length file
  from-lt b y f = omega (arith, from-length (b ∷ y) f)

  -- a byte further on
  pub from_at : (tail : List ℕ) → From at file tail → (i : ℕ) → get_or file (at + i) 0 ≡ get_or tail i 0
  from_at tail f i = sym (get_or-drop at file i 0) ∙ ap (λ (l : List ℕ). get_or l i 0) f.is

  pub from-drop : (tail : List ℕ) → From at file tail → (i : ℕ) → drop (at + i) file ≡ drop i tail
  from-drop tail f i = sym (drop-drop i at file) ∙ ap (drop i) f.is

  -- a 16-bit number
  pub from-u16 : (k : ℕ) (y : List ℕ) → k < 65536 → From at file (u16_bytes k ++ y) → u16_at file at ≡ k
  unfolding u16_at
  from-u16 k y h f =
      rw (from_byte (k % 256) (k / 256 % 256 ∷ y) f, from_second (k % 256) (k / 256 % 256) y f)
      (omega (arith, div-add-mod' k 256, div-add-mod' (k / 256) 256, mod-lt k (lit< {m = 0} {n = 256} tt)))
