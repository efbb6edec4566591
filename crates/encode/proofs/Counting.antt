-- Laws of counting outermost steps, record by record. Assumes nothing.
use Prim.Native.Nat.{ℕ, zero, suc, ◌+◌, ◌*◌, ◌-◌, ◌≤◌, ◌<◌}
use mathlib.Core.Path.{◌≡◌, refl, sym, ap, ◌∙◌}
use mathlib.Core.List.{List, [], ◌∷◌}
use native.Mathlib.Omega.{arith}
use native.Mathlib.Numerals.{add-one}
use mir.Val.{bool_byte}
use lib.Dec.{eqb, eqb→eq}
use mathlib.Core.Bool.{Bool, true, false}
use lib.ListN.{length, get_or, drop, length-drop, drop_of_length-le}
use lib.Seq.{drop-cons}
use Rattle.std.specs.Prelude.{Option, Some, None}
use Rattle.types.specs.declared.Step.{Step}
use Rattle.types.specs.declared.Step.TheVariants.{AllSlice, AllGather, AllReduce, AllToAll, ReduceScatter}
use Rattle.laws.proofs.Lists.{length-tab, get_or-tab, n_t→false}
use Rattle.records.specs.Records.{Given, unknown, inner_of, outermost_from, outermost}
use Rattle.records.specs.Forms.{record_bytes, step_record, given_kind, given_at, record_count, steps_given}
use Rattle.encode.proofs.Given.{repeat-given, plain-given}

-- ---- one record

kind-inner : (rank : ℕ) (t : Option Step) → 0 ≡ inner_of (given_kind rank t)
kind-inner rank (Some (AllSlice lists)) = refl
kind-inner rank (Some (AllGather lists)) = refl
kind-inner rank (Some (AllReduce list)) = refl
kind-inner rank (Some (AllToAll source target list)) = refl
kind-inner rank (Some (ReduceScatter lists)) = refl
kind-inner rank None = refl

pub repeat-inner : (bytes : List ℕ) (from : ℕ) → get_or bytes from 0 ≡ 9 → (rank : ℕ) → get_or bytes (from + 2) 0 ≡ inner_of (given_at rank bytes from)
repeat-inner bytes from e rank = sym (ap inner_of (repeat-given rank bytes from e))

pub plain-inner : (bytes : List ℕ) (from : ℕ) → (get_or bytes from 0 ≡ 9 → ⊥) → (rank : ℕ) → 0 ≡ inner_of (given_at rank bytes from)
plain-inner bytes from n rank = kind-inner rank (step_record bytes from) ∙ sym (ap inner_of (plain-given rank bytes from n))

-- ---- records in turn

module _ (rank : ℕ) (bytes : List ℕ) where
  pub given-length : length (steps_given rank bytes) ≡ record_count bytes
  unfolding steps_given
  given-length = length-tab (record_count bytes) (λ i. given_at rank bytes (record_bytes * i))

  pub record-here : (i : ℕ) → i < record_count bytes
      → drop i (steps_given rank bytes) ≡ given_at rank bytes (record_bytes * i) ∷ drop (i + 1) (steps_given rank bytes)
  unfolding steps_given
  record-here i h =
      let less : i < length (steps_given rank bytes) = omega (arith, given-length) in
      rw (drop-cons (steps_given rank bytes) i unknown less, add-one i)
      (ap (λ (g : Given). g ∷ drop (suc i) (steps_given rank bytes)) (get_or-tab (record_count bytes) i (λ j. given_at rank bytes (record_bytes * j)) unknown h))

  pub record-none : (i : ℕ) → record_count bytes ≤ i → drop i (steps_given rank bytes) ≡ []
  record-none i h = drop_of_length-le (steps_given rank bytes) {i = i} (omega (arith, given-length))

-- ---- all of them

-- a record stands in no block where none is to come of those that are open
abbrev one_outermost : (still : ℕ) → ℕ
one_outermost still = bool_byte (eqb still 0)

one-few : (still : ℕ) → one_outermost still ≤ 1
one-few still = go (eqb still 0)
  where
    go : (b : Bool) → bool_byte b ≤ 1
    go true = omega arith
    go false = omega arith

none-open : (n : ℕ) → one_outermost (suc n) ≡ 0
none-open n = ap bool_byte (n_t→false (eqb (suc n) 0) (λ t. let e : suc n ≡ 0 = eqb→eq (suc n) 0 t in absurd (omega arith)))

from_cons : (still : ℕ) (g : Given) (gs : List Given) → outermost_from still (g ∷ gs) ≡ one_outermost still + outermost_from (still - 1 + inner_of g) gs
unfolding outermost_from
from_cons zero g gs =
    let e : 0 - 1 + inner_of g ≡ inner_of g = omega arith in
    omega (arith, ap (λ (k : ℕ). outermost_from k gs) e)
from_cons (suc n) g gs =
    let e : suc n - 1 + inner_of g ≡ inner_of g + n = omega arith in
    omega (arith, none-open n, ap (λ (k : ℕ). outermost_from k gs) e)

from-none : (gs : List Given) (still : ℕ) → length gs ≤ still → outermost_from still gs ≡ 0
unfolding outermost_from
from-none [] still h = refl
from-none (g ∷ gs) zero h = absurd (omega (arith, h))
from-none (g ∷ gs) (suc n) h = from-none gs (inner_of g + n) (omega (arith, h))

pub record Counting (bytes : List ℕ) (outer still i : ℕ) : Type 0 where
  pub few : i ≤ record_count bytes
  pub outer_few : outer ≤ i
  pub counted : (rank : ℕ) → outermost (steps_given rank bytes) ≡ outer + outermost_from still (drop i (steps_given rank bytes))

pub counting-start : (bytes : List ℕ) → Counting bytes 0 0 0
counting-start bytes = record { few = omega arith; outer_few = omega arith; counted = λ rank. omega arith }

pub counting-step : {bytes : List ℕ} {outer still i inner one less : ℕ} → Counting bytes outer still i → i < record_count bytes
    → ((rank : ℕ) → inner ≡ inner_of (given_at rank bytes (record_bytes * i))) → one ≡ bool_byte (eqb still 0) → less ≡ still - 1
    → Counting bytes (outer + one) (less + inner) (i + 1)
counting-step {bytes} {outer} {still} {i} {inner} {one} {less} s h e o n = record {
  few = omega arith;
  outer_few = omega (arith, s.outer_few, one-few still, o);
  counted = λ rank.
      let all : List Given = steps_given rank bytes in
      let g : Given = given_at rank bytes (record_bytes * i) in
      let z : still - 1 + inner_of g ≡ less + inner = omega (arith, n, e rank) in
      let d : outermost_from still (drop i all) ≡ one_outermost still + outermost_from (less + inner) (drop (i + 1) all) =
      ap (outermost_from still) (record-here rank bytes i h) ∙ from_cons still g (drop (i + 1) all)
      ∙ ap (λ (k : ℕ). one_outermost still + outermost_from k (drop (i + 1) all)) z in
      omega (arith, s.counted rank, d, o);
}

pub counting-done : {bytes : List ℕ} {outer still i : ℕ} → Counting bytes outer still i → record_count bytes - i ≤ still
    → (rank : ℕ) → outer ≡ outermost (steps_given rank bytes)
counting-done {bytes} {outer} {still} {i} s h rank =
    let all : List Given = steps_given rank bytes in
    let z : outermost_from still (drop i all) ≡ 0 =
    from-none (drop i all) still (omega (arith, length-drop i all, given-length rank bytes, h, s.few)) in
    omega (arith, s.counted rank, z)
