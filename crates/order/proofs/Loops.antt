-- What goes along an order: the first place of a device (`found-first`), the plain order (`same-plain`), the test turn by turn, for which what is asked of
-- the whole list is what is asked of the rest of it (`Marked`), the places written so far (`Inverted`), numbers looked up (`looked-up`), one shard word by
-- word (`shard-words`). Assumes nothing.
use Rattle.std.specs.Prelude.{◌≢◌, ◌↔◌, Option, Some, None, MatchOption, EachIndex, IsTrue}
use Rattle.std.specs.Option.{unwrap_or}
use Rattle.std.proofs.lemmas.Bool.{cases_Bool}
use Rattle.std.proofs.lemmas.Grind.{same_number_lists}
use Prim.Native.Nat.{ℕ, zero, suc, ◌+◌, ◌-◌, ◌*◌, ◌/◌, ◌%◌, ◌<◌, ◌≤◌}
use mathlib.Core.Path.{◌≡◌, refl, sym, ap, ap₂, ◌∙◌, subst}
use mathlib.Core.Bool.{Bool, true, false, not, ◌&&◌, ◌||◌}
use mathlib.Core.Logic.{inl, inr}
use mathlib.Core.List.{List, [], ◌∷◌, map}
use native.Mathlib.Numerals.{add-one}
use native.Mathlib.Decide.{ℕ_discrete}
use native.Mathlib.Omega.{arith}
use borrow.Author.Tests.{eq-eqb, ne_eqb, lt-ltb, le-ltb}
use lib.ListN.{length, get_or, set, take, drop, length-set, drop_of_length-le}
use lib.Seq.{drop-cons, get_or-set_same, get_or-set_other}
use lib.Dec.{T, eqb, ltb}
use lib.Arith.{digits_div, digits_mod}
use Rattle.rules.specs.Lists.{tab, mem}
use Rattle.rules.specs.Mesh.{plain_order, place_in, Rearrangement}
use Rattle.rules.specs.PlanFile.{all_below, fresh, same, rearranges, order_allowed}
use Rattle.laws.proofs.Lists.{length-tab, get_or-tab, map-tab, tab-cong}
use Rattle.laws.proofs.Fronts.{whole-tab, part-tab, part_cut}
use Rattle.laws.proofs.Judging.{same-eq}
use Rattle.laws.proofs.Orders.{rearranged, place-below, listed_at}
use Rattle.order.specs.Order.{places_of}

-- the entry at i, and what follows it
next-at : (l : List ℕ) (i : ℕ) → i < length l → drop i l ≡ get_or l i 0 ∷ drop (i + 1) l
next-at l i h = drop-cons l i 0 h ∙ ap (λ (k : ℕ). get_or l i 0 ∷ drop k l) (sym (add-one i))

-- ---- the place of a device: the first that has it

first-place : (d : ℕ) (l : List ℕ) (i : ℕ) → i ≤ length l → ((k : ℕ) → k < i → get_or l k 0 ≢ d) → (i < length l → get_or l i 0 ≡ d) → i ≡ place_in d l
first-place d [] i h before at = omega arith
first-place d (e ∷ l) zero h before at = sym (rw (eq-eqb d e (sym (at (omega arith)))) refl)
first-place d (e ∷ l) (suc i) h before at =
    let turn : place_in d (e ∷ l) ≡ place_in d l + 1 = rw (ne_eqb d e (λ q. before 0 (omega arith) (sym q))) refl in
    omega (arith, turn, first-place d l i (omega arith) (λ k g. before (suc k) (omega arith)) (λ g. at (omega arith)))

pub found-first : (d : ℕ) (l : List ℕ) (r : Option ℕ)
    → MatchOption r (EachIndex l (λ k. get_or l k 0 ≢ d)) (λ i. (i < length l) × (get_or l i 0 ≡ d) × ((k : ℕ) → k < i → get_or l k 0 ≢ d))
    → unwrap_or r (length l) ≡ place_in d l
found-first d l None h = first-place d l (length l) (omega arith) h (λ g. absurd (omega arith))
found-first d l (Some i) h = first-place d l i (omega (arith, h.0)) h.2 (λ g. h.1)

-- ---- the plain order

same_self : (l : List ℕ) → same l l ≡ true
unfolding same
same_self [] = refl
same_self (a ∷ l) = rw (eq-eqb a a refl) (same_self l)

module _ (l : List ℕ) where
  abbrev plain : List ℕ
  plain = plain_order (length l)

  each_plain : same l plain ≡ true → EachIndex l (λ k. get_or l k 0 ≡ k)
  each_plain e k h = ap (λ (m : List ℕ). get_or m k 0) (same-eq l plain (subst T (sym e) tt)) ∙ get_or-tab (length l) k (λ d. d) 0 h

  pub same-plain : (b : Bool) → (IsTrue b ↔ EachIndex l (λ k. get_or l k 0 ≡ k)) → b ≡ same l plain
  same-plain true h =
      let n : ℕ = length l in
      let e : l ≡ plain = same_number_lists l plain (sym (length-tab n (λ d. d))) (λ k g. h.0 refl k g ∙ sym (get_or-tab n k (λ d. d) 0 g)) in
      sym (ap (same l) (sym e) ∙ same_self l)
  same-plain false h = elim (cases_Bool (same l plain)) [ inl e ↦ (let q : IsTrue false = h.1 (each_plain e) in cc) | inr e ↦ sym e ]

-- ---- the test

-- the numbers before place i are below n, and are marked
pub record Marked (n : ℕ) (l : List ℕ) (marks : List Bool) (i : ℕ) : Type 0 where
  pub before : List ℕ
  pub low : all_below n l ≡ all_below n (drop i l)
  pub new : fresh [] l ≡ fresh before (drop i l)
  pub told : (d : ℕ) → d < n → get_or marks d false ≡ mem d before

and-false : (a : Bool) → a && false ≡ false
and-false true = refl
and-false false = refl

module _ {n : ℕ} {l : List ℕ} {marks : List Bool} {i : ℕ} (g : Marked n l marks i) where
  module _ (h : i < length l) where
    abbrev d : ℕ
    d = get_or l i 0

    low_turn : all_below n l ≡ ltb d n && all_below n (drop (i + 1) l)
    unfolding all_below
    low_turn = g.low ∙ ap (all_below n) (next-at l i h)

    new-turn : fresh [] l ≡ not (mem d g.before) && fresh (d ∷ g.before) (drop (i + 1) l)
    unfolding fresh
    new-turn = g.new ∙ ap (fresh g.before) (next-at l i h)

    pub too-high : n ≤ d → rearranges n l ≡ false
    unfolding rearranges
    too-high k =
        let e : all_below n l ≡ false = low_turn ∙ rw (le-ltb d n k) refl in
        ap (λ (t : Bool). eqb (length l) n && (t && fresh [] l)) e ∙ and-false (eqb (length l) n)

    module _ (k : d < n) where
      pub again : get_or marks d false ≡ true → rearranges n l ≡ false
      unfolding rearranges
      again m =
          let e : fresh [] l ≡ false = new-turn ∙ rw (sym (g.told d k) ∙ m) refl in
          ap (λ (t : Bool). eqb (length l) n && (all_below n l && t)) e
          ∙ ap (λ (t : Bool). eqb (length l) n && t) (and-false (all_below n l)) ∙ and-false (eqb (length l) n)

      pub mark_on : n ≤ length marks → get_or marks d false ≡ false → Marked n l (set marks d true) (i + 1)
      unfolding mem
      mark_on room m = record {
        before = d ∷ g.before;
        low = low_turn ∙ rw (lt-ltb d n k) refl;
        new = new-turn ∙ rw (sym (g.told d k) ∙ m) refl;
        told = λ e b. go e b (ℕ_discrete e d);
      }
        where
          go : (e : ℕ) → e < n → Dec (e ≡ d) → get_or (set marks d true) e false ≡ mem e (d ∷ g.before)
          go e b (yes q) =
              ap (λ (c : ℕ). get_or (set marks d true) c false) q ∙ get_or-set_same marks d true false (omega arith)
              ∙ sym (ap (λ (t : Bool). t || mem e g.before) (eq-eqb e d q))
          go e b (no q) =
              get_or-set_other marks d e true false q ∙ g.told e b ∙ sym (ap (λ (t : Bool). t || mem e g.before) (ne_eqb e d q))

  pub all-marked : length l ≡ n → length l ≤ i → rearranges n l ≡ true
  unfolding rearranges all_below fresh
  all-marked e h =
      let none : drop i l ≡ [] = drop_of_length-le l {i = i} h in
      ap₂ (λ (s t : Bool). eqb (length l) n && (s && t)) (g.low ∙ ap (all_below n) none) (g.new ∙ ap (fresh g.before) none)
      ∙ rw (eq-eqb (length l) n e) refl

pub wrong-length : (n : ℕ) (l : List ℕ) → ¬ (length l ≡ n) → rearranges n l ≡ false
unfolding rearranges
wrong-length n l h = rw (ne_eqb (length l) n h) refl

-- with the plain order left out
module _ (n : ℕ) (l : List ℕ) where
  pub not-allowed : rearranges n l ≡ false → order_allowed n l ≡ false
  unfolding order_allowed
  not-allowed e = ap (λ (t : Bool). t && not (same l (plain_order n))) e

  pub allowed-unless : rearranges n l ≡ true → order_allowed n l ≡ not (same l (plain_order (length l)))
  unfolding order_allowed
  allowed-unless e =
      ap (λ (t : Bool). t && not (same l (plain_order n))) e
      ∙ ap (λ (k : ℕ). not (same l (plain_order k))) (sym (rearranged n l (subst T (sym e) tt)).size)

-- ---- the inverse

-- the places of the first i devices of an order of n are written
pub record Inverted (n : ℕ) (order places : List ℕ) (i : ℕ) : Type 0 where
  pub size : length places ≡ n
  pub written : (q : ℕ) → q < i → get_or places (get_or order q 0) 0 ≡ q

module _ {n : ℕ} {order places : List ℕ} {i : ℕ} (r : Rearrangement n order) (g : Inverted n order places i) where
  pub invert-on : i < n → Inverted n order (set places (get_or order i 0) i) (i + 1)
  invert-on h = record { size = rw length-set g.size; written = λ q l. go q l (ℕ_discrete q i) }
    where
      d : ℕ
      d = get_or order i 0

      go : (q : ℕ) → q < i + 1 → Dec (q ≡ i) → get_or (set places d i) (get_or order q 0) 0 ≡ q
      go q l (yes e) =
          ap (λ (k : ℕ). get_or (set places d i) (get_or order k 0) 0) e ∙ get_or-set_same places d i 0 (omega (arith, r.below i h, g.size)) ∙ sym e
      go q l (no k) =
          get_or-set_other places d (get_or order q 0) i 0 (λ e. k (r.once q i (omega (arith, k)) h e)) ∙ g.written q (omega (arith, k))

  pub inverted : n ≤ i → places ≡ places_of order
  unfolding places_of
  inverted h =
      whole-tab 0 places ∙ ap (λ (k : ℕ). tab k (λ d. get_or places d 0)) g.size
      ∙ tab-cong n _ _ (λ d l.
      ap (λ (k : ℕ). get_or places k 0) (sym (listed_at n order r d l)) ∙ g.written (place_in d order) (omega (arith, place-below n order r d l)))
      ∙ ap (λ (k : ℕ). tab k (λ d. place_in d order)) (sym r.size)

-- ---- numbers that are looked up

pub looked-up : (f : ℕ → ℕ) (l : List ℕ) → tab (length l) (λ k. f (get_or l k 0)) ≡ map f l
looked-up f l = sym (ap (map f) (whole-tab 0 l) ∙ map-tab f (length l) (λ k. get_or l k 0))

-- ---- a shard

-- the shard that goes to place i, word by word
pub shard-words : {W : Type 0} (z : W) (from : List W) (order : List ℕ) (i m : ℕ) → get_or order i 0 * m + m ≤ length from
    → take (get_or order i 0 * m + m - get_or order i 0 * m) (drop (get_or order i 0 * m) from)
    ≡ tab m (λ o. get_or from (get_or order ((i * m + o) / m) 0 * m + (i * m + o) % m) z)
shard-words z from order i m h =
    let at : ℕ = get_or order i 0 * m in
    ap (λ (k : ℕ). take k (drop at from)) (part_cut at m) ∙ part-tab z from at m h
    ∙ tab-cong m (λ o. get_or from (at + o) z) (λ o. get_or from (get_or order ((i * m + o) / m) 0 * m + (i * m + o) % m) z)
    (λ o g. rw (digits_div i g, digits_mod i g) refl)
