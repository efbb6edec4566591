-- Laws of a buffer whose front has been written, word by word or part by part, for elements of any type, and of parts that are lent. Every loop that
-- fills a slice keeps `Filled`: it begins with `fill_start`, goes on by `fill-word` or `fill-part`, and ends with `fill_end`. Assumes nothing.
use Prim.Native.Nat.{ℕ, zero, suc, ◌+◌, ◌*◌, ◌-◌, ◌≤◌, ◌<◌}
use mathlib.Core.Path.{◌≡◌, refl, sym, ap, ◌∙◌}
use mathlib.Core.List.{List, ◌++◌, append_assoc, append-nil}
use native.Mathlib.Nat.{add-zero, zero-add, sub-zero, suc-mul, add-mul, one-mul, mul-le-mul_right}
use native.Mathlib.Numerals.{add-one}
use native.Mathlib.Omega.{arith}
use borrow.Rule.Slice.PartMut.{put_mid, same_len_mid}
use lib.ListN.{length, get_or, set, take, drop, length-set, length-drop}
use lib.Seq.{get_or-drop, get_or-append-add, take-length, take_all, take-suc, take_at, drop_at, drop-cons, drop-drop, drop-length, set_at, length-take-le}
use Rattle.rules.specs.Lists.{tab}
use Rattle.laws.proofs.Lists.{length-tab, tab-cong}
use Rattle.laws.proofs.Groups.{tab-add}

module _ {W : Type 0} where
  -- ---- word by word

  pub front-step : (f : ℕ → W) (l : List W) (t : ℕ) → t < length l → set (tab t f ++ drop t l) t (f t) ≡ tab (t + 1) f ++ drop (t + 1) l
  front-step f l t h =
      rw (add-one, drop-cons l t (f t) h, set_at (tab t f) (get_or l t (f t)) (drop (suc t) l) (f t) t (length-tab t f), append_assoc)

  -- the word just behind the front is as it was
  pub front-behind : (z : W) (f : ℕ → W) (l : List W) (t : ℕ) → get_or (tab t f ++ drop t l) t z ≡ get_or l t z
  front-behind z f l t =
      let e : t ≡ length (tab t f) + 0 = omega (arith, length-tab t f) in
      ap (λ (k : ℕ). get_or (tab t f ++ drop t l) k z) e ∙ get_or-append-add (tab t f) (drop t l) 0 z ∙ get_or-drop t l 0 z
      ∙ ap (λ (k : ℕ). get_or l k z) (add-zero t)

  pub front-full : (f : ℕ → W) (l : List W) (t : ℕ) → t ≡ length l → tab t f ++ drop t l ≡ tab (length l) f
  front-full f l t e =
      ap (λ (k : ℕ). tab k f ++ drop k l) e ∙ ap (λ (r : List W). tab (length l) f ++ r) (drop-length l) ∙ append-nil (tab (length l) f)

  -- ---- part by part

  -- the part of m words at a that is lent comes back as the next of the front
  pub front-part : (a m k : ℕ) (f : ℕ → W) (l new part : List W) → k ≡ m → new ≡ tab a f ++ drop a l → part ≡ tab m (λ o. f (a + o))
      → put_mid a k new part ≡ tab (a + m) f ++ drop (a + m) l
  front-part a m k f l new part ek en ep =
      rw (
        ek,
        en,
        ep,
        take_at (tab a f) (drop a l) a (length-tab a f),
        drop_at (tab a f) (drop a l) a (length-tab a f),
        drop-drop m a l,
        ← append_assoc (tab a f) (tab m (λ o. f (a + o))) (drop (a + m) l),
        ← tab-add a m f,
      )

  -- a part, word by word
  pub part-tab : (z : W) (l : List W) (at n : ℕ) → at + n ≤ length l → take n (drop at l) ≡ tab n (λ t. get_or l (at + t) z)
  part-tab z l at zero h = refl
  part-tab z l at (suc n) h =
      take-suc (drop at l) n z (omega (arith, length-drop at l)) ∙ rw (part-tab z l at n (omega arith), get_or-drop)

  pub whole-tab : (z : W) (l : List W) → l ≡ tab (length l) (λ t. get_or l t z)
  whole-tab z l =
      sym (take-length l) ∙ part-tab z l 0 (length l) (omega arith)
      ∙ tab-cong (length l) (λ t. get_or l (0 + t) z) (λ t. get_or l t z) (λ t h. ap (λ (k : ℕ). get_or l k z) (zero-add t))

  -- the length of a part, as the borrow checker has it
  pub part_length : (l : List W) (a m : ℕ) → a + m ≤ length l → length (take (a + m - a) (drop a l)) ≡ m
  part_length l a m h =
      let e : a + m - a ≡ m = omega arith in
      ap (λ (k : ℕ). length (take k (drop a l))) e ∙ length-take-le m (drop a l) (omega (arith, length-drop a l))

  -- ---- parts that reach an end, as the borrow checker has them

  -- a part from its start on
  pub tail_all : (l : List W) (first k : ℕ) → length l ≤ first + k → take k (drop first l) ≡ drop first l
  tail_all l first k h = take_all k (drop first l) (omega (arith, length-drop first l))

  -- a part that is lent up to its end: its length, and what it is when it comes back
  pub lent_length : (l : List W) (k : ℕ) → k ≤ length l → length (take (k - 0) l) ≡ k
  lent_length l k h = ap (λ (n : ℕ). length (take n l)) (sub-zero k) ∙ length-take-le k l h

  pub lent-taken : (l part : List W) (k : ℕ) → length part ≡ k → take k (put_mid 0 (k - 0) l part) ≡ part
  lent-taken l part k e = take_at part (drop (k - 0) l) k e

  pub lent-put : (l part : List W) (k : ℕ) → put_mid 0 (k - 0) l part ≡ part ++ drop k l
  lent-put l part k = ap (λ (n : ℕ). part ++ drop n l) (sub-zero k)

-- parts of m words, one after the other: the next one, and that each is within the whole
pub part_cut : (a m : ℕ) → a + m - a ≡ m
part_cut a m = omega arith

pub next-part : (i m : ℕ) → (i + 1) * m ≡ i * m + m
next-part i m = add-mul i 1 m ∙ ap (λ (n : ℕ). i * m + n) (one-mul m)

pub part_in : (i n m room : ℕ) → i < n → n * m ≤ room → i * m + m ≤ room
part_in i n m room h g = omega (arith, suc-mul i m, mul-le-mul_right {m = suc i} {n = n} m h)

-- ---- a slice that is being filled: its first t words are f 0, f 1, .., the others are as they were

pub record Filled {W : Type 0} (f : ℕ → W) (old new : List W) (t : ℕ) : Type 0 where
  pub few : t ≤ length old
  pub front : new ≡ tab t f ++ drop t old
  pub size : length new ≡ length old

module _ {W : Type 0} {f : ℕ → W} {old : List W} where
  pub fill_start : Filled f old old 0
  fill_start = record { few = omega arith; front = refl; size = refl }

  -- one word more
  pub fill-word : {new : List W} {t : ℕ} {v : W} → Filled f old new t → t < length old → v ≡ f t → Filled f old (set new t v) (t + 1)
  fill-word {new} {t} {v} g h e = record {
    few = omega arith;
    front = rw (g.front, e) (front-step f old t h);
    size = rw length-set g.size;
  }

  -- a part of m words more, which was lent
  pub fill-part : {new part : List W} {a : ℕ} (m : ℕ) → Filled f old new a → a + m ≤ length old → length part ≡ length (take (a + m - a) (drop a new))
      → part ≡ tab m (λ o. f (a + o)) → Filled f old (put_mid a (a + m - a) new part) (a + m)
  fill-part {new} {part} {a} m g h l e = record {
    few = h;
    front = front-part a m (a + m - a) f old new part (part_cut a m) g.front e;
    size = same_len_mid a (a + m - a) new part l ∙ g.size;
  }

  pub fill_end : {new : List W} {t : ℕ} → Filled f old new t → length old ≤ t → new ≡ tab (length old) f
  fill_end {new} {t} g h = g.front ∙ front-full f old t (omega (arith, g.few))

-- a slice that is filled with another one's words
pub fill-all : {W : Type 0} (z : W) (old from : List W) {new : List W} {t : ℕ} → Filled (λ k. get_or from k z) old new t → length old ≤ t
    → length old ≡ length from → new ≡ from
fill-all z old from g h e = fill_end g h ∙ ap (λ (n : ℕ). tab n (λ k. get_or from k z)) e ∙ sym (whole-tab z from)
