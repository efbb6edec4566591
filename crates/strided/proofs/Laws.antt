-- Laws of slices that are being filled (`fill-four`). Then of digits: what one turn of a loop over the first one finds (`turn`,
-- `turn-places`), what two digits copy (`rows_are`), and that they find their words where the whole copy does (`rows_in`). Assumes nothing.
use Prim.Native.Nat.{ℕ, suc, ◌+◌, ◌*◌, ◌/◌, ◌%◌, ◌≤◌, ◌<◌, ◌-◌}
use mathlib.Core.Path.{◌≡◌, refl, ap, ◌∙◌}
use mathlib.Core.Logic.{◌≢◌}
use mathlib.Core.List.{List, [], ◌∷◌}
use native.Mathlib.Nat.{add-zero, add_assoc, zero-mul, mul-one, one-mul, suc-mul, div-one, mod-one, zero-div, zero-mod, mul-le-mul_right, le-mul_of_pos_right}
use native.Mathlib.Omega.{arith}
use lib.ListN.{length, get_or, set, take, drop}
use lib.Arith.{digits_div, digits_mod}
use Rattle.rules.specs.Lists.{tab}
use Rattle.laws.proofs.Lists.{tab-cong}
use Rattle.laws.proofs.Positions.{pos_of_lt}
use Rattle.laws.proofs.Fronts.{Filled, part-tab, fill-word}
use Rattle.strided.specs.Strided.{offset, Nested, Row, Rows, Counts, Copy, row, rows, copied}

-- ---- a slice that is being filled

-- four words more

pub fill-four : {W : Type 0} {f : ℕ → W} {old new : List W} {t : ℕ} {a b c d : W} → Filled f old new t → t + 4 ≤ length old → a ≡ f t → b ≡ f (t + 1)
    → c ≡ f (t + 2) → d ≡ f (t + 3) → Filled f old (set (set (set (set new t a) (t + 1) b) (t + 2) c) (t + 3) d) (t + 4)
fill-four {W} {f} {old} {new} {t} g h ea eb ec ed =
    let two : t + 1 + 1 ≡ t + 2 = omega arith in
    let three : t + 2 + 1 ≡ t + 3 = omega arith in
    let four : t + 3 + 1 ≡ t + 4 = omega arith in
    let g₂ = rw two at (fill-word (fill-word g (omega arith) ea) (omega arith) eb) in
    let g₃ = rw three at (fill-word g₂ (omega arith) ec) in
    rw four at (fill-word g₃ (omega arith) ed)

-- ---- one digit

-- words that are next to each other
pub run_in : {words stride at room : ℕ} → stride ≡ 1 → Row words stride at room → at + words ≤ room
run_in {words} {stride} {at} {room} e r =
    let q : at + (words - 1) * stride < room = r.inside (words - 1) (omega (arith, r.filled)) in
    let s : at + (words - 1) * 1 < room = rw e at q in
    omega (arith, mul-one (words - 1), r.filled)

pub run_is : {W : Type 0} (z : W) (old : List W) (words stride at k : ℕ) → stride ≡ 1 → k ≡ words → at + words ≤ length old
    → take k (drop at old) ≡ row z words stride at old
unfolding row
run_is z old words stride at k e ek h =
    ap (λ (k : ℕ). take k (drop at old)) ek ∙ part-tab z old at words h
    ∙ tab-cong words (λ t. get_or old (at + t) z) (λ t. get_or old (at + t * stride) z) (λ t q. rw (e, mul-one t))

pub offset-zero : (r : List ℕ) → offset r 0 ≡ 0
offset-zero [] = refl
offset-zero (s ∷ []) = refl
offset-zero (s ∷ m ∷ []) = refl
offset-zero (s ∷ m ∷ z ∷ r) = rw (zero-div m, zero-mod m, zero-mul z, offset-zero r)

-- where the inner is 1, only the first digit counts
pub last-offset : (digits : List ℕ) (t : ℕ) → 3 ≤ length digits → get_or digits 1 0 ≡ 1 → offset digits t ≡ t * get_or digits 2 0
last-offset [] t h e = absurd (omega arith)
last-offset (s ∷ []) t h e = absurd (omega arith)
last-offset (s ∷ m ∷ []) t h e = absurd (omega arith)
last-offset (s ∷ m ∷ z ∷ r) t h e = rw (e, div-one t, mod-one t, offset-zero r, add-zero)

-- ---- two digits

module _ {W : Type 0} (z : W) (old : List W) where
  -- the words of one row
  pub row_words : (i len apart stride at : ℕ)
      → row z len stride (at + i * apart) old ≡ tab len (λ o. get_or old (at + (i * len + o) / len * apart + (i * len + o) % len * stride) z)
  unfolding row
  row_words i len apart stride at =
      tab-cong len (λ t. get_or old (at + i * apart + t * stride) z)
      (λ o. get_or old (at + (i * len + o) / len * apart + (i * len + o) % len * stride) z) (λ o g. rw (digits_div i g, digits_mod i g))

  -- the two words of a row of two
  module _ (i apart stride at : ℕ) where
    pub pair-first : get_or old (at + i * apart) z ≡ get_or old (at + i * 2 / 2 * apart + i * 2 % 2 * stride) z
    pair-first =
        let ed : i * 2 / 2 ≡ i = omega arith in
        let em : i * 2 % 2 ≡ 0 = omega arith in
        ap (λ (k : ℕ). get_or old k z) (rw (ed, em, zero-mul stride, add-zero))

    pub pair-second : get_or old (at + i * apart + stride) z ≡ get_or old (at + (i * 2 + 1) / 2 * apart + (i * 2 + 1) % 2 * stride) z
    pair-second =
        ap (λ (k : ℕ). get_or old k z) (rw (digits_div i {m = 2} {r = 1} (omega arith), digits_mod i {m = 2} {r = 1} (omega arith), one-mul))

rows-offset : (digits : List ℕ) (t : ℕ) → 6 ≤ length digits → get_or digits 4 0 ≡ 1
    → offset digits t ≡ t / get_or digits 1 0 * get_or digits 2 0 + t % get_or digits 1 0 * get_or digits 5 0
rows-offset [] t h e = absurd (omega arith)
rows-offset (s ∷ []) t h e = absurd (omega arith)
rows-offset (s ∷ m ∷ []) t h e = absurd (omega arith)
rows-offset (s ∷ m ∷ z ∷ r) t h e = ap (λ (o : ℕ). t / m * z + o) (last-offset r (t % m) (omega arith) e)

-- ---- any number of digits

-- what one turn of the loop over the first digit finds
pub record Turn (digits : List ℕ) (words at room i size inner stride : ℕ) : Type 0 where
  pub part : i * inner + inner ≤ words
  pub few : size ≤ words
  pub first : at + i * stride < room
  pub rest : Counts (drop 3 digits) inner (at + i * stride) room
  pub less : length (drop 3 digits) < length digits
  pub place : (o : ℕ) → o < inner → offset digits (i * inner + o) ≡ i * stride + offset (drop 3 digits) o

pub one-digit : (digits : List ℕ) → 0 < length digits → Nested digits → 3 ≤ length digits
one-digit [] h c = omega arith
one-digit (s ∷ []) h c = absurd c
one-digit (s ∷ m ∷ []) h c = absurd c
one-digit (s ∷ m ∷ z ∷ r) h c = omega arith

module _ {words at room : ℕ} where
  pub words_are : (digits : List ℕ) → 0 < length digits → Counts digits words at room → words ≡ get_or digits 0 0 * get_or digits 1 0
  words_are [] h c = absurd (omega arith)
  words_are (s ∷ []) h c = absurd c.nested
  words_are (s ∷ m ∷ []) h c = absurd c.nested
  words_are (s ∷ m ∷ z ∷ r) h c = c.whole

  pub turn : (digits : List ℕ) (i : ℕ) → 0 < length digits → Counts digits words at room → i < get_or digits 0 0
      → Turn digits words at room i (get_or digits 0 0) (get_or digits 1 0) (get_or digits 2 0)
  turn [] i h c l = absurd (omega arith)
  turn (s ∷ []) i h c l = absurd c.nested
  turn (s ∷ m ∷ []) i h c l = absurd c.nested
  turn (s ∷ m ∷ z ∷ r) i h c l =
      let p : 0 < m = pos_of_lt s m (rw c.whole at c.filled) in
      let q : i * m + m ≤ words = rw c.whole (omega (arith, suc-mul i m, mul-le-mul_right {m = suc i} {n = s} m l)) in
      let w : (o : ℕ) → o < m → offset (s ∷ m ∷ z ∷ r) (i * m + o) ≡ i * z + offset r o = λ o g. rw (digits_div i g, digits_mod i g) in
      let b : (o : ℕ) → o < m → at + i * z + offset r o < room = λ o g.
      rw (add_assoc at (i * z) (offset r o), ← w o g) (c.inside (i * m + o) (omega arith)) in
      record {
        part = q;
        few = rw c.whole (le-mul_of_pos_right s p);
        first = omega (arith, b 0 p);
        rest = record { nested = c.nested.1; whole = c.nested.0; filled = p; inside = b };
        less = omega arith;
        place = w;
      }

  -- the places of the turn, whatever stands there
  pub turn-places : {A : Type 0} (f : ℕ → A) (digits : List ℕ) (i size inner stride : ℕ) → Turn digits words at room i size inner stride
      → tab inner (λ o. f (at + i * stride + offset (drop 3 digits) o)) ≡ tab inner (λ o. f (at + offset digits (i * inner + o)))
  turn-places f digits i size inner stride c =
      tab-cong inner (λ o. f (at + i * stride + offset (drop 3 digits) o)) (λ o. f (at + offset digits (i * inner + o)))
      (λ o g. rw (c.place o g, add_assoc at (i * stride) (offset (drop 3 digits) o)))

  pub two_digits : (digits : List ℕ) → Copy digits words at room → get_or digits 1 0 ≢ 1 → 6 ≤ length digits
  two_digits [] c h = omega (arith, c.some)
  two_digits (s ∷ []) c h = absurd c.counts.nested
  two_digits (s ∷ m ∷ []) c h = absurd c.counts.nested
  two_digits (s ∷ m ∷ z ∷ []) c h = absurd (h c.counts.nested.0)
  two_digits (s ∷ m ∷ z ∷ a ∷ []) c h = absurd c.counts.nested.1
  two_digits (s ∷ m ∷ z ∷ a ∷ b ∷ []) c h = absurd c.counts.nested.1
  two_digits (s ∷ m ∷ z ∷ a ∷ b ∷ d ∷ r) c h = omega arith

  pub three-digits : (digits : List ℕ) → Copy digits words at room → get_or digits 1 0 ≢ 1 → get_or digits 4 0 ≢ 1 → 9 ≤ length digits
  three-digits [] c h g = absurd (omega (arith, c.some))
  three-digits (s ∷ []) c h g = absurd c.counts.nested
  three-digits (s ∷ m ∷ []) c h g = absurd c.counts.nested
  three-digits (s ∷ m ∷ z ∷ []) c h g = absurd (h c.counts.nested.0)
  three-digits (s ∷ m ∷ z ∷ a ∷ []) c h g = absurd c.counts.nested.1
  three-digits (s ∷ m ∷ z ∷ a ∷ b ∷ []) c h g = absurd c.counts.nested.1
  three-digits (s ∷ m ∷ z ∷ a ∷ b ∷ d ∷ []) c h g = absurd (g c.counts.nested.1.0)
  three-digits (s ∷ m ∷ z ∷ a ∷ b ∷ d ∷ e ∷ []) c h g = absurd c.counts.nested.1.1
  three-digits (s ∷ m ∷ z ∷ a ∷ b ∷ d ∷ e ∷ f ∷ []) c h g = absurd c.counts.nested.1.1
  three-digits (s ∷ m ∷ z ∷ a ∷ b ∷ d ∷ e ∷ f ∷ k ∷ r) c h g = omega arith

  -- two digits, as the code's leaves have them
  pub rows_in : (digits : List ℕ) → Copy digits words at room → 6 ≤ length digits → get_or digits 4 0 ≡ 1
      → Rows words (get_or digits 0 0) (get_or digits 1 0) (get_or digits 2 0) (get_or digits 5 0) at room
  rows_in digits c h e =
      let n : ℕ = get_or digits 0 0 in
      let m : ℕ = get_or digits 1 0 in
      record {
        filled = pos_of_lt n m (rw (words_are digits c.some c.counts) at c.counts.filled);
        whole = words_are digits c.some c.counts;
        inside = λ i t li lt.
            let w : offset digits (i * m + t) ≡ i * get_or digits 2 0 + t * get_or digits 5 0 =
            rows-offset digits (i * m + t) h e ∙ rw (digits_div i lt, digits_mod i lt) in
            omega (arith, c.counts.inside (i * m + t) (omega (arith, (turn digits i c.some c.counts li).part)));
      }

  pub rows_are : {W : Type 0} (z : W) (old : List W) (digits : List ℕ) → Copy digits words at room → 6 ≤ length digits → get_or digits 4 0 ≡ 1
      → rows z words (get_or digits 1 0) (get_or digits 2 0) (get_or digits 5 0) at old ≡ copied z digits words at old
  unfolding rows copied
  rows_are z old digits c h e =
      let m : ℕ = get_or digits 1 0 in
      tab-cong words (λ k. get_or old (at + k / m * get_or digits 2 0 + k % m * get_or digits 5 0) z) (λ t. get_or old (at + offset digits t) z)
      (λ t l. rw (rows-offset digits t h e, add_assoc at (t / m * get_or digits 2 0) (t % m * get_or digits 5 0)))
