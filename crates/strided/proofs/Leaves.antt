-- The last digits of a copy as planes of rows: one digit (`one-leaf`), two (`two-leaf`) and three (`three-leaf`) copy what three do. Then planes of two
-- rows of two words (`square-places`, `square`). Assumes nothing.
use Prim.Native.Nat.{ℕ, ◌+◌, ◌*◌, ◌/◌, ◌%◌, ◌≤◌, ◌<◌}
use mathlib.Core.Path.{◌≡◌, refl, sym, ap, ◌∙◌}
use mathlib.Core.Logic.{◌≢◌}
use mathlib.Core.List.{List, [], ◌∷◌}
use native.Mathlib.Nat.{zero-add, one-mul, mul-one, div-eq_of_lt, mod-eq_of_lt}
use native.Mathlib.Omega.{arith}
use lib.ListN.{length, get_or}
use lib.Arith.{digits_div, digits_mod}
use Rattle.laws.proofs.Positions.{pos_of_lt}
use Rattle.strided.specs.Strided.{counted, offset, Nested, Copy, Alike, plane_digits}
use Rattle.strided.proofs.Laws.{last-offset, one-digit, words_are, two_digits, three-digits}
use Rattle.strided.proofs.Joins.{behind-alike, alike_then}

-- nothing behind a digit whose inner is 1 counts
last-alike : (l : List ℕ) → 3 ≤ length l → get_or l 1 0 ≡ 1 → Alike l (get_or l 0 0 ∷ 1 ∷ get_or l 2 0 ∷ [])
last-alike [] h e = absurd (omega arith)
last-alike (s ∷ []) h e = absurd (omega arith)
last-alike (s ∷ m ∷ []) h e = absurd (omega arith)
last-alike (s ∷ m ∷ z ∷ r) h e = record {
  some = omega arith;
  nested = (refl, tt);
  count = rw e;
  places = λ t g.
      last-offset (s ∷ 1 ∷ z ∷ []) t (omega arith) refl ∙ sym (last-offset (s ∷ m ∷ z ∷ r) t h e);
}

-- the size of a digit whose inner is 1
inner-size : (l : List ℕ) → 3 ≤ length l → get_or l 1 0 ≡ 1 → get_or l 0 0 ≡ counted l
inner-size [] h e = absurd (omega arith)
inner-size (s ∷ []) h e = absurd (omega arith)
inner-size (s ∷ m ∷ []) h e = absurd (omega arith)
inner-size (s ∷ m ∷ z ∷ r) h e = sym (rw (e, mul-one s))

-- a digit of size 1 can stand before all
one-before : (l : List ℕ) (words : ℕ) → Nested l → words ≡ counted l → Alike l (1 ∷ words ∷ 0 ∷ l)
one-before l words n e = record {
  some = omega arith;
  nested = (e, n);
  count = one-mul words ∙ e;
  places = λ t h.
      let g : t < words = rw e h in
      rw (div-eq_of_lt {n = t} {m = words} g, mod-eq_of_lt {n = t} {m = words} g, zero-add (offset l t));
}

module _ {words at room : ℕ} where
  pub one-leaf : (digits : List ℕ) → Copy digits words at room → get_or digits 1 0 ≡ 1 → Alike digits (plane_digits 1 words 0 1 words 0 (get_or digits 2 0))
  one-leaf digits c e =
      let z : ℕ = get_or digits 2 0 in
      let w : words ≡ get_or digits 0 0 = words_are digits c.some c.counts ∙ rw (e, mul-one (get_or digits 0 0)) in
      let a : Alike digits (words ∷ 1 ∷ z ∷ []) = rw w (last-alike digits (one-digit digits c.some c.counts.nested) e) in
      let b : Alike (words ∷ 1 ∷ z ∷ []) (1 ∷ words ∷ 0 ∷ words ∷ 1 ∷ z ∷ []) =
      one-before (words ∷ 1 ∷ z ∷ []) words (refl, tt) (sym (mul-one words)) in
      alike_then (alike_then a b)
      (one-before (1 ∷ words ∷ 0 ∷ words ∷ 1 ∷ z ∷ []) words (sym (mul-one words), (refl, tt)) (sym (one-mul words)))

  pub two-leaf : (digits : List ℕ) → Copy digits words at room → get_or digits 1 0 ≢ 1 → get_or digits 4 0 ≡ 1
      → Alike digits (plane_digits 1 words 0 (get_or digits 0 0) (get_or digits 1 0) (get_or digits 2 0) (get_or digits 5 0))
  two-leaf digits c h e = go digits c (two_digits digits c h) e
    where
      go : (digits : List ℕ) → Copy digits words at room → 6 ≤ length digits → get_or digits 4 0 ≡ 1
          → Alike digits (plane_digits 1 words 0 (get_or digits 0 0) (get_or digits 1 0) (get_or digits 2 0) (get_or digits 5 0))
      go [] c g e = absurd (omega arith)
      go (s ∷ []) c g e = absurd (omega arith)
      go (s ∷ m ∷ []) c g e = absurd (omega arith)
      go (s ∷ m ∷ z ∷ r) c g e =
          let p : 0 < m = pos_of_lt s m (rw c.counts.whole at c.counts.filled) in
          let n : m ≡ counted r = c.counts.nested.0 in
          let k : get_or r 0 0 ≡ m = inner-size r (omega arith) e ∙ sym n in
          let a : Alike (s ∷ m ∷ z ∷ r) (s ∷ m ∷ z ∷ m ∷ 1 ∷ get_or r 2 0 ∷ []) = rw k at (behind-alike s m z n p (last-alike r (omega arith) e)) in
          alike_then a (one-before (s ∷ m ∷ z ∷ m ∷ 1 ∷ get_or r 2 0 ∷ []) words (sym (mul-one m), (refl, tt)) c.counts.whole)

  pub three-leaf : (digits : List ℕ) → Copy digits words at room → get_or digits 1 0 ≢ 1 → get_or digits 4 0 ≢ 1 → get_or digits 7 0 ≡ 1
      → Alike digits (plane_digits (get_or digits 0 0) (get_or digits 1 0) (get_or digits 2 0) (get_or digits 3 0) (get_or digits 4 0) (get_or digits 5 0) (get_or digits 8 0))
  three-leaf digits c h g e = go digits c (three-digits digits c h g) e
    where
      go : (digits : List ℕ) → Copy digits words at room → 9 ≤ length digits → get_or digits 7 0 ≡ 1
          → Alike digits (plane_digits (get_or digits 0 0) (get_or digits 1 0) (get_or digits 2 0) (get_or digits 3 0) (get_or digits 4 0) (get_or digits 5 0) (get_or digits 8 0))
      go [] c g e = absurd (omega arith)
      go (s ∷ []) c g e = absurd (omega arith)
      go (s ∷ m ∷ []) c g e = absurd (omega arith)
      go (s ∷ m ∷ z ∷ []) c g e = absurd (omega arith)
      go (s ∷ m ∷ z ∷ a ∷ []) c g e = absurd (omega arith)
      go (s ∷ m ∷ z ∷ a ∷ b ∷ []) c g e = absurd (omega arith)
      go (s ∷ m ∷ z ∷ a ∷ b ∷ d ∷ r) c g e =
          let p : 0 < m = pos_of_lt s m (rw c.counts.whole at c.counts.filled) in
          let q : 0 < b = pos_of_lt a b (rw c.counts.nested.0 at p) in
          let n : b ≡ counted r = c.counts.nested.1.0 in
          let k : get_or r 0 0 ≡ b = inner-size r (omega arith) e ∙ sym n in
          rw k at (behind-alike s m z c.counts.nested.0 p (behind-alike a b d n q (last-alike r (omega arith) e)))

-- ---- planes of two rows of two words

pub square-digits : (planes inner far count len apart stride : ℕ) {words at room : ℕ} → Copy (plane_digits planes inner far count len apart stride) words at room
    → count ≡ 2 → len ≡ 2 → plane_digits planes inner far count len apart stride ≡ plane_digits planes 4 far 2 2 apart stride
square-digits planes inner far count len apart stride c e h =
    let k : inner ≡ 4 = c.counts.nested.0 ∙ rw (e, h) in
    rw (k, e, h)

module _ (planes far apart stride i : ℕ) where
  abbrev squares : List ℕ
  squares = plane_digits planes 4 far 2 2 apart stride

  -- where the four words of a plane come from
  pub square-places : (offset squares (i * 4) ≡ i * far) × (offset squares (i * 4 + 1) ≡ i * far + stride)
      × (offset squares (i * 4 + 2) ≡ i * far + apart) × (offset squares (i * 4 + 3) ≡ i * far + apart + stride)
  square-places =
      let d : i * 4 / 4 ≡ i = omega arith in
      let m : i * 4 % 4 ≡ 0 = omega arith in (
        rw (d, m) (omega arith),
        rw (digits_div i {m = 4} {r = 1} (omega arith), digits_mod i {m = 4} {r = 1} (omega arith)) (omega arith),
        rw (digits_div i {m = 4} {r = 2} (omega arith), digits_mod i {m = 4} {r = 2} (omega arith)) (omega arith),
        rw (digits_div i {m = 4} {r = 3} (omega arith), digits_mod i {m = 4} {r = 3} (omega arith)) (omega arith),
      )

  pub square-words : {W : Type 0} (z : W) (old : List W) (at : ℕ)
      → (get_or old (at + i * far) z ≡ get_or old (at + offset squares (i * 4)) z)
      × (get_or old (at + i * far + stride) z ≡ get_or old (at + offset squares (i * 4 + 1)) z)
      × (get_or old (at + i * far + apart) z ≡ get_or old (at + offset squares (i * 4 + 2)) z)
      × (get_or old (at + i * far + apart + stride) z ≡ get_or old (at + offset squares (i * 4 + 3)) z)
  square-words z old at =
      let a : at + i * far ≡ at + offset squares (i * 4) = omega (arith, square-places.0) in
      let b : at + i * far + stride ≡ at + offset squares (i * 4 + 1) = omega (arith, square-places.1) in
      let c : at + i * far + apart ≡ at + offset squares (i * 4 + 2) = omega (arith, square-places.2) in
      let d : at + i * far + apart + stride ≡ at + offset squares (i * 4 + 3) = omega (arith, square-places.3) in (
        ap (λ (k : ℕ). get_or old k z) a,
        ap (λ (k : ℕ). get_or old k z) b,
        ap (λ (k : ℕ). get_or old k z) c,
        ap (λ (k : ℕ). get_or old k z) d,
      )

  -- what one turn of the loop over the planes finds
  pub record Square (words at room : ℕ) : Type 0 where
    pub part : i * 4 + 4 ≤ words
    pub few : planes ≤ words
    pub near : at + i * far + stride < room
    pub next : at + i * far + apart + stride < room

  pub square : {words at room : ℕ} → Copy squares words at room → i < planes → Square words at room
  square {words} {at} {room} c h =
      let w : words ≡ planes * 4 = c.counts.whole in
      record {
        part = omega arith;
        few = omega arith;
        near = omega (arith, square-places.1, c.counts.inside (i * 4 + 1) (omega arith));
        next = omega (arith, square-places.3, c.counts.inside (i * 4 + 3) (omega arith));
      }
