-- Laws of words that are repeated: one word more (`repeat-start`, `repeat-word`), one part more (`repeat-part`), and that a digit of stride 0 repeats
-- the words of the digits after it (`repeats-digit`). For elements of any type. Assumes nothing.
use Prim.Native.Nat.{ℕ, ◌+◌, ◌*◌, ◌-◌, ◌/◌, ◌%◌, ◌≤◌, ◌<◌}
use mathlib.Core.Path.{◌≡◌, refl, sym, ap, ◌∙◌}
use mathlib.Core.List.{List, [], ◌∷◌, ◌++◌}
use mathlib.Core.Logic.{◌≢◌}
use native.Mathlib.Nat.{zero-add, add-zero, zero-mul, mul-zero, mul_comm, mod-lt, mod-eq_of_lt, mod-eq-sub-mod, mod-mod_of_dvd, dvd_of_mod-eq-zero, mod-eq-zero_of_dvd, dvd-add, dvd-sub}
use native.Mathlib.Omega.{arith}
use borrow.Rule.Slice.PartMut.{put_mid, same_len_mid}
use lib.ListN.{length, get_or, take, drop, length-drop, take-append-drop, get_or-append}
use lib.Seq.{get_or-take, drop_at, drop-drop}
use lib.Arith.{digits_mod}
use Rattle.rules.specs.Lists.{tab}
use Rattle.laws.proofs.Lists.{length-tab, get_or-tab, tab-cong}
use Rattle.laws.proofs.Positions.{pos_of_lt}
use Rattle.laws.proofs.Fronts.{Filled, part-tab, lent_length, lent-put}
use Rattle.strided.specs.Strided.{offset, Copy, Period, repeated, copied}
use Rattle.strided.proofs.Laws.{Turn, one-digit, two_digits, words_are, turn}

-- ---- whole periods

pub whole-more : (a b period : ℕ) → a % period ≡ 0 → b % period ≡ 0 → (a + b) % period ≡ 0
whole-more a b p e f =
    mod-eq-zero_of_dvd p {n = a + b} (dvd-add p {b = a} {c = b} (dvd_of_mod-eq-zero p {n = a} e) (dvd_of_mod-eq-zero p {n = b} f))

pub whole-left : (a b period : ℕ) → a % period ≡ 0 → b % period ≡ 0 → (a - b) % period ≡ 0
whole-left a b p e f =
    mod-eq-zero_of_dvd p {n = a - b} (dvd-sub p {m = a} {n = b} (dvd_of_mod-eq-zero p {n = a} e) (dvd_of_mod-eq-zero p {n = b} f))

module _ {W : Type 0} (z : W) where
  -- ---- a front that is filled

  read-front : {f : ℕ → W} {old new : List W} {t : ℕ} → Filled f old new t → (k : ℕ) → k < t → get_or new k z ≡ f k
  read-front {f} {old} {new} {t} g k h =
      ap (λ (l : List W). get_or l k z) g.front ∙ get_or-append (tab t f) (drop t old) z k (omega (arith, length-tab t f)) ∙ get_or-tab t k f z h

  -- behind the front all is as it was
  drop-front : {f : ℕ → W} {old new : List W} {t : ℕ} → Filled f old new t → (n : ℕ) → drop (t + n) new ≡ drop (t + n) old
  drop-front {f} {old} {new} {t} g n =
      sym (drop-drop n t new) ∙ ap (λ (l : List W). drop n (drop t l)) g.front
      ∙ ap (λ (l : List W). drop n l) (drop_at (tab t f) (drop t old) t (length-tab t f)) ∙ drop-drop n t old

  module _ (old : List W) (period : ℕ) where
    -- ---- word by word

    pub repeat-start : period ≤ length old → Filled (λ k. get_or old (k % period) z) old old period
    repeat-start h = record {
      few = h;
      front = sym (take-append-drop period old)
          ∙ ap (λ (l : List W). l ++ drop period old)
          (part-tab z old 0 period (omega arith)
          ∙ tab-cong period (λ k. get_or old (0 + k) z) (λ k. get_or old (k % period) z)
          (λ k g. ap (λ (j : ℕ). get_or old j z) (zero-add k ∙ sym (mod-eq_of_lt {n = k} {m = period} g))));
      size = refl;
    }

    pub repeat-word : {new : List W} {t : ℕ} → 0 < period → period ≤ t → Filled (λ k. get_or old (k % period) z) old new t
        → get_or new (t - period) z ≡ get_or old (t % period) z
    repeat-word {new} {t} p h g = read-front g (t - period) (omega arith) ∙ ap (λ (j : ℕ). get_or old j z) (sym (mod-eq-sub-mod {n = t} {m = period} h))

    -- ---- part by part

    module _ {new part : List W} {done : ℕ} (n : ℕ) (g : Filled (λ k. get_or old (k % period) z) old new done) (p : 0 < done) (w : done % period ≡ 0)
        (h : done + n ≤ length old) where
      part-words : part ≡ repeated z done (length (take (done + n - 0) new)) (take (done + n - 0) new) → part ≡ tab (done + n) (λ k. get_or old (k % period) z)
      unfolding repeated
      part-words e =
          let m : ℕ = done + n - 0 in
          e ∙ ap (λ (k : ℕ). tab k (λ t. get_or (take m new) (t % done) z)) (lent_length new (done + n) (omega (arith, g.size)))
          ∙ tab-cong (done + n) (λ t. get_or (take m new) (t % done) z) (λ k. get_or old (k % period) z)
          (λ t l. get_or-take m new (t % done) z (omega (arith, mod-lt t p)) ∙ read-front g (t % done) (mod-lt t p)
          ∙ ap (λ (j : ℕ). get_or old j z) (mod-mod_of_dvd period {b = done} t (dvd_of_mod-eq-zero period {n = done} w)))

      pub repeat-part : length part ≡ length (take (done + n - 0) new)
          → part ≡ repeated z done (length (take (done + n - 0) new)) (take (done + n - 0) new)
          → Filled (λ k. get_or old (k % period) z) old (put_mid 0 (done + n - 0) new part) (done + n)
      repeat-part l e = record {
        few = h;
        front = lent-put new part (done + n) ∙ rw (part-words e, drop-front g n);
        size = same_len_mid 0 (done + n - 0) new part l ∙ g.size;
      }

-- ---- a digit of stride 0

offset-again : (digits : List ℕ) (t : ℕ) → 3 ≤ length digits → get_or digits 2 0 ≡ 0 → offset digits t ≡ offset (drop 3 digits) (t % get_or digits 1 0)
offset-again [] t h e = absurd (omega arith)
offset-again (s ∷ []) t h e = absurd (omega arith)
offset-again (s ∷ m ∷ []) t h e = absurd (omega arith)
offset-again (s ∷ m ∷ z ∷ r) t h e = rw (e, mul-zero (t / m), zero-add)

module _ {words at room : ℕ} {digits : List ℕ} (c : Copy digits words at room) where
  inner-some : 0 < get_or digits 1 0
  inner-some = pos_of_lt (get_or digits 0 0) (get_or digits 1 0) (rw (words_are digits c.some c.counts) at c.counts.filled)

  first-turn : Turn digits words at room 0 (get_or digits 0 0) (get_or digits 1 0) (get_or digits 2 0)
  first-turn =
      let n : ℕ = get_or digits 0 0 in
      let m : ℕ = get_or digits 1 0 in
      let w : 0 < n * m = rw (words_are digits c.some c.counts) at c.counts.filled in
      turn digits 0 c.some c.counts (pos_of_lt {q = 0} m n (rw (mul_comm m n) w))

  -- its words are whole periods of the first ones,
  pub again-period : Period words (get_or digits 1 0)
  again-period = record {
    filled = inner-some;
    within = omega (arith, first-turn.part);
    whole = rw (words_are digits c.some c.counts, ← add-zero (get_or digits 0 0 * get_or digits 1 0)) (digits_mod (get_or digits 0 0) inner-some);
  }

  -- which the digits after it copy
  pub again-copy : get_or digits 1 0 ≢ 1 → Copy (drop 3 digits) (get_or digits 1 0) at room
  again-copy h =
      let e : at + 0 * get_or digits 2 0 ≡ at = rw (zero-mul (get_or digits 2 0), add-zero at) in
      record { some = omega (arith, two_digits digits c h, length-drop 3 digits); counts = rw e at first-turn.rest }

  pub again-less : length (drop 3 digits) < length digits
  again-less = first-turn.less

  pub repeats-digit : {W : Type 0} (z : W) (old new part : List W) → get_or digits 2 0 ≡ 0 → part ≡ copied z (drop 3 digits) (get_or digits 1 0) at old
      → repeated z (get_or digits 1 0) words (put_mid 0 (get_or digits 1 0 - 0) new part) ≡ copied z digits words at old
  unfolding repeated copied
  repeats-digit {W} z old new part e ep =
      let m : ℕ = get_or digits 1 0 in
      let g : ℕ → W = λ o. get_or old (at + offset (drop 3 digits) o) z in
      tab-cong words (λ t. get_or (put_mid 0 (m - 0) new part) (t % m) z) (λ t. get_or old (at + offset digits t) z)
      (λ t l.
      ap (λ (w : List W). get_or w (t % m) z) (lent-put new part m ∙ ap (λ (w : List W). w ++ drop m new) ep)
      ∙ get_or-append (tab m g) (drop m new) z (t % m) (omega (arith, length-tab m g, mod-lt t inner-some))
      ∙ get_or-tab m (t % m) g z (mod-lt t inner-some)
      ∙ ap (λ (o : ℕ). get_or old (at + o) z) (sym (offset-again digits t (one-digit digits c.some c.counts.nested) e)))
