-- The kind byte of a repeat and the two bytes behind it: how each test stops the reading, what is read where all pass (`head-is`), and what an accepted
-- head tells (`head-facts`). Assumes nothing.
use Prim.Native.Nat.{ℕ, zero, suc, ◌+◌, ◌≤◌, ◌<◌}
use mathlib.Core.Path.{◌≡◌, refl, sym, ap, ◌∙◌}
use mathlib.Core.Logic.{◌≢◌}
use mathlib.Core.Bool.{Bool, true, false}
use mathlib.Core.List.{List, []}
use native.Mathlib.Omega.{arith}
use native.Mathlib.Decide.{dec_lt}
use borrow.Author.Tests.{lt-ltb, le-ltb}
use lib.ListN.{length, get_or, get_or-eq_default}
use Rattle.rules.specs.Refusals.{Judged, accept, refuse, ◌>>◌}
use Rattle.rules.specs.PlanFile.{positive_at, is_repeat}
use Rattle.laws.proofs.Judging.{never, accept-inj, bind_inv}
use Rattle.laws.proofs.Repeats.{positive-inv}
use Rattle.blocks.specs.Blocks.{Head, not_too_deep, head_at}

-- ---- the kind byte

pub repeat_past : (file : List ℕ) (at : ℕ) → length file ≤ at → is_repeat file at ≡ false
repeat_past file at h = rw (get_or-eq_default file 0 h) refl

pub repeat-inside : (file : List ℕ) (at : ℕ) → is_repeat file at ≡ true → at < length file
repeat-inside file at e = go (dec_lt at (length file))
  where
    go : Dec (at < length file) → at < length file
    go (yes l) = l
    go (no n) = let z : ◌≡◌ {A = Bool} false true = sym (repeat_past file at (omega (arith, n))) ∙ e in let y : ◌≡◌ {A = ℕ} 0 1 = cc in absurd (omega arith)

-- ---- a byte that is not 0

module _ (k : ℕ) (file : List ℕ) (at : ℕ) where
  pub positive-past : length file ≤ at → positive_at k file at ≡ refuse 7 0
  unfolding positive_at
  positive-past h = simp (le-ltb at (length file) h)

  pub positive-zero : at < length file → get_or file at 0 ≡ 0 → positive_at k file at ≡ refuse 44 k
  unfolding positive_at
  positive-zero h e = let z : get_or file at 0 ≤ 0 = omega arith in simp (lt-ltb at (length file) h, le-ltb 0 (get_or file at 0) z)

  pub positive-is : at < length file → get_or file at 0 ≢ 0 → positive_at k file at ≡ accept (get_or file at 0)
  unfolding positive_at
  positive-is h e = let z : 0 < get_or file at 0 = omega (arith, e) in simp (lt-ltb at (length file) h, lt-ltb 0 (get_or file at 0) z)

-- ---- the two bytes

module _ (depth k : ℕ) (file : List ℕ) (at : ℕ) where
  pub count-stops : {a b : ℕ} → positive_at k file at ≡ refuse a b → head_at depth k file at ≡ refuse a b
  unfolding head_at
  count-stops e = rw e refl

  module _ {count : ℕ} (e : positive_at k file at ≡ accept count) where
    pub number-stops : {a b : ℕ} → positive_at k file (at + 1) ≡ refuse a b → head_at depth k file at ≡ refuse a b
    unfolding head_at
    number-stops q = rw (e, q) refl

    module _ {number : ℕ} (q : positive_at k file (at + 1) ≡ accept number) where
      pub too-deep : depth ≡ 0 → head_at depth k file at ≡ refuse 42 k
      unfolding head_at
      too-deep z = rw (e, q, z) refl

      pub head-is : depth ≢ 0 → head_at depth k file at ≡ accept (record { count = count; number = number })
      unfolding head_at
      head-is z = rw (e, q) (go depth z)
        where
          go : (d : ℕ) → d ≢ 0 → ◌>>◌ {B = Head} (not_too_deep d k) (accept (record { count = count; number = number }))
              ≡ accept (record { count = count; number = number })
          go zero n = absurd (n refl)
          go (suc d) n = refl

-- the two bytes lie in the file, and a repeat may stand here
pub record HeadFacts (depth : ℕ) (file : List ℕ) (at count number : ℕ) : Type 0 where
  pub inside : at + 2 ≤ length file
  pub allowed : 0 < depth
  pub count_is : get_or file at 0 ≡ count
  pub number_is : get_or file (at + 1) 0 ≡ number
  pub count_some : 0 < count
  pub number_some : 0 < number

pub head-facts : (depth k : ℕ) (file : List ℕ) (at : ℕ) {count number : ℕ}
    → head_at depth k file at ≡ accept (record { count = count; number = number }) → HeadFacts depth file at count number
unfolding head_at
head-facts depth k file at {count} {number} e =
    let c = bind_inv (positive_at k file at) _ _ e in
    let n = bind_inv (positive_at k file (at + 1)) _ _ c.2 in
    let x = positive-inv [] [] file k at c.0 c.1 in
    let y = positive-inv [] [] file k (at + 1) n.0 n.1 in
    let d = parts depth c.0 n.0 n.2 in
    record {
      inside = omega (arith, y.0);
      allowed = d.0;
      count_is = x.2 ∙ d.1;
      number_is = y.2 ∙ d.2;
      count_some = omega (arith, x.1, d.1);
      number_some = omega (arith, y.1, d.2);
    }
  where
    parts : (d c n : ℕ) → ◌>>◌ {B = Head} (not_too_deep d k) (accept (record { count = c; number = n })) ≡ accept (record { count = count; number = number })
        → (0 < d) × (c ≡ count) × (n ≡ number)
    parts zero c n q = absurd (never q)
    parts (suc d) c n q = (omega arith, ap (λ (h : Head). h.count) (accept-inj q), ap (λ (h : Head). h.number) (accept-inj q))
