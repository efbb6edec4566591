-- Counting, a tool of the proofs: sums over all coordinates below some sizes (`sum_all`), and how many of distinct numbers are other than one of them
-- (`others-count`). Assumes nothing.
use Prim.Native.Nat.{ℕ, zero, suc, ◌+◌, ◌*◌, ◌/◌, ◌%◌, ◌<◌}
use mathlib.Core.Path.{◌≡◌, refl, sym, ap, ap₂, ◌∙◌, subst}
use mathlib.Core.Logic.{◌⊎◌, inl, inr, ⊎_elim, ◌≢◌}
use mathlib.Core.Bool.{Bool, true, false, not}
use mathlib.Core.List.{List, [], ◌∷◌, ◌++◌}
use native.Mathlib.Nat.{zero-mul, suc-mul, add-mul, mul_assoc}
use native.Mathlib.Omega.{arith}
use native.Mathlib.Decide.{ℕ_discrete}
use lib.ListN.{length}
use lib.Arith.{digits_div, digits_mod}
use lib.Dec.{T, eqb, eqb→eq, eqb_refl}
use Rattle.rules.specs.Lists.{pick, tab, both, product, total, mem, keep, In, Distinct, Below, none, more}
use Rattle.rules.specs.Mesh.{coords, devices}
use Rattle.rules.specs.Spread.{tabulate}
use Rattle.rules.specs.Moved.{once_each}
use Rattle.laws.proofs.Lists.{
  T→true,
  n_t→false,
  T_and,
  and_T,
  mem-in,
  in_left,
  in_right,
  in-append,
  distinct_append,
  distinct-keep,
}
use Rattle.laws.proofs.Buffers.{below-coords}
use Rattle.laws.proofs.Sums.{sum, sum-cong, sum-zero, sum-add, sum-blocks, total-tab}

-- ---- sums of numbers

pub sum-const : (n c : ℕ) → sum n (λ k. c) ≡ n * c
sum-const zero c = sym (zero-mul c)
sum-const (suc n) c = omega (arith, sum-const n c, suc-mul n c)

pub sum-scale : (n c : ℕ) (f : ℕ → ℕ) → sum n (λ k. f k * c) ≡ sum n f * c
sum-scale zero c f = sym (zero-mul c)
sum-scale (suc n) c f = ap (λ (z : ℕ). z + f n * c) (sum-scale n c f) ∙ sym (add-mul (sum n f) (f n) c)

-- one term is 1, the others are 0
pub sum-pick : (n p : ℕ) (f : ℕ → ℕ) → p < n → f p ≡ 1 → ((q : ℕ) → q < n → q ≢ p → f q ≡ 0) → sum n f ≡ 1
sum-pick zero p f l z h = absurd (omega arith)
sum-pick (suc n) p f l z h = go (ℕ_discrete p n) (λ m. sum-pick n p f m z (λ q k. h q (omega arith)))
  where
    go : Dec (p ≡ n) → (p < n → sum n f ≡ 1) → sum n f + f n ≡ 1
    go (yes e) ih =
        let a : sum n f ≡ 0 = sum-cong n {f = f} {g = λ k. 0} (λ k m. h k (omega arith) (λ d. omega arith)) ∙ sum-zero n in
        let b : f n ≡ 1 = ap f (sym e) ∙ z in
        omega arith
    go (no m) ih =
        let a : sum n f ≡ 1 = ih (omega (arith, m)) in
        let b : f n ≡ 0 = h n (omega arith) (λ d. m (sym d)) in
        omega arith

-- ---- the sum of f over all coordinates below the sizes

abbrev pub sum_all : List ℕ → (List ℕ → ℕ) → ℕ
sum_all [] f = f []
sum_all (n ∷ ns) f = sum n (λ i. sum_all ns (λ is. f (i ∷ is)))

pub sum_all-cong : (ns : List ℕ) (f g : List ℕ → ℕ) → ((i : List ℕ) → Below i ns → f i ≡ g i) → sum_all ns f ≡ sum_all ns g
sum_all-cong [] f g h = h [] none
sum_all-cong (n ∷ ns) f g h = sum-cong n (λ i l. sum_all-cong ns _ _ (λ is b. h (i ∷ is) (more l b)))

pub sum_all-const : (ns : List ℕ) (c : ℕ) → sum_all ns (λ i. c) ≡ product ns * c
sum_all-const [] c = omega arith
sum_all-const (n ∷ ns) c = sum-cong n (λ i l. sum_all-const ns c) ∙ sum-const n (product ns * c) ∙ sym (mul_assoc n (product ns) c)

pub sum_all-add : (ns : List ℕ) (f g : List ℕ → ℕ) → sum_all ns (λ i. f i + g i) ≡ sum_all ns f + sum_all ns g
sum_all-add [] f g = refl
sum_all-add (n ∷ ns) f g =
    sum-cong n (λ i l. sum_all-add ns (λ is. f (i ∷ is)) (λ is. g (i ∷ is)))
    ∙ sum-add n (λ i. sum_all ns (λ is. f (i ∷ is))) (λ i. sum_all ns (λ is. g (i ∷ is)))

pub sum_all-scale : (ns : List ℕ) (c : ℕ) (f : List ℕ → ℕ) → sum_all ns (λ i. f i * c) ≡ sum_all ns f * c
sum_all-scale [] c f = refl
sum_all-scale (n ∷ ns) c f = sum-cong n (λ i l. sum_all-scale ns c (λ is. f (i ∷ is))) ∙ sum-scale n c (λ i. sum_all ns (λ is. f (i ∷ is)))

-- the same sum by number
sum_all-numbers : (ns : List ℕ) (f : List ℕ → ℕ) → sum (product ns) (λ k. f (coords ns k)) ≡ sum_all ns f
sum_all-numbers [] f = omega arith
sum_all-numbers (n ∷ ns) f =
    sum-blocks n (product ns) (λ q. f (q / product ns ∷ coords ns (q % product ns)))
    ∙ sum-cong n (λ i l. sum-cong (product ns) (λ r h. ap₂ (λ (q m : ℕ). f (q ∷ coords ns m)) (digits_div i h) (digits_mod i h))
    ∙ sum_all-numbers ns (λ is. f (i ∷ is)))

-- the sum over all words of a state, device by device
pub total-devices : (mesh shape : List ℕ) (f : List ℕ → List ℕ → ℕ)
    → total (tabulate mesh shape f) ≡ sum (devices mesh) (λ d. sum_all shape (f (coords mesh d)))
unfolding tabulate
total-devices mesh shape f =
    let D : ℕ = product mesh in
    let m : ℕ = product shape in
    total-tab (D * m) (λ p. f (coords mesh (p / m)) (coords shape (p % m)))
    ∙ sum-blocks D m (λ p. f (coords mesh (p / m)) (coords shape (p % m)))
    ∙ sum-cong D (λ d ld. sum-cong m (λ o lo. ap₂ (λ (a b : ℕ). f (coords mesh a) (coords shape b)) (digits_div d lo) (digits_mod d lo))
    ∙ sum_all-numbers shape (f (coords mesh d)))

-- where every device has as much; and where a share of each device's words is left out
module _ (mesh shape : List ℕ) (f : List ℕ → List ℕ → ℕ) where
  pub total-each : (c : ℕ) → ((x : List ℕ) → Below x mesh → sum_all shape (f x) ≡ c) → total (tabulate mesh shape f) ≡ devices mesh * c
  total-each c h =
      total-devices mesh shape f ∙ sum-cong (devices mesh) (λ d l. h (coords mesh d) (below-coords mesh d l)) ∙ sum-const (devices mesh) c

  pub total-share : (g : ℕ) → ((x : List ℕ) → Below x mesh → sum_all shape (f x) * g + product shape ≡ product shape * g)
      → total (tabulate mesh shape f) * g + devices mesh * product shape ≡ devices mesh * product shape * g
  total-share g h =
      let D : ℕ = devices mesh in
      let m : ℕ = product shape in
      let F : ℕ → ℕ = λ d. sum_all shape (f (coords mesh d)) in
      ap (λ (z : ℕ). z * g + D * m) (total-devices mesh shape f)
      ∙ ap₂ ◌+◌ (sym (sum-scale D g F)) (sym (sum-const D m)) ∙ sym (sum-add D (λ d. F d * g) (λ d. m))
      ∙ sum-cong D (λ d l. h (coords mesh d) (below-coords mesh d l)) ∙ sum-const D (m * g) ∙ sym (mul_assoc D m g)

-- ---- tests as numbers: 1 where a test holds

abbrev pub bit : Bool → ℕ
bit b = pick b 1 0

pub bit-yes : (b : Bool) → T b → bit b ≡ 1
bit-yes b t = rw (T→true b t)

pub bit-no : (b : Bool) → ¬ T b → bit b ≡ 0
bit-no b t = rw (n_t→false b t)

pub bit_and : (a b c : Bool) → (T c → T a × T b) → (T a → T b → T c) → bit c ≡ bit a * bit b
bit_and true true true f g = refl
bit_and true true false f g = absurd (g tt tt)
bit_and true false true f g = absurd (f tt).1
bit_and true false false f g = refl
bit_and false true true f g = absurd (f tt).0
bit_and false true false f g = refl
bit_and false false true f g = absurd (f tt).0
bit_and false false false f g = refl

-- two lists of numbers are one
pub both-eq : (x y : List ℕ) → T (both eqb x y) → x ≡ y
both-eq [] [] t = refl
both-eq [] (b ∷ y) t = absurd t
both-eq (a ∷ x) [] t = absurd t
both-eq (a ∷ x) (b ∷ y) t =
    let s = T_and (eqb a b) (both eqb x y) t in
    ap₂ (λ (c : ℕ) (l : List ℕ). c ∷ l) (eqb→eq a b s.0) (both-eq x y s.1)

pub both_refl : (x : List ℕ) → T (both eqb x x)
both_refl [] = tt
both_refl (a ∷ x) = and_T (eqb a a) (both eqb x x) (eqb_refl a) (both_refl x)

-- ---- distinct numbers

in-tab : (a n : ℕ) (f : ℕ → ℕ) → In a (tab n f) → (k : ℕ) × (k < n) × (f k ≡ a)
in-tab a zero f i = absurd i
in-tab a (suc n) f i = go (λ j. in-tab a n f j) (in-append a (tab n f) (f n ∷ []) i)
  where
    go : (In a (tab n f) → (k : ℕ) × (k < n) × (f k ≡ a)) → In a (tab n f) ⊎ In a (f n ∷ []) → (k : ℕ) × (k < suc n) × (f k ≡ a)
    go ih (inl j) = let r = ih j in (r.0, omega (arith, r.1), r.2)
    go ih (inr (inl e)) = (n, omega arith, sym e)
    go ih (inr (inr e)) = absurd e

pub tab-in : (n : ℕ) (f : ℕ → ℕ) (k : ℕ) → k < n → In (f k) (tab n f)
tab-in zero f k l = absurd (omega arith)
tab-in (suc n) f k l = go (ℕ_discrete k n) (λ m. tab-in n f k m)
  where
    go : Dec (k ≡ n) → (k < n → In (f k) (tab n f)) → In (f k) (tab n f ++ f n ∷ [])
    go (yes e) ih = in_right (f k) (tab n f) (f n ∷ []) (inl (ap f e))
    go (no m) ih = in_left (f k) (tab n f) (f n ∷ []) (ih (omega (arith, m)))

pub distinct-tab : (n : ℕ) (f : ℕ → ℕ) → ((p q : ℕ) → p < n → q < n → f p ≡ f q → p ≡ q) → Distinct (tab n f)
distinct-tab zero f h = tt
distinct-tab (suc n) f h =
    distinct_append (tab n f) (f n ∷ []) (distinct-tab n f (λ p q l k e. h p q (omega arith) (omega arith) e)) ((λ b. b), tt)
    (λ a i j. let r = in-tab a n f j in
    let e : r.0 ≡ n = h r.0 n (omega (arith, r.1)) (omega arith) (r.2 ∙ ⊎_elim (λ p. p) (λ b. absurd b) i) in
    omega (arith, r.1, e))

once-each : (l : List ℕ) → Distinct l → once_each l ≡ l
unfolding once_each
once-each [] d = refl
once-each (a ∷ l) d = rw (n_t→false (mem a l) (λ t. d.0 (mem-in a l t)), once-each l d.1) refl

-- of distinct numbers, those other than k
kept-count : (k : ℕ) (l : List ℕ) → Distinct l → length (keep (λ d. not (eqb d k)) l) + bit (mem k l) ≡ length l
unfolding keep mem
kept-count k [] d = refl
kept-count k (a ∷ l) d = go (ℕ_discrete a k) (kept-count k l d.1)
  where
    go : Dec (a ≡ k) → length (keep (λ d. not (eqb d k)) l) + bit (mem k l) ≡ length l
        → length (keep (λ d. not (eqb d k)) (a ∷ l)) + bit (mem k (a ∷ l)) ≡ suc (length l)
    go (yes e) ih =
        let z : bit (mem k l) ≡ 0 = bit-no (mem k l) (λ t. d.0 (subst (λ n. In n l) (sym e) (mem-in k l t))) in
        rw (e, T→true (eqb k k) (eqb_refl k)) (omega (arith, ih, z))
    go (no n) ih =
        rw (n_t→false (eqb a k) (λ t. n (eqb→eq a k t)), n_t→false (eqb k a) (λ t. n (sym (eqb→eq k a t)))) (omega (arith, ih))

pub others-count : (k : ℕ) (l : List ℕ) → Distinct l → length (once_each (keep (λ d. not (eqb d k)) l)) + bit (mem k l) ≡ length l
others-count k l once =
    ap (λ (m : List ℕ). length m + bit (mem k l)) (once-each (keep (λ d. not (eqb d k)) l) (distinct-keep (λ d. not (eqb d k)) l once)) ∙ kept-count k l once
