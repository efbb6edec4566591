-- Sums over a group, a tool of the proofs: `sum n f` of the numbers below n, `sum_over mesh L f x` of the devices of x's group along L, axis by axis.
-- The main laws: the sum over U is the sum, over the rest, of the sums over L (`sum_over-without`); a group's sum is the sum over its positions
-- (`sum_over-positions`); sums of words are what 01 says, modulo 2 ^ 32 (`add_words-total`, `add_words-members`). Assumes nothing.
use Prim.Native.Nat.{ℕ, zero, suc, ◌+◌, ◌*◌, ◌/◌, ◌%◌, ◌^◌, ◌<◌}
use mathlib.Core.Path.{◌≡◌, refl, sym, ap, ap₂, ◌∙◌, subst, fun_ext}
use mathlib.Core.Logic.{inl, inr, ⊎_elim, ◌≢◌}
use mathlib.Core.List.{List, [], ◌∷◌, ◌++◌, map}
use native.Mathlib.Nat.{add-mod, add-zero, add-suc, mul-zero, mul-add, mul_assoc, zero-mul, suc-mul, mod-lt, mod-mod, mod-eq_of_lt}
use native.Mathlib.Omega.{arith}
use native.Mathlib.Decide.{ℕ_discrete}
use lib.ListN.{get_or, set}
use lib.Seq.{set_comm, get_or-set_other}
use lib.Arith.{digits_div, digits_mod}
use lib.Dec.{lit<}
use Rattle.laws.specs.Demands.{SumOfWords}
use Rattle.rules.specs.Lists.{tab, total, without, In, Distinct, All, ◌&◌, Below}
use Rattle.rules.specs.Mesh.{span, member, members, SameGroup}
use Rattle.rules.specs.Spread.{add_words}
use Rattle.laws.proofs.Lists.{
  map-tab,
  map-all,
  all-tab,
  all_map,
  in_without,
  distinct_without,
  without-none,
  without_more,
  without-same,
  without_other,
  without-absent,
}
use Rattle.laws.proofs.Positions.{below_set, below-member, member-other, member-set}

-- f 0 + f 1 + .. + f (n - 1)
abbrev pub sum : ℕ → (ℕ → ℕ) → ℕ
sum zero f = 0
sum (suc n) f = sum n f + f n

abbrev pub sum_over : List ℕ → List ℕ → (List ℕ → ℕ) → List ℕ → ℕ
sum_over mesh [] f x = f x
sum_over mesh (a ∷ L) f x = sum (get_or mesh a 1) (λ k. sum_over mesh L f (set x a k))

-- ---- sums of numbers

pub sum-cong : (n : ℕ) {f g : ℕ → ℕ} → ((k : ℕ) → k < n → f k ≡ g k) → sum n f ≡ sum n g
sum-cong zero h = refl
sum-cong (suc n) h = ap₂ ◌+◌ (sum-cong n (λ k l. h k (omega arith))) (h n (omega arith))

pub sum-zero : (n : ℕ) → sum n (λ k. 0) ≡ 0
sum-zero zero = refl
sum-zero (suc n) = rw (sum-zero n)

pub sum-add : (n : ℕ) (f g : ℕ → ℕ) → sum n (λ k. f k + g k) ≡ sum n f + sum n g
sum-add zero f g = refl
sum-add (suc n) f g = omega (arith, sum-add n f g)

pub sum-const : (n c : ℕ) → sum n (λ k. c) ≡ n * c
sum-const zero c = omega arith
sum-const (suc n) c = ap (λ (z : ℕ). z + c) (sum-const n c) ∙ sym (suc-mul n c)

sum-scale : (n c : ℕ) (f : ℕ → ℕ) → sum n (λ k. c * f k) ≡ c * sum n f
sum-scale zero c f = sym (mul-zero c)
sum-scale (suc n) c f = ap (λ (z : ℕ). z + c * f n) (sum-scale n c f) ∙ sym (mul-add c (sum n f) (f n))

sum-swap : (n m : ℕ) (f : ℕ → ℕ → ℕ) → sum n (λ i. sum m (λ j. f i j)) ≡ sum m (λ j. sum n (λ i. f i j))
sum-swap zero m f = sym (sum-zero m)
sum-swap (suc n) m f = ap (λ (z : ℕ). z + sum m (f n)) (sum-swap n m f) ∙ sym (sum-add m (λ j. sum n (λ i. f i j)) (f n))

-- two sums are one number modulo m where their terms are
pub sum-mod : (n m : ℕ) (f g : ℕ → ℕ) → ((k : ℕ) → k < n → f k % m ≡ g k % m) → sum n f % m ≡ sum n g % m
sum-mod zero m f g h = refl
sum-mod (suc n) m f g h =
    add-mod (sum n f) (f n) m ∙ ap₂ (λ a b. (a + b) % m) (sum-mod n m f g (λ k l. h k (omega arith))) (h n (omega arith))
    ∙ sym (add-mod (sum n g) (g n) m)

-- a sum over n + m numbers, and over n blocks of m
sum-split : (n m : ℕ) (g : ℕ → ℕ) → sum (n + m) g ≡ sum n g + sum m (λ r. g (n + r))
sum-split n zero g = rw (add-zero n) (omega arith)
sum-split n (suc m) g = rw (add-suc n m) (omega (arith, sum-split n m g))

pub sum-blocks : (n m : ℕ) (g : ℕ → ℕ) → sum (n * m) g ≡ sum n (λ k. sum m (λ r. g (k * m + r)))
sum-blocks zero m g = rw (zero-mul m) refl
sum-blocks (suc n) m g = rw (suc-mul n m) (sum-split (n * m) m g ∙ ap (λ (z : ℕ). z + sum m (λ r. g (n * m + r))) (sum-blocks n m g))

-- a sum all of whose terms but one are 0
pub sum_one : (n j : ℕ) (f : ℕ → ℕ) → j < n → ((k : ℕ) → k < n → k ≢ j → f k ≡ 0) → sum n f ≡ f j
sum_one zero j f l h = absurd (omega arith)
sum_one (suc n) j f l h = go (ℕ_discrete j n) (λ m. sum_one n j f m (λ k o. h k (omega arith)))
  where
    go : Dec (j ≡ n) → (j < n → sum n f ≡ f j) → sum n f + f n ≡ f j
    go (yes e) ih =
        let others : sum n f ≡ 0 = sum-cong n (λ k m. h k (omega arith) (λ d. omega arith)) ∙ sum-zero n in
        rw (others, e) (omega arith)
    go (no d) ih = omega (arith, ih (omega (arith, d)), h n (omega arith) (λ e. d (sym e)))

total-append : (l m : List ℕ) → total (l ++ m) ≡ total l + total m
total-append [] m = omega arith
total-append (n ∷ l) m = omega (arith, total-append l m)

pub total-tab : (n : ℕ) (f : ℕ → ℕ) → total (tab n f) ≡ sum n f
total-tab zero f = refl
total-tab (suc n) f = total-append (tab n f) (f n ∷ []) ∙ omega (arith, total-tab n f)

-- ---- sums over a group

module _ (mesh : List ℕ) where
  -- a sum of sums over a group, the outer one taken last
  sum_over-sum : (K : List ℕ) (n : ℕ) (g : ℕ → List ℕ → ℕ) (x : List ℕ)
      → sum_over mesh K (λ y. sum n (λ k. g k y)) x ≡ sum n (λ k. sum_over mesh K (g k) x)
  sum_over-sum [] n g x = refl
  sum_over-sum (b ∷ K) n g x =
      ap (sum (get_or mesh b 1)) (fun_ext (λ j. sum_over-sum K n g (set x b j))) ∙ sum-swap (get_or mesh b 1) n (λ j k. sum_over mesh K (g k) (set x b j))

  -- to set an axis outside the list commutes with the sum
  sum_over-set : (K : List ℕ) (f : List ℕ → ℕ) (x : List ℕ) (a k : ℕ) → ¬ In a K → sum_over mesh K f (set x a k) ≡ sum_over mesh K (λ y. f (set y a k)) x
  sum_over-set [] f x a k off = refl
  sum_over-set (b ∷ K) f x a k off =
      ap (sum (get_or mesh b 1)) (fun_ext (λ j. ap (sum_over mesh K f) (set_comm x a b k j (λ e. off (inl e)))
      ∙ sum_over-set K f (set x b j) a k (λ i. off (inr i))))

  -- an axis outside the list may be summed first or last
  sum_over-last : (a : ℕ) (K : List ℕ) (f : List ℕ → ℕ) (x : List ℕ) → ¬ In a K → sum_over mesh (a ∷ K) f x ≡ sum_over mesh K (sum_over mesh (a ∷ []) f) x
  sum_over-last a K f x off =
      ap (sum (get_or mesh a 1)) (fun_ext (λ k. sum_over-set K f x a k off)) ∙ sym (sum_over-sum K (get_or mesh a 1) (λ k y. f (set y a k)) x)

  -- an axis of U is summed first, the others after it
  sum_over-one : (a : ℕ) (U : List ℕ) (f : List ℕ → ℕ) (x : List ℕ) → In a U → Distinct U
      → sum_over mesh U f x ≡ sum_over mesh (without U (a ∷ [])) (sum_over mesh (a ∷ []) f) x
  sum_over-one a [] f x i d = elim i [ ]
  sum_over-one a (b ∷ U) f x i d = go (ℕ_discrete a b) i (λ j y. sum_over-one a U f y j d.1)
    where
      go : Dec (a ≡ b) → In a (b ∷ U) → (In a U → (y : List ℕ) → sum_over mesh U f y ≡ sum_over mesh (without U (a ∷ [])) (sum_over mesh (a ∷ []) f) y)
          → sum_over mesh (b ∷ U) f x ≡ sum_over mesh (without (b ∷ U) (a ∷ [])) (sum_over mesh (a ∷ []) f) x
      go (yes e) i ih =
          subst (λ (z : ℕ). ¬ In z U → sum_over mesh (z ∷ U) f x ≡ sum_over mesh (without (z ∷ U) (a ∷ [])) (sum_over mesh (a ∷ []) f) x) e
          (λ off. sum_over-last a U f x off ∙ ap (λ (l : List ℕ). sum_over mesh l (sum_over mesh (a ∷ []) f) x)
          (sym (without-same a U ∙ without-absent (a ∷ []) U (λ c j. ⊎_elim (λ p. off (subst (λ z. In z U) p j)) (λ k. k))))) d.0
      go (no n) (inl p) ih = absurd (n p)
      go (no n) (inr j) ih =
          ap (sum (get_or mesh b 1)) (fun_ext (λ k. ih j (set x b k)))
          ∙ ap (λ (l : List ℕ). sum_over mesh l (sum_over mesh (a ∷ []) f) x) (sym (without_other a b U n))

  -- the sum over U is the sum, over the rest, of the sums over L
  pub sum_over-without : (L U : List ℕ) (f : List ℕ → ℕ) (x : List ℕ) → ((a : ℕ) → In a L → In a U) → Distinct L → Distinct U
      → sum_over mesh U f x ≡ sum_over mesh (without U L) (sum_over mesh L f) x
  sum_over-without [] U f x sub dL dU = ap (λ (l : List ℕ). sum_over mesh l f x) (sym (without-none U))
  sum_over-without (a ∷ L) U f x sub dL dU =
      sum_over-one a U f x (sub a (inl refl)) dU
      ∙ sum_over-without L (without U (a ∷ [])) (sum_over mesh (a ∷ []) f) x
      (λ c i. ⊎_elim (λ j. absurd (⊎_elim (λ e. dL.0 (subst (λ z. In z L) e i)) (λ k. k) j)) (λ j. j) (in_without c (a ∷ []) U (sub c (inr i))))
      dL.1 (distinct_without (a ∷ []) U dU)
      ∙ ap₂ (λ (l : List ℕ) (g : List ℕ → ℕ). sum_over mesh l g x) (sym (without_more a L U)) (fun_ext (λ y. sym (sum_over-last a L f y dL.0)))

  -- the sum over a group is the sum over its positions
  pub sum_over-positions : (L : List ℕ) (f : List ℕ → ℕ) (x : List ℕ) → Distinct L
      → sum_over mesh L f x ≡ sum (span mesh L) (λ q. f (member mesh L q x))
  sum_over-positions [] f x d = omega arith
  sum_over-positions (a ∷ L) f x d =
      let s : ℕ = span mesh L in
      sum-cong (get_or mesh a 1) (λ k l. sum_over-positions L f (set x a k) d.1
      ∙ sum-cong s (λ r h. ap f (member-set mesh L r x a k d.0
      ∙ sym (ap₂ (λ (i j : ℕ). set (member mesh L i x) a j) (digits_mod k h) (digits_div k h)))))
      ∙ sym (sum-blocks (get_or mesh a 1) s (λ q. f (set (member mesh L (q % s) x) a (q / s))))

  pub sum_over-mod : (L : List ℕ) (m : ℕ) (f g : List ℕ → ℕ) (x : List ℕ) → ((y : List ℕ) → f y % m ≡ g y % m)
      → sum_over mesh L f x % m ≡ sum_over mesh L g x % m
  sum_over-mod [] m f g x h = h x
  sum_over-mod (a ∷ L) m f g x h = sum-mod (get_or mesh a 1) m _ _ (λ k l. sum_over-mod L m f g (set x a k) h)

  -- of functions that are equal on the group
  pub sum_over-group : (L : List ℕ) (f g : List ℕ → ℕ) (x : List ℕ) → Below x mesh → ((y : List ℕ) → Below y mesh → SameGroup L x y → f y ≡ g y)
      → sum_over mesh L f x ≡ sum_over mesh L g x
  sum_over-group [] f g x b h = h x b (λ a n. refl)
  sum_over-group (c ∷ L) f g x b h =
      sum-cong (get_or mesh c 1) (λ k l. sum_over-group L f g (set x c k) (below_set c k b l)
      (λ y by e. h y by (λ a n. sym (get_or-set_other x c a k 0 (λ p. n (inl p))) ∙ e a (λ i. n (inr i)))))

  pub sum_over-const : (L : List ℕ) (c : ℕ) (x : List ℕ) → sum_over mesh L (λ y. c) x ≡ span mesh L * c
  sum_over-const [] c x = omega arith
  sum_over-const (a ∷ L) c x =
      ap (sum (get_or mesh a 1)) (fun_ext (λ k. sum_over-const L c (set x a k))) ∙ sum-const (get_or mesh a 1) (span mesh L * c)
      ∙ sym (mul_assoc (get_or mesh a 1) (span mesh L) c)

  pub sum_over-scale : (L : List ℕ) (c : ℕ) (f : List ℕ → ℕ) (x : List ℕ) → sum_over mesh L (λ y. c * f y) x ≡ c * sum_over mesh L f x
  sum_over-scale [] c f x = refl
  sum_over-scale (a ∷ L) c f x =
      ap (sum (get_or mesh a 1)) (fun_ext (λ k. sum_over-scale L c f (set x a k))) ∙ sum-scale (get_or mesh a 1) c (λ k. sum_over mesh L f (set x a k))

-- ---- the members of a group, by position

pub members-tab : {A : Type 0} (f : List ℕ → A) (mesh L x : List ℕ) → map f (members mesh L x) ≡ tab (span mesh L) (λ q. f (member mesh L q x))
unfolding members
members-tab f mesh L x = map-tab f (span mesh L) (λ q. member mesh L q x)

-- what holds of every device of x's group holds of its members
pub all-members : (P : List ℕ → Type 0) (mesh L x : List ℕ) → Below x mesh → ((y : List ℕ) → Below y mesh → SameGroup L x y → P y)
    → All P (members mesh L x)
unfolding members
all-members P mesh L x bx h =
    all-tab P (span mesh L) (λ q. member mesh L q x)
    (λ q l. h (member mesh L q x) (below-member mesh L q l bx) (λ a off. sym (member-other mesh L q x a off)))

pub members-cong : {A : Type 0} (f g : List ℕ → A) (mesh L x : List ℕ) → Below x mesh → ((y : List ℕ) → Below y mesh → SameGroup L x y → f y ≡ g y)
    → map f (members mesh L x) ≡ map g (members mesh L x)
members-cong f g mesh L x bx h = map-all f g (members mesh L x) (all-members (λ y. f y ≡ g y) mesh L x bx h)

pub total-members : (f : List ℕ → ℕ) (mesh L x : List ℕ) → Distinct L → total (map f (members mesh L x)) ≡ sum_over mesh L f x
total-members f mesh L x d =
    ap total (members-tab f mesh L x) ∙ total-tab (span mesh L) (λ q. f (member mesh L q x)) ∙ sym (sum_over-positions mesh L f x d)

-- ---- words

-- "the word_by_word sum, modulo 2^32"
pub add_words-total : SumOfWords
unfolding add_words
add_words-total [] h = refl
add_words-total (w ∷ []) (l & h) = sym (ap (λ (z : ℕ). z % 2 ^ 32) (add-zero w) ∙ mod-eq_of_lt l)
add_words-total (w ∷ v ∷ l) h = refl

pub add_words-lt : (l : List ℕ) → All (λ w. w < 2 ^ 32) l → add_words l < 2 ^ 32
unfolding add_words
add_words-lt [] h = lit< tt
add_words-lt (w ∷ []) (l & h) = l
add_words-lt (w ∷ v ∷ l) h = mod-lt _ (lit< tt)

pub add_words-mod : (l : List ℕ) → add_words l % 2 ^ 32 ≡ total l % 2 ^ 32
unfolding add_words
add_words-mod [] = refl
add_words-mod (w ∷ []) = ap (λ (z : ℕ). z % 2 ^ 32) (sym (add-zero w))
add_words-mod (w ∷ v ∷ l) = mod-mod (total (w ∷ v ∷ l)) (2 ^ 32)

-- the sum of the words of x's group
pub add_words-members : (f : List ℕ → ℕ) (mesh L x : List ℕ) → Below x mesh → Distinct L
    → ((y : List ℕ) → Below y mesh → SameGroup L x y → f y < 2 ^ 32) → add_words (map f (members mesh L x)) ≡ sum_over mesh L f x % 2 ^ 32
add_words-members f mesh L x bx d h =
    add_words-total (map f (members mesh L x)) (all_map (λ w. w < 2 ^ 32) f (members mesh L x) (all-members (λ y. f y < 2 ^ 32) mesh L x bx h))
    ∙ ap (λ (z : ℕ). z % 2 ^ 32) (total-members f mesh L x d)
