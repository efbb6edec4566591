-- Axes of the code in a slice, beside the numbers that they stand for: the axis at a place, tests of all and of some, and slices that are equal.
-- Assumes nothing.
use Prim.Native.Nat.{ℕ, ◌-◌}
use native.Mathlib.Decide.{ℕ_discrete}
use borrow.Author.Tests.{eq-eqb, ne_eqb}
use mathlib.Core.Bool.{Bool, true, false, ◌&&◌, ◌||◌}
use mathlib.Core.Path.{◌≡◌, refl, sym, ap, ◌∙◌}
use mathlib.Core.List.{List, [], ◌∷◌, map}
use lib.Dec.{eqb}
use lib.ListN.{length, get_or, drop, length-map, get_or-map}
use Rattle.std.specs.List.{list_all, list_any, ends_with}
use lib.Pointwise.{pointwise}
use Rattle.std.proofs.lemmas.List.{drop-map}
use Rattle.rules.specs.PlanFile.{same, is_tail}
use Rattle.types.specs.Types.{numbers_of}
use Rattle.types.specs.declared.Axis.{Axis}

module _ {L : List ℕ} (xs : List Axis) (e : numbers_of xs ≡ L) where
  pub axis-in : (i : ℕ) → (get_or xs i (record { 0 = 0 })).0 ≡ get_or L i 0
  unfolding numbers_of
  axis-in i = sym (get_or-map (λ (a : Axis). a.0) xs i (record { 0 = 0 })) ∙ ap (λ (l : List ℕ). get_or l i 0) e

  pub axes-count : length xs ≡ length L
  unfolding numbers_of
  axes-count = sym (length-map xs (λ (a : Axis). a.0)) ∙ ap length e

-- ---- all and some

pub all-axes : (F : List ℕ → Bool) (p : ℕ → Bool) → F [] ≡ true → ((a : ℕ) (l : List ℕ) → F (a ∷ l) ≡ (p a && F l)) → (xs : List Axis)
    → list_all (λ (x : Axis). p x.0) xs ≡ F (numbers_of xs)
unfolding numbers_of
all-axes F p none step [] = sym none
all-axes F p none step (x ∷ xs) = ap (λ (b : Bool). p x.0 && b) (all-axes F p none step xs) ∙ sym (step x.0 (numbers_of xs))

pub any-axes : (F : List ℕ → Bool) (p : ℕ → Bool) → F [] ≡ false → ((a : ℕ) (l : List ℕ) → F (a ∷ l) ≡ (p a || F l)) → (xs : List Axis)
    → list_any (λ (x : Axis). p x.0) xs ≡ F (numbers_of xs)
unfolding numbers_of
any-axes F p none step [] = sym none
any-axes F p none step (x ∷ xs) = ap (λ (b : Bool). p x.0 || b) (any-axes F p none step xs) ∙ sym (step x.0 (numbers_of xs))

-- ---- equal slices

pub eqb-turned : (a b : ℕ) → eqb a b ≡ eqb b a
eqb-turned a b = go (ℕ_discrete a b)
  where
    go : Dec (a ≡ b) → eqb a b ≡ eqb b a
    go (yes e) = eq-eqb a b e ∙ sym (eq-eqb b a (sym e))
    go (no n) = ne_eqb a b n ∙ sym (ne_eqb b a (λ e. n (sym e)))

pub same-axes : (xs ys : List Axis) → pointwise (λ (x y : Axis). eqb x.0 y.0) xs ys ≡ same (numbers_of xs) (numbers_of ys)
unfolding same numbers_of
same-axes [] [] = refl
same-axes [] (y ∷ ys) = refl
same-axes (x ∷ xs) [] = refl
same-axes (x ∷ xs) (y ∷ ys) = ap (λ (b : Bool). eqb x.0 y.0 && b) (same-axes xs ys)

same-turned : (L M : List ℕ) → same L M ≡ same M L
unfolding same
same-turned [] [] = refl
same-turned [] (b ∷ M) = refl
same-turned (a ∷ L) [] = refl
same-turned (a ∷ L) (b ∷ M) = ap (λ (t : Bool). t && same L M) (eqb-turned a b) ∙ ap (λ (t : Bool). eqb b a && t) (same-turned L M)

pub tail-axes : (xs ys : List Axis) → ends_with (λ (x y : Axis). eqb x.0 y.0) xs ys ≡ is_tail (numbers_of xs) (numbers_of ys)
unfolding numbers_of
tail-axes xs ys =
    let f = λ (a : Axis). a.0 in
    same-axes ys (drop (length xs - length ys) xs) ∙ same-turned (numbers_of ys) (map f (drop (length xs - length ys) xs))
    ∙ rw (length-map xs f, length-map ys f, drop-map f (length xs - length ys) xs) refl
