-- The proofs of what specs/WorkedGroups.antt states and of its worked cases. Assumes nothing.
use Rattle.std.specs.Prelude.{ℕ, zero, suc, ◌<◌, ◌≡◌, refl, [], ◌∷◌, get_or}
use Rattle.std.proofs.Common.{inl, inr, arith, lit<}
use Rattle.rules.specs.Lists.{In, none, more}
use Rattle.rules.specs.Mesh.{members}
use Rattle.rules.specs.Spread.{add_words}
use Rattle.rules.specs.WorkedGroups.{InGroups}

pub in_groups : InGroups
unfolding members add_words
in_groups = record {
  together = agree;
  apart = λ h. let e : ◌≡◌ {A = ℕ} 0 1 = h 0 other in omega (arith, e);
  turned = record { size = refl; below = below; once = once; has = has };
  split = λ f. let e : ◌≡◌ {A = ℕ} 1 3 = f.sums (0 ∷ []) (0 ∷ []) (more (lit< tt) none) (more (lit< tt) none) in omega (arith, e);
}
  where
    agree : (a : ℕ) → ¬ In a (1 ∷ []) → ◌≡◌ {A = ℕ} (get_or (0 ∷ 0 ∷ []) a 0) (get_or (0 ∷ 1 ∷ []) a 0)
    agree zero n = refl
    agree (suc zero) n = absurd (n (inl refl))
    agree (suc (suc a)) n = refl

    other : ¬ In 0 (1 ∷ [])
    other (inl e) = omega (arith, e)
    other (inr i) = i

    below : (p : ℕ) → p < 2 → get_or (1 ∷ 0 ∷ []) p 0 < 2
    below zero h = lit< tt
    below (suc zero) h = lit< tt
    below (suc (suc p)) h = absurd (omega (arith, h))

    once : (p q : ℕ) → p < 2 → q < 2 → ◌≡◌ {A = ℕ} (get_or (1 ∷ 0 ∷ []) p 0) (get_or (1 ∷ 0 ∷ []) q 0) → p ≡ q
    once zero zero h k e = refl
    once zero (suc zero) h k e = absurd (omega (arith, e))
    once (suc zero) zero h k e = absurd (omega (arith, e))
    once (suc zero) (suc zero) h k e = refl
    once zero (suc (suc q)) h k e = absurd (omega (arith, k))
    once (suc zero) (suc (suc q)) h k e = absurd (omega (arith, k))
    once (suc (suc p)) q h k e = absurd (omega (arith, h))

    has : (d : ℕ) → d < 2 → (p : ℕ) × (p < 2) × (get_or (1 ∷ 0 ∷ []) p 0 ≡ d)
    has zero h = (1, lit< tt, refl)
    has (suc zero) h = (0, lit< tt, refl)
    has (suc (suc d)) h = absurd (omega (arith, h))
