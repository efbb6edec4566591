-- The proofs of what specs/WorkedEditions.antt states and of its worked cases. Assumes nothing.
use Rattle.std.specs.Prelude.{ℕ, ◌<◌, ◌≡◌, refl, [], ◌∷◌, get_or}
use Rattle.std.proofs.Common.{sym, subst, inl, inr, arith, lit<}
use Rattle.rules.specs.Lists.{In, All, done, ◌&◌, none, more}
use Rattle.rules.specs.Spread.{held}
use Rattle.rules.specs.PlanFile.{judge_by}
use Rattle.rules.specs.Calls.{check_of, place_of, run_of}
use Rattle.rules.specs.Ledger.{Holds, file_in, file_of}
use Rattle.rules.specs.WorkedEditions.{editions, FirstEdition, Unequal, NoSharding}

pub in_editions : All Holds editions
unfolding file_in check_of place_of run_of
in_editions =
    refl & refl & refl & refl & refl & refl & refl & refl & refl & refl & refl & refl
    & refl & refl & refl & refl & refl & refl & refl & refl & refl & refl & refl & refl
    & refl & refl & refl & refl & refl & refl & refl & refl & refl & refl & refl & refl
    & refl & refl & refl & refl & refl & done

pub first_edition : FirstEdition
unfolding file_in file_of judge_by
first_edition = (refl, refl)

pub unequal : Unequal
unfolding held
unequal = record {
  wholes = λ replicated table f.
      let e : ◌≡◌ {A = ℕ} 0 1 = f.same (0 ∷ []) (1 ∷ []) (0 ∷ []) (more (lit< tt) none) (more (lit< tt) none) (more (lit< tt) none) (λ a i. absurd i) in
      omega (arith, e);
  parts = λ table f.
      let e : ◌≡◌ {A = ℕ} 1 2 =
      f.same (0 ∷ 0 ∷ []) (0 ∷ 1 ∷ []) (0 ∷ []) (more (lit< tt) (more (lit< tt) none)) (more (lit< tt) (more (lit< tt) none)) (more (lit< tt) none) agree in
      omega (arith, e);
}
  where
    agree : (a : ℕ) → In a (0 ∷ []) → ◌≡◌ {A = ℕ} (get_or (0 ∷ 0 ∷ []) a 0) (get_or (0 ∷ 1 ∷ []) a 0)
    agree a (inl e) = subst (λ z. ◌≡◌ {A = ℕ} (get_or (0 ∷ 0 ∷ []) z 0) (get_or (0 ∷ 1 ∷ []) z 0)) (sym e) refl
    agree a (inr i) = absurd i

pub no_sharding : NoSharding
no_sharding = record {
  twice = λ s. s.once.0 (inl refl);
  beyond = λ s. let l : 1 < 1 = s.of_mesh 1 (inl refl) in omega arith;
}
