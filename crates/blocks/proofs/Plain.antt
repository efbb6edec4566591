-- A plain step, and what a summary of steps tells. Assumes nothing.
use Prim.Native.Nat.{ℕ, ◌+◌, ◌≤◌, max}
use mathlib.Core.Path.{◌≡◌, refl, sym, ap, ap₂, ◌∙◌, fun_ext}
use mathlib.Core.List.{List, [], ◌∷◌}
use native.Mathlib.Omega.{arith}
use lib.ListN.{length}
use Rattle.rules.specs.Sharding.{Sharding}
use Rattle.rules.specs.Collectives.{after}
use Rattle.rules.specs.Refusals.{Judged, accept, refuse, ◌>>=◌}
use Rattle.rules.specs.PlanFile.{Read, step_at, judge_step, plain, StepsRead, plain_at}
use Rattle.rules.specs.Moved.{moved_from}
use Rattle.laws.proofs.Judging.{never, accept-inj, bind_assoc}
use Rattle.taking.specs.Taking.{StepTaken, take_step}
use Rattle.taking.proofs.Takes.{is-after}
use Rattle.blocks.specs.Blocks.{Summary, shard_words, summary_of, summarized}

-- ---- a summary

pub summary-inv : (mesh sizes : List ℕ) (k largest : ℕ) (s : Sharding) (j : Judged StepsRead) (r : Read Summary)
    → summarized mesh sizes k largest s j ≡ accept r → (w : StepsRead) × (j ≡ accept w) × (summary_of mesh sizes k largest s w ≡ r)
summary-inv mesh sizes k largest s (accept w) r e = (w, refl, accept-inj e)
summary-inv mesh sizes k largest s (refuse a b) r e = absurd (never e)

pub summary-stops : (mesh sizes : List ℕ) (k largest : ℕ) (s : Sharding) (j : Judged StepsRead) {a b : ℕ}
    → summarized mesh sizes k largest s j ≡ refuse a b → j ≡ refuse a b
summary-stops mesh sizes k largest s (accept w) e = absurd (never (sym e))
summary-stops mesh sizes k largest s (refuse a b) e = ap₂ refuse (refused-1 e) (refused-2 e)
  where
    refused-1 : {A : Type 0} {a b c d : ℕ} → ◌≡◌ {A = Judged A} (refuse a b) (refuse c d) → a ≡ c
    refused-1 q = cc

    refused-2 : {A : Type 0} {a b c d : ℕ} → ◌≡◌ {A = Judged A} (refuse a b) (refuse c d) → b ≡ d
    refused-2 q = cc

-- ---- a plain step

module _ (mesh sizes file : List ℕ) (k at : ℕ) (s : Sharding) where
  abbrev as_read : Read StepTaken → Judged StepsRead
  as_read m = accept (record {
    records = plain m.value.step ∷ [];
    steps = m.value.step ∷ [];
    sharding = m.value.sharding;
    next = m.next;
  })

  -- it is a step taken
  pub plain-take : plain_at mesh sizes file k at s ≡ ◌>>=◌ (take_step mesh sizes k file at s) as_read
  unfolding plain_at take_step
  plain-take =
      sym (bind_assoc (step_at (length mesh) (length sizes) k file at) _ _
      ∙ ap (◌>>=◌ (step_at (length mesh) (length sizes) k file at)) (fun_ext (λ t. bind_assoc (judge_step mesh sizes k t.value s) _ _)))

  pub plain-stops : {a b : ℕ} (largest : ℕ) → take_step mesh sizes k file at s ≡ refuse a b
      → summarized mesh sizes k largest s (plain_at mesh sizes file k at s) ≡ refuse a b
  plain-stops largest e = ap (summarized mesh sizes k largest s) (plain-take ∙ ap (λ (j : Judged (Read StepTaken)). ◌>>=◌ j as_read) e)

  pub plain-is : {m : Read StepTaken} → take_step mesh sizes k file at s ≡ accept m → (largest : ℕ) {most : ℕ} → shard_words mesh sizes s ≤ largest
      → most ≡ max largest (shard_words mesh sizes m.value.sharding) → {moved : ℕ} → moved ≡ moved_from mesh sizes m.value.step s
      → summarized mesh sizes k largest s (plain_at mesh sizes file k at s)
      ≡ accept (record { value = record { number = k + 1; runs = 1; largest = most; moved = moved; sharding = m.value.sharding }; next = m.next })
  plain-is {m} e largest {most} h q {moved} c =
      let l : max largest (max (shard_words mesh sizes s) (shard_words mesh sizes (after m.value.step s))) ≡ most =
      ap (λ (z : Sharding). max largest (max (shard_words mesh sizes s) (shard_words mesh sizes z))) (sym (is-after mesh sizes k file at s e)) ∙ omega (arith, q) in
      let one : moved_from mesh sizes m.value.step s + 0 ≡ moved = omega (arith, c) in
      ap (summarized mesh sizes k largest s) (plain-take ∙ ap (λ (j : Judged (Read StepTaken)). ◌>>=◌ j as_read) e)
      ∙ (λ i. accept (record { value = record { number = k + 1; runs = 1; largest = l i; moved = one i; sharding = m.value.sharding }; next = m.next }))
