-- One step of an accepted plan, after the first k: what it is given (`in-turn-next`), its shape (`next-shape`), the sizes that its kind asks for
-- (`next-ready`), and that it divides without remainder (`next-divides`). Assumes nothing.
use Prim.Native.Nat.{ℕ, zero, suc, ◌+◌, ◌<◌}
use mathlib.Core.Path.{◌≡◌, sym, ap, ◌∙◌, subst}
use mathlib.Core.List.{List, [], ◌∷◌}
use native.Mathlib.Numerals.{add-one}
use native.Mathlib.Omega.{arith}
use lib.ListN.{length, get_or, take, drop}
use Rattle.rules.specs.Lists.{in_turn}
use Rattle.rules.specs.Sharding.{Sharding, shard_sizes, IsSharding}
use Rattle.rules.specs.Collectives.{Step, all_slice, all_gather, all_reduce, all_to_all, reduce_scatter, reduced, only, after, shape_after, WithoutRemainder}
use Rattle.rules.specs.PlanFile.{Plan, announced, announced_shape}
use Rattle.laws.proofs.Shapes.{Cut}
use Rattle.laws.proofs.Sizes.{cut-is}
use Rattle.laws.proofs.Sources.{Ready}
use Rattle.laws.proofs.Steps.{AcceptedStep, ToAll, shape-length, slice-sharding, gather-sharding, to-all-sharding, scatter-sharding, after-shape}
use Rattle.laws.proofs.Turns.{Fine}
use Rattle.laws.proofs.Accepted.{AcceptedPlan}
use Rattle.laws.proofs.Room.{state}

-- ---- one accepted step

module _ (mesh sizes : List ℕ) (pos : (a : ℕ) → zero < get_or mesh a 1) where
  pub step-ready : (t : Step) (s : Sharding) → IsSharding mesh sizes s → AcceptedStep mesh sizes t s → Ready mesh t (shard_sizes mesh sizes s.dims)
  unfolding reduced
  step-ready (all_slice Ss) s h f = (slice-sharding mesh sizes pos Ss s h f.axes f.by_kind).pieces
  step-ready (all_gather Gs) s h f = (gather-sharding mesh sizes pos Gs s h f.by_kind).wholes
  step-ready (all_reduce L) s h f = tt
  step-ready (all_to_all source target L) s h f =
      let w : ToAll mesh sizes pos source target L s = to-all-sharding mesh sizes pos source target L s h f.axes f.by_kind in
      rw (shape-length mesh sizes pos s h) (
        w.first.wholes,
        subst (λ (z : List ℕ). Cut mesh (only (length s.dims) target L) z (shard_sizes mesh z (only (length s.dims) target L))) (sym w.first.announced) w.second.pieces,
      )
  step-ready (reduce_scatter Ss) s h f = (scatter-sharding mesh sizes pos Ss s h f).pieces

-- the sizes that a step's kind asks for divide without remainder
ready-divides : (mesh : List ℕ) → ((a : ℕ) → zero < get_or mesh a 1) → (t : Step) (shape : List ℕ) → Ready mesh t shape → WithoutRemainder mesh t shape
ready-divides mesh pos (all_slice Ss) shape c = (cut-is mesh pos c).0
ready-divides mesh pos (all_gather Gs) shape c = tt
ready-divides mesh pos (all_reduce L) shape c = tt
ready-divides mesh pos (all_to_all source target L) shape c = (cut-is mesh pos c.1).0
ready-divides mesh pos (reduce_scatter Ss) shape c = (cut-is mesh pos c).0

-- ---- the step after the first k

no-entry : {A : Type 0} {a : A} {l : List A} → [] ≡ a ∷ l → ⊥
no-entry e = let z : ◌≡◌ {A = ℕ} 0 1 = cc in omega arith

first_entry : {A : Type 0} {a b : A} {l m : List A} → a ∷ l ≡ b ∷ m → a ≡ b
first_entry e = cc

-- the entry after the first k, taken in turn
pub in-turn-next : {A B : Type 0} (f : A → B → B) (k : ℕ) (a : A) (l rest : List A) (b : B) → drop k l ≡ a ∷ rest
    → in_turn f (take (k + 1) l) b ≡ f a (in_turn f (take k l) b)
in-turn-next {A = A} {B = B} f k a l rest b e = rw (add-one k) (go k l b e)
  where
    go : (k : ℕ) (l : List A) (b : B) → drop k l ≡ a ∷ rest → in_turn f (take (suc k) l) b ≡ f a (in_turn f (take k l) b)
    go zero [] b e = absurd (no-entry e)
    go zero (c ∷ l) b e = ap (λ (z : A). f z b) (first_entry e)
    go (suc k) [] b e = absurd (no-entry e)
    go (suc k) (c ∷ l) b e = go k l (f c b) e

-- the step after the first k is accepted of the sharding announced there
pub step-accepted : (mesh sizes : List ℕ) (k : ℕ) (t : Step) (ts rest : List Step) (s : Sharding) → drop k ts ≡ t ∷ rest → Fine mesh sizes s ts
    → AcceptedStep mesh sizes t (in_turn after (take k ts) s)
step-accepted mesh sizes zero t [] rest s e f = absurd (no-entry e)
step-accepted mesh sizes zero t (u ∷ ts) rest s e f = subst (λ (z : Step). AcceptedStep mesh sizes z s) (first_entry e) f.0
step-accepted mesh sizes (suc k) t [] rest s e f = absurd (no-entry e)
step-accepted mesh sizes (suc k) t (u ∷ ts) rest s e f = step-accepted mesh sizes k t ts rest (after u s) e f.1

-- the shape that the step after the first k leaves is the one announced after it
pub next-shape : {p : Plan} → AcceptedPlan p → (k : ℕ) (t : Step) (rest : List Step) → drop k p.steps ≡ t ∷ rest
    → shape_after p.mesh t (announced_shape p k) ≡ announced_shape p (k + 1)
unfolding announced_shape announced
next-shape {p} a k t rest d =
    after-shape p.mesh p.sizes a.within.sizes_pos t (announced p k) (state a k).sharding
    (step-accepted p.mesh p.sizes k t p.steps rest p.start d a.fine)
    ∙ ap (λ (z : Sharding). shard_sizes p.mesh p.sizes z.dims) (sym (in-turn-next after k t p.steps rest p.start d))

-- the step after the first k has the sizes that its kind asks for
pub next-ready : {p : Plan} → AcceptedPlan p → (k : ℕ) (t : Step) (rest : List Step) → drop k p.steps ≡ t ∷ rest → Ready p.mesh t (announced_shape p k)
unfolding announced_shape announced
next-ready {p} a k t rest d =
    step-ready p.mesh p.sizes a.within.sizes_pos t (announced p k) (state a k).sharding
    (step-accepted p.mesh p.sizes k t p.steps rest p.start d a.fine)

-- the step after the first k divides without remainder
pub next-divides : {p : Plan} → AcceptedPlan p → (k : ℕ) (t : Step) (rest : List Step) → drop k p.steps ≡ t ∷ rest
    → WithoutRemainder p.mesh t (announced_shape p k)
next-divides {p} a k t rest d = ready-divides p.mesh a.within.sizes_pos t (announced_shape p k) (next-ready a k t rest d)

-- a size of 4 is divided along an axis of 2 without remainder, one of 3 is not, by an all-slice, an all-to-all or a reduce-scatter
remainders :
    WithoutRemainder (2 ∷ []) (all_slice ((0 ∷ []) ∷ [])) (4 ∷ [])
    × (¬ WithoutRemainder (2 ∷ []) (all_slice ((0 ∷ []) ∷ [])) (3 ∷ []))
    × (¬ WithoutRemainder (2 ∷ []) (all_to_all 0 1 (0 ∷ [])) (2 ∷ 3 ∷ []))
    × WithoutRemainder (2 ∷ []) (reduce_scatter ((0 ∷ []) ∷ [])) (4 ∷ [])
    × (¬ WithoutRemainder (2 ∷ []) (reduce_scatter ((0 ∷ []) ∷ [])) (3 ∷ []))
remainders = (tt, λ t. t, λ t. t, tt, λ t. t)
