-- What an accepted judgement tells: of `do`, its parts; of each test of a step, the fact that it finds. Assumes nothing.
use Prim.Native.Nat.{ℕ, ◌+◌, ◌-◌, ◌<◌, ◌≤◌}
use mathlib.Core.Path.{◌≡◌, refl, sym, ap, ap₂, ◌∙◌, subst}
use mathlib.Core.Logic.{inl, inr, ⊎_elim, ◌≢◌}
use mathlib.Core.Bool.{Bool, true, false, not, ◌&&◌}
use mathlib.Core.List.{List, [], ◌∷◌, ◌++◌}
use native.Mathlib.Omega.{arith}
use lib.ListN.{length, take, drop, take-append-drop}
use lib.Dec.{T, T_not, eqb, ltb, leb, eqb→eq, eqb_refl, ltb→lt, leb→le}
use Rattle.rules.specs.Lists.{each, both, flat, mem, ascending, In, Distinct}
use Rattle.rules.specs.Collectives.{cut_tail}
use Rattle.rules.specs.Refusals.{Judged, accept, refuse, ◌>>=◌, ◌>>◌, need_at}
use Rattle.rules.specs.PlanFile.{some, all_below, fresh, same, is_tail, increasing_from, none_in, all_in, two_dims, judge_kind, judge_named, judge_step}
use Rattle.laws.specs.Demands.{ReducesJudged}
use Rattle.laws.proofs.Lists.{T?, T_and, and_T, T→true, n_t→false, mem-in, in_mem, not-mem, mem-not, in_left, in_right, in-append, of-ascending, in-ascending}

-- ---- tests in order

pub never : {A : Type 0} {n k : ℕ} {a : A} → refuse n k ≡ accept a → ⊥
never e = let z : ◌≡◌ {A = ℕ} 0 1 = cc in omega arith

pub accept-inj : {A : Type 0} {a b : A} → accept a ≡ accept b → a ≡ b
accept-inj e = cc

pub need-inv : {A : Type 0} (k : ℕ) (b : Bool) (n : ℕ) (m : Judged A) (a : A) → ◌>>◌ (need_at k b n) m ≡ accept a → T b × (m ≡ accept a)
need-inv k true n m a e = (tt, e)
need-inv k false n m a e = absurd (never e)

pub need-true : (k : ℕ) (b : Bool) (n : ℕ) → need_at k b n ≡ accept tt → T b
need-true k true n e = tt
need-true k false n e = absurd (never e)

pub then-inv : {A B : Type 0} (m : Judged A) (l : Judged B) (b : B) → ◌>>◌ m l ≡ accept b → ((a : A) × (m ≡ accept a)) × (l ≡ accept b)
then-inv (accept a) l b e = ((a, refl), e)
then-inv (refuse n k) l b e = absurd (never e)

pub bind_inv : {A B : Type 0} (m : Judged A) (f : A → Judged B) (b : B) → ◌>>=◌ m f ≡ accept b → (a : A) × (m ≡ accept a) × (f a ≡ accept b)
bind_inv (accept a) f b e = (a, refl, e)
bind_inv (refuse n k) f b e = absurd (never e)

-- tests in order, taken together otherwise
pub then-assoc : {A B C : Type 0} (m : Judged A) (l : Judged B) (r : Judged C) → ◌>>◌ (◌>>◌ m l) r ≡ ◌>>◌ m (◌>>◌ l r)
then-assoc (accept a) l r = refl
then-assoc (refuse n k) l r = refl

pub bind_assoc : {A B C : Type 0} (m : Judged A) (f : A → Judged B) (g : B → Judged C) → ◌>>=◌ (◌>>=◌ m f) g ≡ ◌>>=◌ m (λ a. ◌>>=◌ (f a) g)
bind_assoc (accept a) f g = refl
bind_assoc (refuse n k) f g = refl

-- ---- tests of axis lists

-- 21, 22
pub named-inv : (n k : ℕ) (L : List ℕ) → judge_named n k L ≡ accept tt → T (some L) × T (all_below n L)
named-inv n k L e =
    let p : T (some L) × (need_at k (all_below n L) 22 ≡ accept tt) = need-inv k (some L) 21 (need_at k (all_below n L) 22) tt e in
    (p.0, need-true k (all_below n L) 22 p.1)

pub all_below-lt : (n : ℕ) (L : List ℕ) → T (all_below n L) → (a : ℕ) → In a L → a < n
unfolding all_below
all_below-lt n [] t a x'' = elim x'' [ ]
all_below-lt n (b ∷ L) t a (inl e) = subst (λ z. z < n) (sym e) (ltb→lt b n (T_and (ltb b n) (all_below n L) t).0)
all_below-lt n (b ∷ L) t a (inr i) = all_below-lt n L (T_and (ltb b n) (all_below n L) t).1 a i

-- 23
pub fresh-distinct : (before L : List ℕ) → T (fresh before L) → Distinct L × ((a : ℕ) → In a L → ¬ In a before)
unfolding fresh
fresh-distinct before [] t = (tt, λ a i. absurd i)
fresh-distinct before (b ∷ L) t =
    go (T_and (not (mem b before)) (fresh (b ∷ before) L) t).0 (fresh-distinct (b ∷ before) L (T_and (not (mem b before)) (fresh (b ∷ before) L) t).1)
  where
    go : T (not (mem b before)) → Distinct L × ((a : ℕ) → In a L → ¬ In a (b ∷ before)) → Distinct (b ∷ L) × ((a : ℕ) → In a (b ∷ L) → ¬ In a before)
    go n ih = (
      ((λ i. ih.1 b i (inl refl)), ih.0),
      λ a i j. ⊎_elim (λ e. not-mem b before n (subst (λ z. In z before) e j)) (λ k. ih.1 a k (inr j)) i,
    )

pub distinct-fresh : (before L : List ℕ) → Distinct L → ((a : ℕ) → In a L → ¬ In a before) → T (fresh before L)
unfolding fresh
distinct-fresh before [] d off = tt
distinct-fresh before (a ∷ L) d off =
    and_T (not (mem a before)) (fresh (a ∷ before) L) (mem-not a before (off a (inl refl)))
    (distinct-fresh (a ∷ before) L d.1 (λ b i. ⊎_elim (λ e. d.0 (subst (λ z. In z L) e i)) (off b (inr i))))

-- two lists that are the same
pub same-eq : (L M : List ℕ) → T (same L M) → L ≡ M
unfolding same
same-eq [] [] t = refl
same-eq [] (b ∷ M) t = absurd t
same-eq (a ∷ L) [] t = absurd t
same-eq (a ∷ L) (b ∷ M) t =
    let r : T (eqb a b) × T (same L M) = T_and (eqb a b) (same L M) t in
    ap₂ (λ (c : ℕ) (l : List ℕ). c ∷ l) (eqb→eq a b r.0) (same-eq L M r.1)

-- 24: what is left, with the gathered lists put back behind it, is what was there
pub tails-joined : (ds Gs : List (List ℕ)) → T (both is_tail ds Gs) → each ◌++◌ (each cut_tail ds Gs) Gs ≡ ds
tails-joined [] [] t = refl
tails-joined [] (G ∷ Gs) t = absurd t
tails-joined (d ∷ ds) [] t = absurd t
tails-joined (d ∷ ds) (G ∷ Gs) t =
    let k : ℕ = length d - length G in
    let r : T (same (drop k d) G) × T (both is_tail ds Gs) = T_and (same (drop k d) G) (both is_tail ds Gs) t in
    ap₂ (λ (a : List ℕ) (l : List (List ℕ)). a ∷ l) (ap (λ (z : List ℕ). take k d ++ z) (sym (same-eq (drop k d) G r.0)) ∙ take-append-drop k d)
    (tails-joined ds Gs r.1)

-- 26
increasing-low : (low : ℕ) (L : List ℕ) → T (increasing_from low L) → (a : ℕ) → In a L → low ≤ a
unfolding increasing_from
increasing-low low [] t a x'' = elim x'' [ ]
increasing-low low (b ∷ L) t a (inl e) = subst (λ z. low ≤ z) (sym e) (leb→le low b (T_and (leb low b) (increasing_from (b + 1) L) t).0)
increasing-low low (b ∷ L) t a (inr i) =
    let r : T (leb low b) × T (increasing_from (b + 1) L) = T_and (leb low b) (increasing_from (b + 1) L) t in
    omega (arith, leb→le low b r.0, increasing-low (b + 1) L r.1 a i)

pub increasing-distinct : (low : ℕ) (L : List ℕ) → T (increasing_from low L) → Distinct L
unfolding increasing_from
increasing-distinct low [] t = tt
increasing-distinct low (b ∷ L) t =
    let r : T (leb low b) × T (increasing_from (b + 1) L) = T_and (leb low b) (increasing_from (b + 1) L) t in
    ((λ i. omega (arith, increasing-low (b + 1) L r.1 b i)), increasing-distinct (b + 1) L r.1)

-- 27
pub all_in-in : (L U : List ℕ) → T (all_in L U) → (a : ℕ) → In a L → In a U
unfolding all_in
all_in-in [] U t a x'' = elim x'' [ ]
all_in-in (b ∷ L) U t a (inl e) = subst (λ z. In z U) (sym e) (mem-in b U (T_and (mem b U) (all_in L U) t).0)
all_in-in (b ∷ L) U t a (inr i) = all_in-in L U (T_and (mem b U) (all_in L U) t).1 a i

pub none_in-off : (L U : List ℕ) → T (none_in L U) → (a : ℕ) → In a L → ¬ In a U
unfolding none_in
none_in-off [] U t a x3 i = elim x3 [ ]
none_in-off (b ∷ L) U t a (inl e) i = not-mem b U (T_and (not (mem b U)) (none_in L U) t).0 (subst (λ z. In z U) e i)
none_in-off (b ∷ L) U t a (inr k) i = none_in-off L U (T_and (not (mem b U)) (none_in L U) t).1 a k i

pub off-none_in : (L U : List ℕ) → ((a : ℕ) → In a L → ¬ In a U) → T (none_in L U)
unfolding none_in
off-none_in [] U h = tt
off-none_in (b ∷ L) U h = and_T (not (mem b U)) (none_in L U) (mem-not b U (h b (inl refl))) (off-none_in L U (λ a i. h a (inr i)))

-- of a list without repeats, that none is in U is that each is fresh after U
pub none-fresh : (L U : List ℕ) → Distinct L → none_in L U ≡ fresh U L
none-fresh L U d = ⊎_elim
    (λ t. T→true (none_in L U) (off-none_in L U (fresh-distinct U L t).1) ∙ sym (T→true (fresh U L) t))
    (λ t. n_t→false (none_in L U) (λ n. T_not (fresh U L) t (distinct-fresh U L d (none_in-off L U n))) ∙ sym (n_t→false (fresh U L) (T_not (fresh U L) t)))
    (T? (fresh U L))

-- when an all-reduce is 27
pub reduces_judged : ReducesJudged
unfolding judge_step judge_kind
reduces_judged = record {
  passes = λ mesh sizes k L s n b i off.
      let U : List ℕ = flat s.dims ++ s.replicated in
      let t : T (none_in L U) = off-none_in L U (λ a l u. ⊎_elim (off a l).0 (off a l).1 (in-append a (flat s.dims) s.replicated u)) in
      rw (T→true (some L) n, T→true (all_below (length mesh) L) b, T→true (increasing_from 0 L) i, T→true (none_in L U) t) refl;
  refused = λ mesh sizes k L s n b i a l u.
      let U : List ℕ = flat s.dims ++ s.replicated in
      let j : In a U = ⊎_elim (in_left a (flat s.dims) s.replicated) (in_right a (flat s.dims) s.replicated) u in
      rw (T→true (some L) n, T→true (all_below (length mesh) L) b, T→true (increasing_from 0 L) i, n_t→false (none_in L U) (λ t. none_in-off L U t a l j)) refl;
}

in-all_in : (L U : List ℕ) → ((a : ℕ) → In a L → In a U) → T (all_in L U)
unfolding all_in
in-all_in [] U h = tt
in-all_in (b ∷ L) U h = rw (T→true (mem b U) (in_mem b U (h b (inl refl)))) (in-all_in L U (λ a i. h a (inr i)))

-- the order of the axes does not count
pub all_in-ascending : (n : ℕ) (L U : List ℕ) → ((a : ℕ) → In a L → a < n) → all_in (ascending n L) U ≡ all_in L U
all_in-ascending n L U below = ⊎_elim
    (λ t. T→true (all_in (ascending n L) U) (in-all_in (ascending n L) U (λ a i. all_in-in L U t a (of-ascending n L a i))) ∙ sym (T→true (all_in L U) t))
    (λ t. n_t→false (all_in (ascending n L) U) (λ s. T_not (all_in L U) t (in-all_in L U (λ a i. all_in-in (ascending n L) U s a (in-ascending n L a (below a i) i))))
    ∙ sym (n_t→false (all_in L U) (T_not (all_in L U) t)))
    (T? (all_in L U))

-- 28
pub two_dims-facts : (rank source target : ℕ) → T (two_dims rank source target) → (source < rank) × (target < rank) × (source ≢ target)
two_dims-facts rank source target t =
    let r : T (ltb source rank) × T (ltb target rank && not (eqb source target)) = T_and (ltb source rank) (ltb target rank && not (eqb source target)) t in
    let q : T (ltb target rank) × T (not (eqb source target)) = T_and (ltb target rank) (not (eqb source target)) r.1 in (
      ltb→lt source rank r.0,
      ltb→lt target rank q.0,
      λ e. T_not (eqb source target) q.1 (subst (λ z. T (eqb source z)) e (eqb_refl source)),
    )
