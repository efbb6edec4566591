-- Laws of lists for the planner: tests that hold, what is common to two lists, and an increasing list taken out of another. Assumes nothing.
use Prim.Native.Nat.{ℕ, zero, suc, ◌+◌, ◌-◌, ◌≤◌, ◌<◌}
use mathlib.Core.Path.{◌≡◌, refl, sym, ap, ap₂, ◌∙◌, subst}
use mathlib.Core.Logic.{◌⊎◌, inl, inr, ⊎_elim}
use mathlib.Core.Bool.{Bool, true, false, not, ◌&&◌}
use mathlib.Core.List.{List, [], ◌∷◌, ◌++◌, append-nil}
use native.Mathlib.Omega.{arith}
use native.Mathlib.Decide.{ℕ_discrete}
use native.Mathlib.Nat.{sub-zero}
use lib.ListN.{length, get_or, take, drop, length-drop, take-append-drop}
use lib.Seq.{take-length}
use lib.Dec.{T, T_not, eqb, ltb, leb, eqb→eq, eqb_refl, leb→le, le→leb, lt→ltb}
use Rattle.rules.specs.Lists.{pick, each, both, flat, mem, keep, without, In}
use Rattle.rules.specs.Collectives.{cut_tail}
use Rattle.rules.specs.Refusals.{accept}
use Rattle.rules.specs.PlanFile.{judge_axis, judge_axes, all_below, same, is_tail, increasing_from}
use Rattle.laws.proofs.Lists.{T?, T→true, n_t→false, T_and, and_T, mem-in, in_mem, mem-not, not-mem, keep-yes, keep-no, keep_same, in_without, not-in-without}
use Rattle.laws.proofs.Judging.{need-inv, need-true, then-inv}
use Rattle.records.specs.Planning.{common, rest_of_start, rest_of_goal}

-- ---- tests that hold

-- 22
pub lt-all_below : (n : ℕ) (L : List ℕ) → ((a : ℕ) → In a L → a < n) → T (all_below n L)
unfolding all_below
lt-all_below n [] h = tt
lt-all_below n (a ∷ L) h = and_T (ltb a n) (all_below n L) (lt→ltb a n (h a (inl refl))) (lt-all_below n L (λ b i. h b (inr i)))

-- 24
same_refl : (L : List ℕ) → T (same L L)
unfolding same
same_refl [] = tt
same_refl (a ∷ L) = and_T (eqb a a) (same L L) (eqb_refl a) (same_refl L)

-- 26: a start's unreduced list is increasing, and so is what a test keeps of one
pub axes-increasing : (n low : ℕ) (before L : List ℕ) → judge_axes n true low before L ≡ accept tt → T (increasing_from low L)
unfolding judge_axes increasing_from
axes-increasing n low before [] e = tt
axes-increasing n low before (a ∷ L) e =
    let j = then-inv (judge_axis n low before a) _ tt e in
    let p = need-inv 0 (ltb a n) 14 _ tt j.0.1 in
    let q = need-inv 0 (not (mem a before)) 15 _ tt p.1 in
    and_T (leb low a) (increasing_from (a + 1) L) (need-true 0 (leb low a) 16 q.1) (axes-increasing n (a + 1) (a ∷ before) L j.1)

increasing-inv : (low a : ℕ) (L : List ℕ) → T (increasing_from low (a ∷ L)) → (low ≤ a) × T (increasing_from (a + 1) L)
unfolding increasing_from
increasing-inv low a L t = let r : T (leb low a) × T (increasing_from (a + 1) L) = T_and (leb low a) (increasing_from (a + 1) L) t in (leb→le low a r.0, r.1)

increasing-from : (low a : ℕ) (L : List ℕ) → low ≤ a → T (increasing_from (a + 1) L) → T (increasing_from low (a ∷ L))
unfolding increasing_from
increasing-from low a L h t = and_T (leb low a) (increasing_from (a + 1) L) (le→leb low a h) t

lower : (low least : ℕ) (L : List ℕ) → least ≤ low → T (increasing_from low L) → T (increasing_from least L)
unfolding increasing_from
lower low least [] h t = tt
lower low least (a ∷ L) h t = let r = increasing-inv low a L t in increasing-from least a L (omega (arith, r.0)) r.1

above : (low : ℕ) (L : List ℕ) → T (increasing_from low L) → (a : ℕ) → In a L → low ≤ a
above low [] t a x'' = elim x'' [ ]
above low (b ∷ L) t a (inl e) = omega (arith, (increasing-inv low b L t).0)
above low (b ∷ L) t a (inr i) = omega (arith, (increasing-inv low b L t).0, above (b + 1) L (increasing-inv low b L t).1 a i)

pub keep-increasing : (p : ℕ → Bool) (low : ℕ) (U : List ℕ) → T (increasing_from low U) → T (increasing_from low (keep p U))
unfolding keep
keep-increasing p low [] t = t
keep-increasing p low (a ∷ U) t = go (p a) (increasing-inv low a U t) (keep-increasing p (a + 1) U (increasing-inv low a U t).1)
  where
    go : (b : Bool) → (low ≤ a) × T (increasing_from (a + 1) U) → T (increasing_from (a + 1) (keep p U)) → T (increasing_from low (pick b (a ∷ keep p U) (keep p U)))
    go true r ih = increasing-from low a (keep p U) r.0 ih
    go false r ih = lower (a + 1) low (keep p U) (omega (arith, r.0)) ih

-- ---- an increasing list taken out of another

-- what an increasing list keeps of the entries of another is that other, where it has them all
pub keep-mem : (low : ℕ) (U W : List ℕ) → T (increasing_from low U) → (least : ℕ) → T (increasing_from least W) → ((a : ℕ) → In a W → In a U) → keep (λ c. mem c W) U ≡ W
unfolding keep mem
keep-mem low U [] iU least iV h = none U
  where
    none : (L : List ℕ) → keep (λ c. false) L ≡ []
    none [] = refl
    none (a ∷ L) = none L
keep-mem low [] (b ∷ W) iU least iV h = absurd (h b (inl refl))
keep-mem low (a ∷ U) (b ∷ W) iU least iV h = go (ℕ_discrete a b) (λ i j k. keep-mem (a + 1) U (b ∷ W) i least j k) (λ i j k. keep-mem (a + 1) U W i (b + 1) j k)
  where
    tU : T (increasing_from (a + 1) U)
    tU = (increasing-inv low a U iU).1

    tV : T (increasing_from (b + 1) W)
    tV = (increasing-inv least b W iV).1

    go : Dec (a ≡ b)
        → (T (increasing_from (a + 1) U) → T (increasing_from least (b ∷ W)) → ((c : ℕ) → In c (b ∷ W) → In c U) → keep (λ c. mem c (b ∷ W)) U ≡ b ∷ W)
        → (T (increasing_from (a + 1) U) → T (increasing_from (b + 1) W) → ((c : ℕ) → In c W → In c U) → keep (λ c. mem c W) U ≡ W)
        → keep (λ c. mem c (b ∷ W)) (a ∷ U) ≡ b ∷ W
    go (yes e) far near =
        let inU : (c : ℕ) → In c W → In c U = λ c i. ⊎_elim (λ w. absurd (omega (arith, above (b + 1) W tV c i))) (λ j. j) (h c (inr i)) in
        let off : (c : ℕ) → In c U → mem c (b ∷ W) ≡ mem c W =
        λ c i. ap (λ (t : Bool). mathlib.Core.Bool.◌||◌ t (mem c W)) (n_t→false (eqb c b) (λ t. let w : c ≡ b = eqb→eq c b t in omega (arith, above (a + 1) U tU c i))) in
        keep-yes (λ c. mem c (b ∷ W)) a U (in_mem a (b ∷ W) (inl e))
        ∙ ap₂ (λ (x : ℕ) (l : List ℕ). x ∷ l) e (keep_same (λ c. mem c (b ∷ W)) (λ c. mem c W) U off ∙ near tU tV inU)
    go (no d) far near =
        let bU : In b U = ⊎_elim (λ e. absurd (d (sym e))) (λ i. i) (h b (inl refl)) in
        let ab : a + 1 ≤ b = above (a + 1) U tU b bU in
        let aV : ¬ In a (b ∷ W) = ⊎_elim (λ e. d e) (λ i. omega (arith, above (b + 1) W tV a i)) in
        let inU : (c : ℕ) → In c (b ∷ W) → In c U =
        λ c i. ⊎_elim (λ w. absurd (aV (subst (λ z. In z (b ∷ W)) w i))) (λ j. j) (h c i) in
        keep-no (λ c. mem c (b ∷ W)) a U (mem-not a (b ∷ W) aV) ∙ far tU iV inU

-- what is left of U without what W lacks of it is W
pub without-without : (U W : List ℕ) → T (increasing_from 0 U) → T (increasing_from 0 W) → ((a : ℕ) → In a W → In a U) → without U (without U W) ≡ W
unfolding without
without-without U W iU iW h =
    keep_same (λ c. not (mem c (without U W))) (λ c. mem c W) U (λ c i. go c (T? (mem c W)) i) ∙ keep-mem 0 U W iU 0 iW h
  where
    go : (c : ℕ) → T (mem c W) ⊎ T (not (mem c W)) → In c U → not (mem c (without U W)) ≡ mem c W
    go c (inl t) i = T→true (not (mem c (without U W))) (mem-not c (without U W) (not-in-without c W U (mem-in c W t))) ∙ sym (T→true (mem c W) t)
    go c (inr n) i =
        let k : In c (without U W) = ⊎_elim (λ j. absurd (not-mem c W n j)) (λ j. j) (in_without c W U i) in
        n_t→false (not (mem c (without U W))) (λ t. T_not (mem c (without U W)) t (in_mem c (without U W) k)) ∙ sym (n_t→false (mem c W) (T_not (mem c W) n))

length-keep : (p : ℕ → Bool) (U : List ℕ) → length (keep p U) ≤ length U
unfolding keep
length-keep p [] = omega arith
length-keep p (a ∷ U) = go (p a) (length-keep p U)
  where
    go : (b : Bool) → length (keep p U) ≤ length U → length (pick b (a ∷ keep p U) (keep p U)) ≤ suc (length U)
    go true h = omega arith
    go false h = omega arith

pub length_without : (U W : List ℕ) → length (without U W) ≤ length U
unfolding without
length_without U W = length-keep (λ c. not (mem c W)) U

-- ---- what is common to two lists

pub common-start : (s g : List ℕ) → common s g ≤ length s
common-start [] g = omega arith
common-start (a ∷ s) [] = omega arith
common-start (a ∷ s) (b ∷ g) = go (eqb a b) (common-start s g)
  where
    go : (t : Bool) → common s g ≤ length s → pick t (suc (common s g)) 0 ≤ suc (length s)
    go true h = omega arith
    go false h = omega arith

pub common-same : (s g : List ℕ) → take (common s g) s ≡ take (common s g) g
common-same [] g = refl
common-same (a ∷ s) [] = refl
common-same (a ∷ s) (b ∷ g) = go (T? (eqb a b)) (common-same s g)
  where
    go : T (eqb a b) ⊎ T (not (eqb a b)) → take (common s g) s ≡ take (common s g) g
        → take (pick (eqb a b) (suc (common s g)) 0) (a ∷ s) ≡ take (pick (eqb a b) (suc (common s g)) 0) (b ∷ g)
    go (inl t) ih = rw (T→true (eqb a b) t) (ap₂ (λ (x : ℕ) (l : List ℕ). x ∷ l) (eqb→eq a b t) ih)
    go (inr n) ih = rw (n_t→false (eqb a b) (T_not (eqb a b) n))

-- no longer beginning is common: behind it the lists differ in their first axes, or one has none
pub common-most : (s g : List ℕ) (k : ℕ) → k ≤ length s → k ≤ length g → take k s ≡ take k g → k ≤ common s g
common-most s g zero hs hg e = omega arith
common-most [] g (suc k) hs hg e = absurd (omega arith)
common-most (a ∷ s) [] (suc k) hs hg e = absurd (omega arith)
common-most (a ∷ s) (b ∷ g) (suc k) hs hg e =
    let w : a ≡ b = ap (λ (l : List ℕ). get_or l 0 0) e in
    let ih : k ≤ common s g = common-most s g k (omega arith) (omega arith) (ap (drop 1) e) in
    subst (λ (t : Bool). suc k ≤ pick t (suc (common s g)) 0) (sym (T→true (eqb a b) (subst (λ z. T (eqb a z)) w (eqb_refl a)))) (omega arith)

-- the gathered list is a tail, and what it leaves is common to both
cut-back : (s : List ℕ) (c : ℕ) → c ≤ length s → length s - length (drop c s) ≡ c
cut-back s c h = omega (arith, length-drop c s)

pub rest-tail : (s g : List ℕ) → T (is_tail s (rest_of_start s g))
rest-tail s g = rw (cut-back s (common s g) (common-start s g)) (same_refl (rest_of_start s g))

pub rest-cut : (s g : List ℕ) → cut_tail s (rest_of_start s g) ≡ take (common s g) g
rest-cut s g = ap (λ (k : ℕ). take k s) (cut-back s (common s g) (common-start s g)) ∙ common-same s g

-- ---- dimension by dimension

abbrev pub shared : List ℕ → List ℕ → List ℕ
shared s g = take (common s g) g

pub tails-rest : (ss gs : List (List ℕ)) → length ss ≡ length gs → T (both is_tail ss (each rest_of_start ss gs))
tails-rest [] [] e = tt
tails-rest [] (g ∷ gs) e = absurd (omega arith)
tails-rest (s ∷ ss) [] e = absurd (omega arith)
tails-rest (s ∷ ss) (g ∷ gs) e = and_T (is_tail s (rest_of_start s g)) (both is_tail ss (each rest_of_start ss gs)) (rest-tail s g) (tails-rest ss gs (omega arith))

pub cut-rest : (ss gs : List (List ℕ)) → each cut_tail ss (each rest_of_start ss gs) ≡ each shared ss gs
cut-rest [] gs = refl
cut-rest (s ∷ ss) [] = refl
cut-rest (s ∷ ss) (g ∷ gs) = ap₂ (λ (l : List ℕ) (ls : List (List ℕ)). l ∷ ls) (rest-cut s g) (cut-rest ss gs)

pub join-rest : (ss gs : List (List ℕ)) → length ss ≡ length gs → each ◌++◌ (each shared ss gs) (each rest_of_goal ss gs) ≡ gs
join-rest [] [] e = refl
join-rest [] (g ∷ gs) e = absurd (omega arith)
join-rest (s ∷ ss) [] e = absurd (omega arith)
join-rest (s ∷ ss) (g ∷ gs) e = ap₂ (λ (l : List ℕ) (ls : List (List ℕ)). l ∷ ls) (take-append-drop (common s g) g) (join-rest ss gs (omega arith))

-- lists that name no axis change nothing
empty_left : (l m : List ℕ) → l ++ m ≡ [] → (l ≡ []) × (m ≡ [])
empty_left [] m e = (refl, e)
empty_left (a ∷ l) m e = let z : ◌≡◌ {A = ℕ} 0 1 = cc in absurd (omega arith)

pub cut-none : (ds Gs : List (List ℕ)) → length ds ≡ length Gs → flat Gs ≡ [] → each cut_tail ds Gs ≡ ds
cut-none [] [] n e = refl
cut-none [] (G ∷ Gs) n e = absurd (omega arith)
cut-none (d ∷ ds) [] n e = absurd (omega arith)
cut-none (d ∷ ds) (G ∷ Gs) n e =
    let p : (G ≡ []) × (flat Gs ≡ []) = empty_left G (flat Gs) e in
    ap₂ (λ (l : List ℕ) (ls : List (List ℕ)). l ∷ ls) (ap (cut_tail d) p.0 ∙ ap (λ (k : ℕ). take k d) (sub-zero (length d)) ∙ take-length d) (cut-none ds Gs (omega arith) p.1)

pub join-none : (ds Ss : List (List ℕ)) → length ds ≡ length Ss → flat Ss ≡ [] → each ◌++◌ ds Ss ≡ ds
join-none [] [] n e = refl
join-none [] (S ∷ Ss) n e = absurd (omega arith)
join-none (d ∷ ds) [] n e = absurd (omega arith)
join-none (d ∷ ds) (S ∷ Ss) n e =
    let p : (S ≡ []) × (flat Ss ≡ []) = empty_left S (flat Ss) e in
    ap₂ (λ (l : List ℕ) (ls : List (List ℕ)). l ∷ ls) (ap (λ (l : List ℕ). d ++ l) p.0 ∙ append-nil d) (join-none ds Ss (omega arith) p.1)
