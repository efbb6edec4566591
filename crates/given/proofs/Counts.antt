-- Counts of lists: a list that passes 8 is the list of its places (`lists-fit`, `list-fits`), and lists in turn. Assumes nothing.
use Prim.Native.Nat.{ℕ, zero, suc, ◌+◌, ◌≤◌, ◌<◌, min}
use mathlib.Core.Path.{◌≡◌, refl, sym, ap, ap₂, ◌∙◌}
use mathlib.Core.Logic.{◌⊎◌, ⊎_elim}
use mathlib.Core.Bool.{Bool, true, false}
use mathlib.Core.List.{List, [], ◌∷◌, map}
use native.Mathlib.Omega.{arith}
use borrow.Author.Tests.{le-leb, lt-leb}
use lib.ListN.{length, get_or, take, drop, replicate, length-replicate, drop_of_length-le}
use lib.Seq.{drop-cons}
use Rattle.std.proofs.lemmas.List.{take-map}
use native.Mathlib.Numerals.{add-one}
use lib.Dec.{leb, leb→le, nleb→lt}
use Rattle.rules.specs.Lists.{pick}
use Rattle.rules.specs.Limits.{most_axes}
use Rattle.rules.specs.Refusals.{Judged, accept, refuse, ◌>>◌, need}
use Rattle.rules.specs.PlanFile.{judge_start}
use Rattle.types.specs.Types.{axes_of, dims_of, sharding_of}
use Rattle.types.specs.declared.AxisList.{AxisList}
use Rattle.types.specs.declared.Dim.{Dim}
use Rattle.types.specs.declared.DimLists.{DimLists}
use Rattle.types.specs.declared.Step.{Step}
use Rattle.types.specs.declared.Step.TheVariants.{AllSlice, AllGather, AllReduce, AllToAll, ReduceScatter}
use Rattle.types.specs.declared.Refusal.{Refusal}
use Rattle.types.specs.Answers.{refused_with}
use Rattle.types.specs.declared.Sharding as code
use Rattle.laws.proofs.Lists.{T?}
use Rattle.laws.proofs.Judging.{need-inv}
use Rattle.types.proofs.Types.{axes-length}
use Rattle.records.specs.Writing.{judge_counts, judge_sharding, step_numbered}
use Rattle.records.specs.Forms.{list_given, dims_given, sharding_given, step_given}
use Rattle.given.specs.Given.{lists_in}

-- ---- one list

within-places : (l : AxisList) → l.count ≤ most_axes → list_given l ≡ axes_of l
unfolding list_given
within-places l h = ap (λ (b : Bool). pick b (axes_of l) (replicate l.count 0)) (le-leb l.count most_axes h)

past-places : (l : AxisList) → most_axes < l.count → length (list_given l) ≡ l.count
unfolding list_given
past-places l h = ap (λ (b : Bool). length (pick b (axes_of l) (replicate l.count 0))) (lt-leb l.count most_axes h) ∙ length-replicate l.count 0

-- it counts as many axes as its count says
pub given-length : (l : AxisList) → length l.axes ≡ most_axes → length (list_given l) ≡ l.count
given-length l e =
    ⊎_elim (λ t. (let h : l.count ≤ most_axes = leb→le l.count most_axes t in
    let z : min l.count most_axes ≡ l.count = omega arith in
    ap length (within-places l h) ∙ axes-length l e ∙ z))
    (λ t. past-places l (nleb→lt l.count most_axes t)) (T? (leb l.count most_axes))

pub list-fits : (l : AxisList) → length (list_given l) ≤ most_axes → list_given l ≡ axes_of l
list-fits l h =
    ⊎_elim (λ t. within-places l (leb→le l.count most_axes t))
    (λ t. absurd (omega (arith, past-places l (nleb→lt l.count most_axes t), nleb→lt l.count most_axes t))) (T? (leb l.count most_axes))

-- ---- lists in turn

pub counts-inv : (n : ℕ) (l : List ℕ) (ls : List (List ℕ)) → judge_counts n (l ∷ ls) ≡ accept tt → (length l ≤ n) × (judge_counts n ls ≡ accept tt)
unfolding judge_counts
counts-inv n l ls e = let p = need-inv 0 (leb (length l) n) 8 (judge_counts n ls) tt e in (leb→le (length l) n p.0, p.1)

pub counts-one : (n : ℕ) (l : List ℕ) → judge_counts n (l ∷ []) ≡ need (leb (length l) n) 8
unfolding judge_counts
counts-one n l = go (need (leb (length l) n) 8)
  where
    go : (j : Judged (Unit {0})) → ◌>>◌ j (accept tt) ≡ j
    go (accept u) = refl
    go (refuse a b) = refl

-- 8 has no step number
pub counts-numbered : (n : ℕ) (ls : List (List ℕ)) → step_numbered (judge_counts n ls) ≡ judge_counts n ls
unfolding judge_counts
counts-numbered n [] = refl
counts-numbered n (l ∷ ls) = go (leb (length l) n) (counts-numbered n ls)
  where
    go : (b : Bool) {j : Judged (Unit {0})} → step_numbered j ≡ j → step_numbered (◌>>◌ (need b 8) j) ≡ ◌>>◌ (need b 8) j
    go true e = e
    go false e = refl

pub lists-fit : (n rank : ℕ) (ls : DimLists) → n ≤ most_axes → judge_counts n (dims_given rank ls) ≡ accept tt → dims_given rank ls ≡ take rank (dims_of ls)
unfolding dims_given dims_of
lists-fit n rank ls h e = go rank ls.0 e
  where
    go : (r : ℕ) (ds : List AxisList) → judge_counts n (take r (map list_given ds)) ≡ accept tt → take r (map list_given ds) ≡ take r (map axes_of ds)
    go zero ds q = refl
    go (suc r) [] q = refl
    go (suc r) (l ∷ ds) q =
        let p = counts-inv n (list_given l) (take r (map list_given ds)) q in
        ap₂ (λ (a : List ℕ) (m : List (List ℕ)). a ∷ m) (list-fits l (omega (arith, p.0))) (go r ds p.1)

-- ---- lists as they stand in an array

pub counts-next : (n : ℕ) (ls : List AxisList) (i : ℕ) → i < length ls
    → judge_counts n (map list_given (drop i ls))
    ≡ ◌>>◌ (need (leb (length (list_given (get_or ls i (record { count = 0; axes = []; align = [] })))) n) 8) (judge_counts n (map list_given (drop (i + 1) ls)))
unfolding judge_counts
counts-next n ls i h = rw (drop-cons ls i (record { count = 0; axes = []; align = [] }) h, add-one i) refl

pub counts-fine : (n : ℕ) (ls : List AxisList) (i : ℕ) → length ls ≤ i → judge_counts n (map list_given (drop i ls)) ≡ accept tt
unfolding judge_counts
counts-fine n ls i h = rw (drop_of_length-le ls {i = i} h) refl

pub dims-counted : (n rank : ℕ) (ls : DimLists) → judge_counts n (map list_given (take rank ls.0)) ≡ judge_counts n (dims_given rank ls)
unfolding dims_given
dims-counted n rank ls = ap (judge_counts n) (sym (take-map list_given rank ls.0))

module _ (rank : ℕ) (step : Step) where
  -- the lists of a step are those by dimension, or the one
  pub lists-by-dim : (lists : DimLists) → (step ≡ AllSlice lists) ⊎ ((step ≡ AllGather lists) ⊎ (step ≡ ReduceScatter lists))
      → lists_in (step_given rank step) ≡ dims_given rank lists
  lists-by-dim lists is =
      ⊎_elim (λ e. ap (λ (t : Step). lists_in (step_given rank t)) e)
      (λ o. ⊎_elim (λ e. ap (λ (t : Step). lists_in (step_given rank t)) e) (λ e. ap (λ (t : Step). lists_in (step_given rank t)) e) o) is

  pub lists-one : (list : AxisList) → (step ≡ AllReduce list) ⊎ ((source : Dim) × (target : Dim) × (step ≡ AllToAll source target list))
      → lists_in (step_given rank step) ≡ list_given list ∷ []
  lists-one list is =
      ⊎_elim (λ e. ap (λ (t : Step). lists_in (step_given rank t)) e) (λ o. ap (λ (t : Step). lists_in (step_given rank t)) o.2) is

-- ---- a sharding

-- one that passes 8 is the sharding of its places
pub sharding-fits : (n rank : ℕ) (s : code.Sharding) → n ≤ most_axes → judge_counts n (dims_given rank s.dims) ≡ accept tt
    → judge_counts n (list_given s.unreduced ∷ list_given s.replicated ∷ []) ≡ accept tt → sharding_given rank s ≡ sharding_of rank s
sharding-fits n rank s h e o =
    let p = lists-fit n rank s.dims h e in
    let u = counts-inv n (list_given s.unreduced) (list_given s.replicated ∷ []) o in
    let v = counts-inv n (list_given s.replicated) [] u.1 in
    let q : list_given s.unreduced ≡ axes_of s.unreduced = list-fits s.unreduced (omega (arith, u.0)) in
    let w : list_given s.replicated ≡ axes_of s.replicated = list-fits s.replicated (omega (arith, v.0)) in
    λ i. record { dims = p i; unreduced = q i; replicated = w i }

module _ (mesh sizes : List ℕ) (n rank : ℕ) (s : code.Sharding) (n_is : length mesh ≡ n) where
  abbrev others : List (List ℕ)
  others = list_given s.unreduced ∷ list_given s.replicated ∷ []

  in_parts : judge_sharding mesh sizes (sharding_given rank s)
      ≡ ◌>>◌ (judge_counts n (dims_given rank s.dims)) (◌>>◌ (judge_counts n others) (judge_start mesh sizes (sharding_given rank s)))
  unfolding judge_sharding
  in_parts = ap (λ (k : ℕ). ◌>>◌ (judge_counts k (dims_given rank s.dims)) (◌>>◌ (judge_counts k others) (judge_start mesh sizes (sharding_given rank s)))) n_is

  pub dims-stop : (r : Refusal) → refused_with r ≡ judge_counts n (dims_given rank s.dims) → refused_with r ≡ judge_sharding mesh sizes (sharding_given rank s)
  dims-stop r e = rw (in_parts, ← e) refl

  module _ (c : accept tt ≡ judge_counts n (dims_given rank s.dims)) where
    pub others-stop : (r : Refusal) → refused_with r ≡ judge_counts n others → refused_with r ≡ judge_sharding mesh sizes (sharding_given rank s)
    others-stop r e = rw (in_parts, ← c, ← e) refl

    pub start-decides : n ≤ most_axes → accept tt ≡ judge_counts n others → judge_start mesh sizes (sharding_of rank s) ≡ judge_sharding mesh sizes (sharding_given rank s)
    start-decides h o = rw (in_parts, ← c, ← o) (ap (judge_start mesh sizes) (sym (sharding-fits n rank s h (sym c) (sym o))))
