-- Step numbers: a refusal's is at most that of the kind byte at the file's end (`outermost-within`), so a file's steps keep their refusals where numbers
-- end (`all-numbered`); a plan that is accepted has no more than so many records (`outermost-few`); a step is judged alike under every number
-- (`step-renumbered`). Assumes nothing.
use Prim.Native.Nat.{ℕ, zero, suc, ◌+◌, ◌-◌, ◌*◌, ◌≤◌, ◌<◌}
use mathlib.Core.Path.{◌≡◌, refl, sym, ap, ap₂, ◌∙◌, subst}
use mathlib.Core.Bool.{Bool, true, false}
use mathlib.Core.List.{List, [], ◌++◌}
use native.Mathlib.Omega.{arith}
use native.Mathlib.Nat.{mul-le-mul}
use lib.ListN.{length, get_or, replicate, length-append}
use lib.Dec.{ltb, leb, leb→le}
use Rattle.rules.specs.Lists.{flat, both, pick}
use Rattle.rules.specs.Sharding.{Sharding, named, divisible, shard_sizes}
use Rattle.rules.specs.Collectives.{Step, all_slice, all_gather, all_reduce, all_to_all, reduce_scatter, step_axes, only, sliced, gathered, reduced}
use Rattle.rules.specs.Limits.{most_run, most_depth}
use Rattle.rules.specs.Refusals.{Judged, accept, refuse, ◌>>=◌, ◌>>◌, need, need_at}
use Rattle.rules.specs.PlanFile.{
  list_read_at,
  lists_at,
  kind_of,
  lists_of,
  step_at,
  some,
  all_below,
  fresh,
  is_tail,
  increasing_from,
  none_in,
  all_in,
  two_dims,
  gather_off,
  slice_on,
  judge_kind,
  judge_step,
  StepsRead,
  JudgesStep,
  JudgesSteps,
  steps_at,
  plain_at,
  positive_at,
  same_sharding,
  repeat_at,
  is_repeat,
  item_with,
  too_deep,
  item_at,
  Outermost,
  outermost_at,
  Kind,
  AllSlice,
  AllGather,
  AllReduce,
  AllToAll,
  ReduceScatter,
  Unknown,
}
use Rattle.laws.proofs.Judging.{never, accept-inj, need-inv, bind_inv}
use Rattle.laws.proofs.Turns.{length-times}
use Rattle.laws.proofs.Bytes.{Takes, item-takes}
use Rattle.laws.proofs.Repeats.{IsRepeat, repeat-inv, positive-inv}
use Rattle.records.specs.Writing.{most_records, step_numbered}
use Rattle.records.proofs.Lists.{is_le}

-- ---- a refusal's step is at most so much

pub record Within {A : Type 0} (m : ℕ) (j : Judged A) : Type 0 where
  pub bound : (n k : ℕ) → j ≡ refuse n k → k ≤ m

number_is : {A : Type 0} {a b c d : ℕ} → ◌≡◌ {A = Judged A} (refuse a b) (refuse c d) → a ≡ c
number_is e = cc

step_is : {A : Type 0} {a b c d : ℕ} → ◌≡◌ {A = Judged A} (refuse a b) (refuse c d) → b ≡ d
step_is e = cc

-- a refusal is of no value, so of any
pub of-any : {A B : Type 0} {a b c d : ℕ} → ◌≡◌ {A = Judged A} (refuse a b) (refuse c d) → ◌≡◌ {A = Judged B} (refuse a b) (refuse c d)
of-any e = ap₂ refuse (number_is e) (step_is e)

accept-within : {A : Type 0} (m : ℕ) (a : A) → Within m (accept a)
accept-within m a = record { bound = λ n k e. absurd (never (sym e)) }

refuse-within : {A : Type 0} (m n k : ℕ) → k ≤ m → Within {A = A} m (refuse n k)
refuse-within m n k h = record { bound = λ n' k' e. subst (λ (z : ℕ). z ≤ m) (step_is e) h }

need-within : (m k : ℕ) (b : Bool) (n : ℕ) → k ≤ m → Within m (need_at k b n)
need-within m k true n h = accept-within m tt
need-within m k false n h = refuse-within m n k h

then-within : {A B : Type 0} (m : ℕ) (j : Judged A) (l : Judged B) → Within m j → Within m l → Within m (◌>>◌ j l)
then-within m (accept a) l h g = g
then-within m (refuse n k) l h g = refuse-within m n k (h.bound n k refl)

bind-within : {A B : Type 0} (m : ℕ) (j : Judged A) (f : A → Judged B) → Within m j → ((a : A) → j ≡ accept a → Within m (f a)) → Within m (◌>>=◌ j f)
bind-within m (accept a) f h g = g a refl
bind-within m (refuse n k) f h g = refuse-within m n k (h.bound n k refl)

wider : {A : Type 0} {m l : ℕ} (j : Judged A) → m ≤ l → Within m j → Within l j
wider j h g = record { bound = λ n k e. omega (arith, g.bound n k e) }

pub all-numbered : {A : Type 0} (m : ℕ) (j : Judged A) → m ≤ most_records → Within m j → step_numbered j ≡ j
all-numbered m (accept a) h g = refl
all-numbered m (refuse n k) h g = ap (λ (b : Bool). pick b (refuse n k) (refuse 2 0)) (is_le k most_records (omega (arith, g.bound n k refl)))

-- an accepted judgement, and a refused one of which another's refusal comes
pub numbered-on : {A : Type 0} (j : Judged A) {a : A} → step_numbered j ≡ accept a → j ≡ accept a
numbered-on (accept b) e = e
numbered-on (refuse n k) e = go (leb k most_records) e
  where
    go : {A : Type 0} {a : A} (b : Bool) → pick b (refuse n k) (refuse 2 0) ≡ accept a → refuse n k ≡ accept a
    go true e = e
    go false e = absurd (never e)

pub numbered-stops : {A B : Type 0} (j : Judged A) (l : Judged B) → ((n k : ℕ) → j ≡ refuse n k → l ≡ refuse n k)
    → {n k : ℕ} → step_numbered j ≡ refuse n k → step_numbered l ≡ refuse n k
numbered-stops (accept a) l h e = absurd (never (sym e))
numbered-stops (refuse n k) l h e = ap step_numbered (h n k refl) ∙ go (leb k most_records) e
  where
    go : {A B : Type 0} {m i : ℕ} (b : Bool) → ◌≡◌ {A = Judged A} (pick b (refuse n k) (refuse 2 0)) (refuse m i)
        → ◌≡◌ {A = Judged B} (pick b (refuse n k) (refuse 2 0)) (refuse m i)
    go true e = of-any e
    go false e = of-any e

-- ---- a step is judged alike under every number

abbrev pub renumbered : {A : Type 0} → ℕ → Judged A → Judged A
renumbered k (accept a) = accept a
renumbered k (refuse n b) = refuse n k

renumbered-within : {A : Type 0} (k : ℕ) (j : Judged A) → Within k (renumbered k j)
renumbered-within k (accept a) = accept-within k a
renumbered-within k (refuse n b) = refuse-within k n k (omega arith)

re-bind : {A B : Type 0} (k : ℕ) (j : Judged A) (f g : A → Judged B) → ((a : A) → f a ≡ renumbered k (g a)) → ◌>>=◌ (renumbered k j) f ≡ renumbered k (◌>>=◌ j g)
re-bind k (accept a) f g h = h a
re-bind k (refuse n b) f g h = refl

module _ (mesh sizes : List ℕ) (k : ℕ) where
  -- a test, then the rest
  tested : {A : Type 0} (b : Bool) (n : ℕ) (j l : Judged A) → j ≡ renumbered k l → ◌>>◌ (need_at k b n) j ≡ renumbered k (◌>>◌ (need_at 0 b n) l)
  tested true n j l e = e
  tested false n j l e = refl

  gather-renumbered : (Gs : List (List ℕ)) (s : Sharding) → gather_off k Gs s ≡ renumbered k (gather_off 0 Gs s)
  unfolding gather_off
  gather-renumbered Gs s = tested (both is_tail s.dims Gs) 24 (accept (gathered Gs s)) (accept (gathered Gs s)) refl

  slice-renumbered : (Ss : List (List ℕ)) (s : Sharding) → slice_on mesh sizes k Ss s ≡ renumbered k (slice_on mesh sizes 0 Ss s)
  unfolding slice_on
  slice-renumbered Ss s = tested (divisible mesh (shard_sizes mesh sizes s.dims) Ss) 25 (accept (sliced Ss s)) (accept (sliced Ss s)) refl

  kind-renumbered : (t : Step) (s : Sharding) → judge_kind mesh sizes k t s ≡ renumbered k (judge_kind mesh sizes 0 t s)
  unfolding judge_kind
  kind-renumbered (all_slice Ss) s = tested (fresh (named s) (flat Ss)) 23 _ (slice_on mesh sizes 0 Ss s) (slice-renumbered Ss s)
  kind-renumbered (all_gather Gs) s = gather-renumbered Gs s
  kind-renumbered (all_reduce L) s =
      let free : Bool = none_in L (flat s.dims ++ s.replicated) in
      tested (increasing_from 0 L) 26 _ (◌>>◌ (need_at 0 free 27) (accept (reduced L s)))
      (tested free 27 (accept (reduced L s)) (accept (reduced L s)) refl)
  kind-renumbered (all_to_all source target L) s =
      let Gs : List (List ℕ) = only (length s.dims) source L in
      let Ss : List (List ℕ) = only (length s.dims) target L in
      tested (two_dims (length s.dims) source target) 28 _ (◌>>=◌ (gather_off 0 Gs s) (slice_on mesh sizes 0 Ss))
      (ap (λ (j : Judged Sharding). ◌>>=◌ j (slice_on mesh sizes k Ss)) (gather-renumbered Gs s)
      ∙ re-bind k (gather_off 0 Gs s) (slice_on mesh sizes k Ss) (slice_on mesh sizes 0 Ss) (λ g. slice-renumbered Ss g))
  kind-renumbered (reduce_scatter Ss) s =
      let r : Sharding = reduced (flat Ss) s in
      tested (fresh [] (flat Ss)) 23 _ (◌>>◌ (need_at 0 (all_in (flat Ss) s.unreduced) 27) (slice_on mesh sizes 0 Ss r))
      (tested (all_in (flat Ss) s.unreduced) 27 _ (slice_on mesh sizes 0 Ss r) (slice-renumbered Ss r))

  pub step-renumbered : (t : Step) (s : Sharding) → judge_step mesh sizes k t s ≡ renumbered k (judge_step mesh sizes 0 t s)
  unfolding judge_step
  step-renumbered t s = go (some (step_axes t)) (all_below (length mesh) (step_axes t))
    where
      go : (b c : Bool) → ◌>>◌ (◌>>◌ (need_at k b 21) (need_at k c 22)) (judge_kind mesh sizes k t s)
          ≡ renumbered k (◌>>◌ (◌>>◌ (need_at 0 b 21) (need_at 0 c 22)) (judge_kind mesh sizes 0 t s))
      go true true = kind-renumbered t s
      go true false = refl
      go false c = refl

  judged-within : (t : Step) (s : Sharding) → Within k (judge_step mesh sizes k t s)
  judged-within t s = subst (Within k) (sym (step-renumbered t s)) (renumbered-within k (judge_step mesh sizes 0 t s))

-- ---- what is read has its number or none

module _ (mesh sizes file : List ℕ) where
  list-within : (k n at : ℕ) → Within k (list_read_at n file at)
  unfolding list_read_at
  list-within k n at =
      let b : Bool = ltb at (length file) in
      let c : Bool = leb (get_or file at 0) n in
      let d : Bool = leb (at + 1 + get_or file at 0) (length file) in
      then-within k (need b 7) _ (need-within k 0 b 7 (omega arith))
      (then-within k (need c 8) _ (need-within k 0 c 8 (omega arith)) (then-within k (need d 7) _ (need-within k 0 d 7 (omega arith)) (accept-within k _)))

  lists-within : (k n rank at : ℕ) → Within k (lists_at n rank file at)
  unfolding lists_at
  lists-within k n zero at = accept-within k _
  lists-within k n (suc rank) at =
      bind-within k (list_read_at n file at) _ (list-within k n at) (λ l e.
      bind-within k (lists_at n rank file l.next) _ (lists-within k n rank l.next) (λ ls f. accept-within k _))

  of-within : (k n rank at : ℕ) (kind : Kind) → Within k (lists_of n rank k file at kind)
  unfolding lists_of
  of-within k n rank at AllSlice = bind-within k (lists_at n rank file at) _ (lists-within k n rank at) (λ ls e. accept-within k _)
  of-within k n rank at AllGather = bind-within k (lists_at n rank file at) _ (lists-within k n rank at) (λ ls e. accept-within k _)
  of-within k n rank at AllReduce = bind-within k (list_read_at n file at) _ (list-within k n at) (λ l e. accept-within k _)
  of-within k n rank at AllToAll =
      then-within k (need (leb (at + 2) (length file)) 7) _ (need-within k 0 (leb (at + 2) (length file)) 7 (omega arith))
      (bind-within k (list_read_at n file (at + 2)) _ (list-within k n (at + 2)) (λ l e. accept-within k _))
  of-within k n rank at ReduceScatter = bind-within k (lists_at n rank file at) _ (lists-within k n rank at) (λ ls e. accept-within k _)
  of-within k n rank at Unknown = refuse-within k 20 k (omega arith)

  plain-within : (k at : ℕ) (s : Sharding) → Within k (plain_at mesh sizes file k at s)
  unfolding plain_at step_at
  plain-within k at s =
      bind-within k (step_at (length mesh) (length sizes) k file at) _
      (then-within k (need (ltb at (length file)) 7) _ (need-within k 0 (ltb at (length file)) 7 (omega arith))
      (of-within k (length mesh) (length sizes) (at + 1) (kind_of (get_or file at 0))))
      (λ t e. bind-within k (judge_step mesh sizes k t.value s) _ (judged-within mesh sizes k t.value s) (λ r f. accept-within k _))

  positive-within : (k at : ℕ) → Within k (positive_at k file at)
  unfolding positive_at
  positive-within k at =
      then-within k (need (ltb at (length file)) 7) _ (need-within k 0 (ltb at (length file)) 7 (omega arith))
      (then-within k (need_at k (ltb 0 (get_or file at 0)) 44) _ (need-within k k (ltb 0 (get_or file at 0)) 44 (omega arith)) (accept-within k _))

  -- ---- the kind bytes from a place on are no more than the bytes there

  abbrev Bounded : JudgesStep → Type 0
  Bounded one = (k at : ℕ) (s : Sharding) → at ≤ length file → Within (k + (length file - at)) (one k at s)

  steps-within : (one : JudgesStep) → Bounded one → ((k at : ℕ) (s : Sharding) (w : StepsRead) → one k at s ≡ accept w → Takes mesh sizes file at w)
      → (count : ℕ) → Bounded (steps_at one count)
  unfolding steps_at
  steps-within one g t zero k at s h = accept-within _ _
  steps-within one g t (suc count) k at s h =
      bind-within (k + (length file - at)) (one k at s) _ (g k at s h) (λ w e.
      let x : Takes mesh sizes file at w = t k at s w e in
      let ws : Judged StepsRead = steps_at one count (k + length w.records) w.next w.sharding in
      bind-within (k + (length file - at)) ws _
      (wider ws (omega (arith, x.bytes, x.inside)) (steps-within one g t count (k + length w.records) w.next w.sharding x.inside))
      (λ o f. accept-within _ _))

  -- what is inside the repeat with number k
  abbrev Inside : ℕ → JudgesSteps → Type 0
  Inside k inner = (count at : ℕ) (s : Sharding) → at ≤ length file → Within (k + 1 + (length file - at)) (inner count (k + 1) at s)

  repeat-within : (inner : JudgesSteps) (k at : ℕ) (s : Sharding) → Inside k inner → Within (k + (length file - at)) (repeat_at inner file k (at + 1) s)
  unfolding repeat_at
  repeat-within inner k at s g =
      let m : ℕ = k + (length file - at) in
      let h : k ≤ m = omega arith in
      bind-within m (positive_at k file (at + 1)) _ (wider (positive_at k file (at + 1)) h (positive-within k (at + 1))) (λ count e.
      bind-within m (positive_at k file (at + 1 + 1)) _ (wider (positive_at k file (at + 1 + 1)) h (positive-within k (at + 1 + 1))) (λ number f.
      let l : at + 1 + 1 < length file = (positive-inv mesh sizes file k (at + 1 + 1) number f).0 in
      bind-within m (inner number (k + 1) (at + 1 + 2) s) _ (wider (inner number (k + 1) (at + 1 + 2) s) (omega arith) (g number (at + 1 + 2) s (omega arith))) (λ block q.
      let a : Bool = same_sharding block.sharding s in
      let b : Bool = leb (count * length block.steps) most_run in
      then-within m (need_at k a 41) _ (need-within m k a 41 h) (then-within m (need_at k b 43) _ (need-within m k b 43 h) (accept-within m _)))))

  by-within : (b : Bool) (inner : JudgesSteps) (k at : ℕ) (s : Sharding) → Inside k inner → Within (k + (length file - at)) (item_with b inner mesh sizes file k at s)
  unfolding item_with
  by-within false inner k at s g = wider (plain_at mesh sizes file k at s) (omega arith) (plain-within k at s)
  by-within true inner k at s g = repeat-within inner k at s g

  known-within : {A : Type 0} (known : ℕ → Bool) (k at : ℕ) (j : Judged A) → Within (k + (length file - at)) j
      → Within (k + (length file - at)) (◌>>◌ (need_at k (known (get_or file at 0)) 20) j)
  known-within known k at j g =
      let b : Bool = known (get_or file at 0) in
      then-within (k + (length file - at)) (need_at k b 20) j (need-within (k + (length file - at)) k b 20 (omega arith)) g

  item-within : (known : ℕ → Bool) (depth : ℕ) → Bounded (item_at known mesh sizes file depth)
  unfolding item_at
  item-within known zero k at s h =
      known-within known k at _ (by-within (is_repeat file at) (too_deep k) k at s (λ count at' s' h'. refuse-within _ 42 k (omega arith)))
  item-within known (suc depth) k at s h =
      known-within known k at _ (by-within (is_repeat file at) (steps_at (item_at known mesh sizes file depth)) k at s (λ count at' s' h'.
      steps-within (item_at known mesh sizes file depth) (item-within known depth) (item-takes mesh sizes file known depth) count (k + 1) at' s' h'))

  pub outermost-within : (known : ℕ → Bool) (ran count k at : ℕ) (s : Sharding) → at ≤ length file
      → Within (k + (length file - at)) (outermost_at known mesh sizes file ran count k at s)
  unfolding outermost_at
  outermost-within known ran zero k at s h = accept-within _ _
  outermost-within known ran (suc count) k at s h =
      let m : ℕ = k + (length file - at) in
      bind-within m (item_at known mesh sizes file most_depth k at s) _ (item-within known most_depth k at s h) (λ w e.
      let x : Takes mesh sizes file at w = item-takes mesh sizes file known most_depth k at s w e in
      let b : Bool = leb (ran + length w.steps) most_run in
      let ws : Judged Outermost = outermost_at known mesh sizes file (ran + length w.steps) count (k + length w.records) w.next w.sharding in
      then-within m (need_at k b 43) _ (need-within m k b 43 (omega arith)) (bind-within m ws _
      (wider ws (omega (arith, x.bytes, x.inside)) (outermost-within known (ran + length w.steps) count (k + length w.records) w.next w.sharding x.inside))
      (λ o f. accept-within m _)))

  -- ---- every block has a plain step, so records that nest so deep are no more than so many for each plain step run

  abbrev deep : ℕ → ℕ → ℕ
  deep zero n = n
  deep (suc d) n = n + deep d n

  deep-add : (d m n : ℕ) → deep d (m + n) ≡ deep d m + deep d n
  deep-add zero m n = refl
  deep-add (suc d) m n = omega (arith, deep-add d m n)

  deep-le : (d m n : ℕ) → m ≤ n → deep d m ≤ deep d n
  deep-le zero m n h = h
  deep-le (suc d) m n h = omega (arith, deep-le d m n h)

  pub record Few (d count : ℕ) (w : StepsRead) : Type 0 where
    pub some : count ≤ length w.steps
    pub few : length w.records ≤ deep d (length w.steps)

  steps_few : (d : ℕ) (one : JudgesStep) → ((k at : ℕ) (s : Sharding) (w : StepsRead) → one k at s ≡ accept w → Few d 1 w)
      → (count k at : ℕ) (s : Sharding) (w : StepsRead) → steps_at one count k at s ≡ accept w → Few d count w
  unfolding steps_at
  steps_few d one g zero k at s w e = subst (Few d 0) (accept-inj e) (record { some = omega arith; few = omega arith })
  steps_few d one g (suc count) k at s w e =
      let t = bind_inv (one k at s) _ w e in
      let u = bind_inv (steps_at one count (k + length t.0.records) t.0.next t.0.sharding) _ w t.2 in
      let a : Few d 1 t.0 = g k at s t.0 t.1 in
      let b : Few d count u.0 = steps_few d one g count (k + length t.0.records) t.0.next t.0.sharding u.0 u.1 in
      let n : length (t.0.steps ++ u.0.steps) ≡ length t.0.steps + length u.0.steps = length-append t.0.steps u.0.steps in
      let z : deep d (length (t.0.steps ++ u.0.steps)) ≡ deep d (length t.0.steps) + deep d (length u.0.steps) =
      ap (deep d) n ∙ deep-add d (length t.0.steps) (length u.0.steps) in
      subst (Few d (suc count)) (accept-inj u.2) (record {
        some = omega (arith, n, a.some, b.some);
        few = omega (arith, z, length-append t.0.records u.0.records, a.few, b.few);
      })

  plain-few : (d k at : ℕ) (s : Sharding) (w : StepsRead) → plain_at mesh sizes file k at s ≡ accept w → Few d 1 w
  unfolding plain_at
  plain-few d k at s w e =
      let p = bind_inv (step_at (length mesh) (length sizes) k file at) _ w e in
      let q = bind_inv (judge_step mesh sizes k p.0.value s) _ w p.2 in
      subst (Few d 1) (accept-inj q.2) (record { some = omega arith; few = one d })
    where
      one : (d : ℕ) → 1 ≤ deep d 1
      one zero = omega arith
      one (suc d) = omega arith

  repeat-few : (d : ℕ) (inner : JudgesSteps) → ((count k at : ℕ) (s : Sharding) (w : StepsRead) → inner count k at s ≡ accept w → Few d count w)
      → (k at : ℕ) (s : Sharding) (w : StepsRead) → repeat_at inner file k at s ≡ accept w → Few (suc d) 1 w
  repeat-few d inner g k at s w e =
      let h : IsRepeat mesh sizes file inner k at s w = repeat-inv mesh sizes file inner k at s w e in
      let n : ℕ = length h.block.steps in
      let b : Few d h.number h.block = g h.number (k + 1) (at + 2) s h.block h.block_is in
      let l = length-times h.count h.block.steps in
      let m : 1 * n ≤ h.count * n = mul-le-mul {n₁ = 1} {m₁ = n} {n₂ = h.count} {m₂ = n} h.count_pos (omega arith) in
      let z : deep (suc d) n ≤ deep (suc d) (length (flat (replicate h.count h.block.steps))) = deep-le (suc d) n _ (omega (arith, l, m)) in
      subst (Few (suc d) 1) h.whole (record {
        some = omega (arith, l, m, b.some, h.number-pos);
        few = omega (arith, z, b.few, b.some, h.number-pos);
      })

  by-few : (d : ℕ) (b : Bool) (inner : JudgesSteps) → ((count k at : ℕ) (s : Sharding) (w : StepsRead) → inner count k at s ≡ accept w → Few d count w)
      → (k at : ℕ) (s : Sharding) (w : StepsRead) → item_with b inner mesh sizes file k at s ≡ accept w → Few (suc d) 1 w
  unfolding item_with
  by-few d false inner g k at s w e = plain-few (suc d) k at s w e
  by-few d true inner g k at s w e = repeat-few d inner g k (at + 1) s w e

  item-few : (known : ℕ → Bool) (depth k at : ℕ) (s : Sharding) (w : StepsRead) → item_at known mesh sizes file depth k at s ≡ accept w → Few depth 1 w
  unfolding item_at
  item-few known zero k at s w e = go (is_repeat file at) (need-inv k (known (get_or file at 0)) 20 _ w e).1
    where
      go : (b : Bool) → item_with b (too_deep k) mesh sizes file k at s ≡ accept w → Few zero 1 w
      go false q = plain-few zero k at s w q
      go true q = absurd (never (repeat-inv mesh sizes file (too_deep k) k (at + 1) s w q).block_is)
  item-few known (suc depth) k at s w e =
      by-few depth (is_repeat file at) (steps_at (item_at known mesh sizes file depth)) (steps_few depth (item_at known mesh sizes file depth) (item-few known depth))
      k at s w (need-inv k (known (get_or file at 0)) 20 _ w e).1

  outermost-deep : (known : ℕ → Bool) (ran count k at : ℕ) (s : Sharding) (o : Outermost) → ran ≤ most_run → outermost_at known mesh sizes file ran count k at s ≡ accept o
      → (length o.records ≤ deep most_depth (length o.steps)) × (ran + length o.steps ≤ most_run)
  unfolding outermost_at
  outermost-deep known ran zero k at s o r e =
      subst (λ (o : Outermost). (length o.records ≤ deep most_depth (length o.steps)) × (ran + length o.steps ≤ most_run)) (accept-inj e)
      (omega arith, omega arith)
  outermost-deep known ran (suc count) k at s o r e =
      let t = bind_inv (item_at known mesh sizes file most_depth k at s) _ o e in
      let n = need-inv k (leb (ran + length t.0.steps) most_run) 43 _ o t.2 in
      let u = bind_inv (outermost_at known mesh sizes file (ran + length t.0.steps) count (k + length t.0.records) t.0.next t.0.sharding) _ o n.1 in
      let a : Few most_depth 1 t.0 = item-few known most_depth k at s t.0 t.1 in
      let l : ran + length t.0.steps ≤ most_run = leb→le _ most_run n.0 in
      let b = outermost-deep known (ran + length t.0.steps) count (k + length t.0.records) t.0.next t.0.sharding u.0 l u.1 in
      let m = length-append t.0.steps u.0.steps in
      let x = length-append t.0.records u.0.records in
      subst (λ (o : Outermost). (length o.records ≤ deep most_depth (length o.steps)) × (ran + length o.steps ≤ most_run)) (accept-inj u.2)
      (omega (arith, m, x, a.few, b.0), omega (arith, m, b.1))

  -- AN ACCEPTED PLAN HAS NO MORE RECORDS THAN HAVE NUMBERS
  pub outermost-few : (known : ℕ → Bool) (count k at : ℕ) (s : Sharding) (o : Outermost) → outermost_at known mesh sizes file 0 count k at s ≡ accept o
      → length o.records ≤ most_records
  outermost-few known count k at s o e = let d = outermost-deep known 0 count k at s o (omega arith) e in omega (arith, d.0, d.1)
