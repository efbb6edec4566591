-- Where reading ends: past its start, within the file, and a byte at least for each record. An accepted step runs at most the limit. Assumes nothing.
use Prim.Native.Nat.{ℕ, zero, suc, ◌+◌, ◌*◌, ◌<◌, ◌≤◌}
use mathlib.Core.Path.{◌≡◌, ap, subst}
use mathlib.Core.Bool.{Bool, true, false}
use mathlib.Core.List.{List}
use native.Mathlib.Omega.{arith}
use lib.ListN.{length, get_or, length-append}
use lib.Dec.{ltb, leb, eqb, ltb→lt, leb→le}
use Rattle.rules.specs.Lists.{tab}
use Rattle.rules.specs.Sharding.{Sharding}
use Rattle.rules.specs.Collectives.{Step}
use Rattle.rules.specs.Limits.{most_run}
use Rattle.rules.specs.Refusals.{accept}
use Rattle.rules.specs.PlanFile.{
  Read,
  u16_at,
  order_allowed,
  order_at,
  list_read_at,
  lists_at,
  replicated_at,
  sharding_at,
  lists_of,
  kind_of,
  step_at,
  judge_step,
  StepsRead,
  JudgesStep,
  JudgesSteps,
  steps_at,
  plain_at,
  repeat_at,
  is_repeat,
  item_with,
  too_deep,
  item_at,
  Kind,
  AllSlice,
  AllGather,
  AllReduce,
  AllToAll,
  ReduceScatter,
  Unknown,
}
use Rattle.laws.proofs.Judging.{never, accept-inj, need-inv, bind_inv}
use Rattle.laws.proofs.Turns.{length-times}
use Rattle.laws.proofs.Repeats.{IsRepeat, repeat-inv, positive-inv}

module _ (file : List ℕ) where
  pub order-bytes : (carried : Bool) (n at : ℕ) (o : Read (List ℕ)) → at ≤ length file → order_at carried n file at ≡ accept o → (at ≤ o.next) × (o.next ≤ length file)
  unfolding order_at
  order-bytes true n at o h e =
      let a = need-inv 0 (leb (at + 2 * n) (length file)) 7 _ o e in
      let b = need-inv 0 (order_allowed n (tab n (λ i. u16_at file (at + 2 * i)))) 19 _ o a.1 in
      let z : at + 2 * n ≡ o.next = ap (λ (r : Read (List ℕ)). r.next) (accept-inj b.1) in
      let l : at + 2 * n ≤ length file = leb→le (at + 2 * n) (length file) a.0 in
      (omega arith, omega arith)
  order-bytes false n at o h e = let z : at ≡ o.next = ap (λ (r : Read (List ℕ)). r.next) (accept-inj e) in (omega arith, omega arith)

  list-bytes : (n at : ℕ) (l : Read (List ℕ)) → list_read_at n file at ≡ accept l → (at < l.next) × (l.next ≤ length file)
  unfolding list_read_at
  list-bytes n at l e =
      let a = need-inv 0 (ltb at (length file)) 7 _ l e in
      let b = need-inv 0 (leb (get_or file at 0) n) 8 _ l a.1 in
      let c = need-inv 0 (leb (at + 1 + get_or file at 0) (length file)) 7 _ l b.1 in
      let z : at + 1 + get_or file at 0 ≡ l.next = ap (λ (r : Read (List ℕ)). r.next) (accept-inj c.1) in
      let h : at + 1 + get_or file at 0 ≤ length file = leb→le (at + 1 + get_or file at 0) (length file) c.0 in
      (omega arith, omega arith)

  lists-bytes : (n rank at : ℕ) (l : Read (List (List ℕ))) → at ≤ length file → lists_at n rank file at ≡ accept l → (at ≤ l.next) × (l.next ≤ length file)
  unfolding lists_at
  lists-bytes n zero at l h e = let z : at ≡ l.next = ap (λ (r : Read (List (List ℕ))). r.next) (accept-inj e) in (omega arith, omega arith)
  lists-bytes n (suc rank) at l h e =
      let a = bind_inv (list_read_at n file at) _ l e in
      let b = bind_inv (lists_at n rank file a.0.next) _ l a.2 in
      let x = list-bytes n at a.0 a.1 in
      let y = lists-bytes n rank a.0.next b.0 x.1 b.1 in
      let z : b.0.next ≡ l.next = ap (λ (r : Read (List (List ℕ))). r.next) (accept-inj b.2) in
      (omega (arith, x.0, y.0), omega (arith, y.1))

  replicated-bytes : (carried : Bool) (n at : ℕ) (l : Read (List ℕ)) → at ≤ length file → replicated_at carried n file at ≡ accept l → (at ≤ l.next) × (l.next ≤ length file)
  unfolding replicated_at
  replicated-bytes true n at l h e = let x = list-bytes n at l e in (omega (arith, x.0), x.1)
  replicated-bytes false n at l h e = let z : at ≡ l.next = ap (λ (r : Read (List ℕ)). r.next) (accept-inj e) in (omega arith, omega arith)

  pub sharding-bytes : (carried : Bool) (n rank offset at : ℕ) (s : Read Sharding) → at ≤ length file → sharding_at carried n rank offset file at ≡ accept s
      → (at ≤ s.next) × (s.next ≤ length file)
  unfolding sharding_at
  sharding-bytes carried n rank offset at s h e =
      let o = need-inv 0 (eqb offset at) 6 _ s e in
      let d = bind_inv (lists_at n rank file at) _ s o.1 in
      let u = bind_inv (list_read_at n file d.0.next) _ s d.2 in
      let v = bind_inv (replicated_at carried n file u.0.next) _ s u.2 in
      let x = lists-bytes n rank at d.0 h d.1 in
      let y = list-bytes n d.0.next u.0 u.1 in
      let w = replicated-bytes carried n u.0.next v.0 y.1 v.1 in
      let z : v.0.next ≡ s.next = ap (λ (r : Read Sharding). r.next) (accept-inj v.2) in
      (omega (arith, x.0, y.0, w.0), omega (arith, w.1))

  kind-bytes : (n rank k at : ℕ) (kind : Kind) (t : Read Step) → at ≤ length file → lists_of n rank k file at kind ≡ accept t → (at ≤ t.next) × (t.next ≤ length file)
  unfolding lists_of
  kind-bytes n rank k at AllSlice t h e =
      let a = bind_inv (lists_at n rank file at) _ t e in
      let x = lists-bytes n rank at a.0 h a.1 in
      let z : a.0.next ≡ t.next = ap (λ (r : Read Step). r.next) (accept-inj a.2) in
      (omega (arith, x.0), omega (arith, x.1))
  kind-bytes n rank k at AllGather t h e =
      let a = bind_inv (lists_at n rank file at) _ t e in
      let x = lists-bytes n rank at a.0 h a.1 in
      let z : a.0.next ≡ t.next = ap (λ (r : Read Step). r.next) (accept-inj a.2) in
      (omega (arith, x.0), omega (arith, x.1))
  kind-bytes n rank k at AllReduce t h e =
      let a = bind_inv (list_read_at n file at) _ t e in
      let x = list-bytes n at a.0 a.1 in
      let z : a.0.next ≡ t.next = ap (λ (r : Read Step). r.next) (accept-inj a.2) in
      (omega (arith, x.0), omega (arith, x.1))
  kind-bytes n rank k at AllToAll t h e =
      let q = need-inv 0 (leb (at + 2) (length file)) 7 _ t e in
      let a = bind_inv (list_read_at n file (at + 2)) _ t q.1 in
      let x = list-bytes n (at + 2) a.0 a.1 in
      let z : a.0.next ≡ t.next = ap (λ (r : Read Step). r.next) (accept-inj a.2) in
      (omega (arith, x.0), omega (arith, x.1))
  kind-bytes n rank k at ReduceScatter t h e =
      let a = bind_inv (lists_at n rank file at) _ t e in
      let x = lists-bytes n rank at a.0 h a.1 in
      let z : a.0.next ≡ t.next = ap (λ (r : Read Step). r.next) (accept-inj a.2) in
      (omega (arith, x.0), omega (arith, x.1))
  kind-bytes n rank k at Unknown t h e = absurd (never e)

  pub step-bytes : (n rank k at : ℕ) (t : Read Step) → step_at n rank k file at ≡ accept t → (at < t.next) × (t.next ≤ length file)
  unfolding step_at
  step-bytes n rank k at t e =
      let a = need-inv 0 (ltb at (length file)) 7 _ t e in
      let h : at < length file = ltb→lt at (length file) a.0 in
      let x = kind-bytes n rank k (at + 1) (kind_of (get_or file at 0)) t (omega arith) a.1 in
      (omega (arith, x.0), x.1)

-- what an accepted step takes of the file, and how much it runs
module _ (mesh sizes file : List ℕ) where
  pub record Takes (at : ℕ) (w : StepsRead) : Type 0 where
    pub bytes : at + length w.records ≤ w.next
    pub some : 0 < length w.records
    pub inside : w.next ≤ length file
    pub few : length w.steps ≤ most_run

  -- and a row of so many
  pub record TakesAll (at count : ℕ) (w : StepsRead) : Type 0 where
    pub bytes : at + length w.records ≤ w.next
    pub inside : w.next ≤ length file
    pub few : length w.steps ≤ count * most_run

  abbrev pub Taking : JudgesStep → Type 0
  Taking one = (k at : ℕ) (s : Sharding) (w : StepsRead) → one k at s ≡ accept w → Takes at w

  abbrev pub TakingAll : JudgesSteps → Type 0
  TakingAll row = (count k at : ℕ) (s : Sharding) (w : StepsRead) → at ≤ length file → row count k at s ≡ accept w → TakesAll at count w

  pub steps-take : (one : JudgesStep) → Taking one → TakingAll (steps_at one)
  unfolding steps_at
  steps-take one g zero k at s w h e = subst (TakesAll at 0) (accept-inj e) (record { bytes = omega arith; inside = h; few = omega arith })
  steps-take one g (suc count) k at s w h e =
      let t = bind_inv (one k at s) _ w e in
      let u = bind_inv (steps_at one count (k + length t.0.records) t.0.next t.0.sharding) _ w t.2 in
      let a : Takes at t.0 = g k at s t.0 t.1 in
      let b : TakesAll t.0.next count u.0 = steps-take one g count (k + length t.0.records) t.0.next t.0.sharding u.0 a.inside u.1 in
      subst (TakesAll at (suc count)) (accept-inj u.2) (record {
        bytes = omega (arith, length-append t.0.records u.0.records, a.bytes, b.bytes);
        inside = b.inside;
        few = omega (arith, length-append t.0.steps u.0.steps, a.few, b.few);
      })

  pub plain-takes : Taking (plain_at mesh sizes file)
  unfolding plain_at
  plain-takes k at s w e =
      let p = bind_inv (step_at (length mesh) (length sizes) k file at) _ w e in
      let q = bind_inv (judge_step mesh sizes k p.0.value s) _ w p.2 in
      let x = step-bytes file (length mesh) (length sizes) k at p.0 p.1 in
      subst (Takes at) (accept-inj q.2) (record { bytes = omega (arith, x.0); some = omega arith; inside = x.1; few = omega arith })

  pub repeat-takes : (inner : JudgesSteps) → TakingAll inner → (k at : ℕ) (s : Sharding) (w : StepsRead) → repeat_at inner file k (at + 1) s ≡ accept w → Takes at w
  repeat-takes inner g k at s w e =
      let h : IsRepeat mesh sizes file inner k (at + 1) s w = repeat-inv mesh sizes file inner k (at + 1) s w e in
      let l : at + 1 + 1 < length file = (positive-inv mesh sizes file k (at + 1 + 1) h.number h.number_is).0 in
      let b : TakesAll (at + 1 + 2) h.number h.block = g h.number (k + 1) (at + 1 + 2) s h.block (omega arith) h.block_is in
      subst (Takes at) h.whole (record {
        bytes = omega (arith, b.bytes);
        some = omega arith;
        inside = b.inside;
        few = omega (arith, length-times h.count h.block.steps, h.few);
      })

  by-takes : (b : Bool) (inner : JudgesSteps) → TakingAll inner → Taking (item_with b inner mesh sizes file)
  unfolding item_with
  by-takes false inner g k at s w e = plain-takes k at s w e
  by-takes true inner g k at s w e = repeat-takes inner g k at s w e

  pub item-takes : (known : ℕ → Bool) (depth : ℕ) → Taking (item_at known mesh sizes file depth)
  unfolding item_at
  item-takes known zero k at s w e =
      by-takes (is_repeat file at) (too_deep k) (λ count k' at' s' w' h e'. absurd (never e')) k at s w (need-inv k (known (get_or file at 0)) 20 _ w e).1
  item-takes known (suc depth) k at s w e =
      by-takes (is_repeat file at) (steps_at (item_at known mesh sizes file depth)) (steps-take (item_at known mesh sizes file depth) (item-takes known depth)) k at s w
      (need-inv k (known (get_or file at 0)) 20 _ w e).1
