-- What is read has no more axes in a list than there are places, for 8 is given otherwise (`outermost-short`, `counts-short`), and the other way (`short-counts`). Assumes nothing.
use Prim.Native.Nat.{ℕ, zero, suc, ◌+◌, ◌≤◌}
use mathlib.Core.Bool.{Bool, true, false}
use mathlib.Core.Path.{◌≡◌, refl, ap, subst}
use mathlib.Core.List.{List, [], ◌∷◌, ◌++◌}
use native.Mathlib.Omega.{arith}
use lib.Dec.{leb, leb→le, ltb}
use lib.ListN.{length, get_or, take, drop, length-take}
use Rattle.rules.specs.Limits.{most_axes, most_depth}
use Rattle.rules.specs.Sharding.{Sharding}
use Rattle.rules.specs.Collectives.{Step}
use Rattle.rules.specs.Refusals.{accept}
use Rattle.rules.specs.PlanFile.{
  Read,
  list_read_at,
  lists_at,
  lists_of,
  kind_of,
  step_at,
  judge_step,
  Record,
  StepsRead,
  JudgesStep,
  JudgesSteps,
  steps_at,
  plain_at,
  repeat_at,
  is_repeat,
  item_with,
  too_deep,
  item_at,
  Outermost,
  outermost_at,
  Kind,
  AllSlice,
  AllGather,
  AllReduce,
  AllToAll,
  ReduceScatter,
  Unknown,
}
use Rattle.laws.proofs.Judging.{never, accept-inj, need-inv, bind_inv}
use Rattle.laws.proofs.Repeats.{IsRepeat, repeat-inv, read_by, outermost-steps}
use Rattle.records.specs.Writing.{judge_counts}
use Rattle.records.specs.RoundTrip.{ShortLists, ShortStep, AllShort}
use Rattle.records.proofs.Lists.{is_le}

short-cons : (l : List ℕ) (ls : List (List ℕ)) → length l ≤ most_axes → ShortLists ls → ShortLists (l ∷ ls)
short-cons l ls h g zero = h
short-cons l ls h g (suc d) = g d

short-append : (l m : List Record) → AllShort l → AllShort m → AllShort (l ++ m)
short-append [] m h g = g
short-append (r ∷ l) m h g = (h.0, short-append l m h.1 g)

module _ (mesh sizes file : List ℕ) (few : length mesh ≤ most_axes) where
  list-short : (at : ℕ) (l : Read (List ℕ)) → list_read_at (length mesh) file at ≡ accept l → length l.value ≤ most_axes
  unfolding list_read_at
  list-short at l e =
      let a = need-inv 0 (ltb at (length file)) 7 _ l e in
      let b = need-inv 0 (leb (get_or file at 0) (length mesh)) 8 _ l a.1 in
      let c = need-inv 0 (leb (at + 1 + get_or file at 0) (length file)) 7 _ l b.1 in
      let z : length (take (get_or file at 0) (drop (at + 1) file)) ≡ length l.value = ap (λ (r : Read (List ℕ)). length r.value) (accept-inj c.1) in
      omega (arith, z, length-take (get_or file at 0) (drop (at + 1) file), leb→le (get_or file at 0) (length mesh) b.0, few)

  lists-short : (rank at : ℕ) (l : Read (List (List ℕ))) → lists_at (length mesh) rank file at ≡ accept l → ShortLists l.value
  unfolding lists_at
  lists-short zero at l e = subst (λ (r : Read (List (List ℕ))). ShortLists r.value) (accept-inj e) (λ d. omega arith)
  lists-short (suc rank) at l e =
      let a = bind_inv (list_read_at (length mesh) file at) _ l e in
      let b = bind_inv (lists_at (length mesh) rank file a.0.next) _ l a.2 in
      subst (λ (r : Read (List (List ℕ))). ShortLists r.value) (accept-inj b.2)
      (short-cons a.0.value b.0.value (list-short at a.0 a.1) (lists-short rank a.0.next b.0 b.1))

  kind-short : (rank k at : ℕ) (kind : Kind) (t : Read Step) → lists_of (length mesh) rank k file at kind ≡ accept t → ShortStep t.value
  unfolding lists_of
  kind-short rank k at AllSlice t e =
      let a = bind_inv (lists_at (length mesh) rank file at) _ t e in
      subst (λ (r : Read Step). ShortStep r.value) (accept-inj a.2) (lists-short rank at a.0 a.1)
  kind-short rank k at AllGather t e =
      let a = bind_inv (lists_at (length mesh) rank file at) _ t e in
      subst (λ (r : Read Step). ShortStep r.value) (accept-inj a.2) (lists-short rank at a.0 a.1)
  kind-short rank k at AllReduce t e =
      let a = bind_inv (list_read_at (length mesh) file at) _ t e in
      subst (λ (r : Read Step). ShortStep r.value) (accept-inj a.2) (list-short at a.0 a.1)
  kind-short rank k at AllToAll t e =
      let q = need-inv 0 (leb (at + 2) (length file)) 7 _ t e in
      let a = bind_inv (list_read_at (length mesh) file (at + 2)) _ t q.1 in
      subst (λ (r : Read Step). ShortStep r.value) (accept-inj a.2) (list-short (at + 2) a.0 a.1)
  kind-short rank k at ReduceScatter t e =
      let a = bind_inv (lists_at (length mesh) rank file at) _ t e in
      subst (λ (r : Read Step). ShortStep r.value) (accept-inj a.2) (lists-short rank at a.0 a.1)
  kind-short rank k at Unknown t e = absurd (never e)

  step-short : (rank k at : ℕ) (t : Read Step) → step_at (length mesh) rank k file at ≡ accept t → ShortStep t.value
  unfolding step_at
  step-short rank k at t e =
      kind-short rank k (at + 1) (kind_of (get_or file at 0)) t (need-inv 0 (ltb at (length file)) 7 _ t e).1

  abbrev Shortens : JudgesStep → Type 0
  Shortens one = (k at : ℕ) (s : Sharding) (w : StepsRead) → one k at s ≡ accept w → AllShort w.records

  steps-short : (one : JudgesStep) → Shortens one → (count : ℕ) → Shortens (steps_at one count)
  unfolding steps_at
  steps-short one g zero k at s w e = subst (λ (z : StepsRead). AllShort z.records) (accept-inj e) tt
  steps-short one g (suc count) k at s w e =
      let t = bind_inv (one k at s) _ w e in
      let u = bind_inv (steps_at one count (k + length t.0.records) t.0.next t.0.sharding) _ w t.2 in
      subst (λ (z : StepsRead). AllShort z.records) (accept-inj u.2)
      (short-append t.0.records u.0.records (g k at s t.0 t.1)
      (steps-short one g count (k + length t.0.records) t.0.next t.0.sharding u.0 u.1))

  plain-short : Shortens (plain_at mesh sizes file)
  unfolding plain_at
  plain-short k at s w e =
      let p = bind_inv (step_at (length mesh) (length sizes) k file at) _ w e in
      let q = bind_inv (judge_step mesh sizes k p.0.value s) _ w p.2 in
      subst (λ (z : StepsRead). AllShort z.records) (accept-inj q.2) (step-short (length sizes) k at p.0 p.1, tt)

  repeat_short : (inner : JudgesSteps) → ((count : ℕ) → Shortens (inner count)) → (k at : ℕ) (s : Sharding) (w : StepsRead)
      → repeat_at inner file k (at + 1) s ≡ accept w → AllShort w.records
  repeat_short inner g k at s w e =
      let h : IsRepeat mesh sizes file inner k (at + 1) s w = repeat-inv mesh sizes file inner k (at + 1) s w e in
      subst (λ (z : StepsRead). AllShort z.records) h.whole (tt, g h.number (k + 1) (at + 1 + 2) s h.block h.block_is)

  by-short : (b : Bool) (inner : JudgesSteps) → ((count : ℕ) → Shortens (inner count)) → Shortens (item_with b inner mesh sizes file)
  unfolding item_with
  by-short false inner g k at s w e = plain-short k at s w e
  by-short true inner g k at s w e = repeat_short inner g k at s w e

  item-short : (kinds : ℕ → Bool) (depth : ℕ) → Shortens (item_at kinds mesh sizes file depth)
  unfolding item_at
  item-short kinds zero k at s w e =
      by-short (is_repeat file at) (too_deep k) (λ count k' at' s' w' e'. absurd (never e')) k at s w (need-inv k (kinds (get_or file at 0)) 20 _ w e).1
  item-short kinds (suc depth) k at s w e =
      by-short (is_repeat file at) (steps_at (item_at kinds mesh sizes file depth))
      (steps-short (item_at kinds mesh sizes file depth) (item-short kinds depth)) k at s w (need-inv k (kinds (get_or file at 0)) 20 _ w e).1

  pub outermost-short : (kinds : ℕ → Bool) (ran count k at : ℕ) (s : Sharding) (o : Outermost) → outermost_at kinds mesh sizes file ran count k at s ≡ accept o
      → AllShort o.records
  outermost-short kinds ran count k at s o e =
      steps-short (item_at kinds mesh sizes file most_depth) (item-short kinds most_depth) count k at s (read_by mesh sizes file s o)
      (outermost-steps mesh sizes file kinds ran count k at s o e)

-- ---- and so is what passes 8

pub counts-short : (n : ℕ) (ls : List (List ℕ)) → n ≤ most_axes → judge_counts n ls ≡ accept tt → ShortLists ls
unfolding judge_counts
counts-short n [] h e = λ d. omega arith
counts-short n (l ∷ ls) h e =
    let p = need-inv 0 (leb (length l) n) 8 (judge_counts n ls) tt e in
    short-cons l ls (omega (arith, leb→le (length l) n p.0, h)) (counts-short n ls h p.1)

-- 8 is not given for lists that have a place for each of their axes, where there are so many axes
pub short-counts : (ls : List (List ℕ)) → ShortLists ls → judge_counts most_axes ls ≡ accept tt
unfolding judge_counts
short-counts [] h = refl
short-counts (l ∷ ls) h = rw (is_le (length l) most_axes (h 0)) (short-counts ls (λ d. h (suc d)))
