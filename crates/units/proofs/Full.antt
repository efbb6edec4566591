-- A unit that waits for more is short: with so many bytes every reader has read or refused (`sizes-short`, `sharding-short`, `step-short`, `head-short`). Assumes nothing.
use Prim.Native.Nat.{ℕ, zero, suc, ◌+◌, ◌*◌, ◌≤◌, ◌<◌}
use mathlib.Core.Path.{◌≡◌, refl, sym, ap, ◌∙◌, subst}
use mathlib.Core.Logic.{◌≢◌}
use mathlib.Core.Bool.{Bool, true, false}
use mathlib.Core.List.{List, []}
use native.Mathlib.Omega.{arith}
use native.Mathlib.Decide.{dec_lt, ℕ_discrete}
use borrow.Author.Tests.{lt-ltb, le-leb}
use lib.ListN.{length, get_or}
use Rattle.rules.specs.Lists.{tab}
use Rattle.rules.specs.Limits.{most_axes, most_dims}
use Rattle.rules.specs.Refusals.{Judged, accept, refuse, ◌>>=◌, ◌>>◌}
use Rattle.rules.specs.PlanFile.{
  Read,
  u16_at,
  judge_sizes,
  sizes_at,
  list_read_at,
  lists_at,
  replicated_at,
  sharding_at,
  Kind,
  AllSlice,
  AllGather,
  AllReduce,
  AllToAll,
  ReduceScatter,
  Unknown,
  kind_of,
  lists_of,
  step_at,
}
use Rattle.laws.proofs.Judging.{never, accept-inj}
use Rattle.reader.proofs.Listing.{ByteIs, count-above}
use Rattle.blocks.specs.Blocks.{head_at}
use Rattle.blocks.proofs.Heads.{positive-zero, positive-is, count-stops, number-stops, too-deep, head-is}
use Rattle.units.proofs.Parts.{number_of, list-is, sizes-not-seven}

-- a reading that 7 does not refuse, and that ends by k
record Full {A : Type 0} (k : ℕ) (j : Judged (Read A)) : Type 0 where
  not_seven : (a b : ℕ) → j ≡ refuse a b → a ≢ 7
  ends : (r : Read A) → j ≡ accept r → r.next ≤ k

full-read : {A : Type 0} (v : A) (i k : ℕ) → i ≤ k → Full k (accept (record { value = v; next = i }))
full-read {A} v i k h = record {
  not_seven = λ a b e. absurd (never (sym e));
  ends = λ r e. omega (arith, ap (λ (x : Read A). x.next) (accept-inj e));
}

full-refused : {A : Type 0} (k n m : ℕ) → n ≢ 7 → Full {A = A} k (refuse n m)
full-refused k n m h = record { not_seven = λ a b e s. h (number_of e ∙ s); ends = λ r e. absurd (never e) }

full-bind : {A B : Type 0} {i k : ℕ} (j : Judged (Read A)) (f : Read A → Judged (Read B)) → Full i j → ((r : Read A) → r.next ≤ i → Full k (f r)) → Full k (◌>>=◌ j f)
full-bind (accept r) f h g = g r (h.ends r refl)
full-bind {k = k} (refuse a b) f h g = full-refused k a b (h.not_seven a b refl)

-- ---- lists, a sharding

list_full : (n : ℕ) (f : List ℕ) (at k : ℕ) → n ≤ most_axes → at + 7 ≤ length f → at + 7 ≤ k → Full k (list_read_at n f at)
list_full n f at k few room l = go (dec_lt n (get_or f at 0))
  where
    here : ByteIs f at (get_or f at 0)
    here = record { inside = omega arith; is = refl }

    go : Dec (n < get_or f at 0) → Full k (list_read_at n f at)
    go (yes m) = subst (Full k) (sym (count-above n f at here m)) (full-refused k 8 0 (λ e. omega (arith, e)))
    go (no m) = subst (Full k) (sym (list-is n f at here (omega (arith, m)) (omega (arith, m)))) (full-read _ _ k (omega (arith, m)))

lists-full : (n rank : ℕ) (f : List ℕ) (at k : ℕ) → n ≤ most_axes → at + rank * 7 ≤ length f → at + rank * 7 ≤ k → Full k (lists_at n rank f at)
unfolding lists_at
lists-full n zero f at k few room l = full-read [] at k (omega arith)
lists-full n (suc rank) f at k few room l =
    full-bind (list_read_at n f at) _ (list_full n f at (at + 7) few (omega arith) (omega arith)) (λ r h.
    full-bind (lists_at n rank f r.next) _ (lists-full n rank f r.next k few (omega arith) (omega arith)) (λ s g. full-read _ s.next k g))

replicated-full : (carried : Bool) (n : ℕ) (f : List ℕ) (at k : ℕ) → n ≤ most_axes → at + 7 ≤ length f → at + 7 ≤ k → Full k (replicated_at carried n f at)
unfolding replicated_at
replicated-full true n f at k few room l = list_full n f at k few room l
replicated-full false n f at k few room l = full-read [] at k (omega arith)

sharding-full : (carried : Bool) (n rank : ℕ) (f : List ℕ) → n ≤ most_axes → rank ≤ most_dims → 42 ≤ length f → Full 42 (sharding_at carried n rank 0 f 0)
unfolding sharding_at
sharding-full carried n rank f few low room =
    full-bind (lists_at n rank f 0) _ (lists-full n rank f 0 28 few (omega arith) (omega arith)) (λ d h.
    full-bind (list_read_at n f d.next) _ (list_full n f d.next 35 few (omega arith) (omega arith)) (λ u g.
    full-bind (replicated_at carried n f u.next) _ (replicated-full carried n f u.next 42 few (omega arith) (omega arith)) (λ v i. full-read _ v.next 42 i)))

-- ---- a step

kind-full : (n rank k : ℕ) (f : List ℕ) (kind : Kind) → n ≤ most_axes → rank ≤ most_dims → 42 ≤ length f → Full 42 (lists_of n rank k f 1 kind)
unfolding lists_of
kind-full n rank k f AllSlice few low room = full-bind (lists_at n rank f 1) _ (lists-full n rank f 1 42 few (omega arith) (omega arith)) (λ r h. full-read _ r.next 42 h)
kind-full n rank k f AllGather few low room = full-bind (lists_at n rank f 1) _ (lists-full n rank f 1 42 few (omega arith) (omega arith)) (λ r h. full-read _ r.next 42 h)
kind-full n rank k f AllReduce few low room = full-bind (list_read_at n f 1) _ (list_full n f 1 42 few (omega arith) (omega arith)) (λ r h. full-read _ r.next 42 h)
kind-full n rank k f AllToAll few low room = rw (le-leb (1 + 2) (length f) (omega arith))
    (full-bind (list_read_at n f 3) _ (list_full n f 3 42 few (omega arith) (omega arith)) (λ r h. full-read _ r.next 42 h))
kind-full n rank k f ReduceScatter few low room = full-bind (lists_at n rank f 1) _ (lists-full n rank f 1 42 few (omega arith) (omega arith)) (λ r h. full-read _ r.next 42 h)
kind-full n rank k f Unknown few low room = full-refused 42 20 k (λ e. omega (arith, e))

step-full : (n rank k : ℕ) (f : List ℕ) → n ≤ most_axes → rank ≤ most_dims → 42 ≤ length f → Full 42 (step_at n rank k f 0)
unfolding step_at
step-full n rank k f few low room = rw (lt-ltb 0 (length f) (omega arith)) (kind-full n rank k f (kind_of (get_or f 0 0)) few low room)

-- WHAT WAITS IS SHORT
pub sharding-short : (carried : Bool) (n rank : ℕ) (f : List ℕ) {b : ℕ} → n ≤ most_axes → rank ≤ most_dims → sharding_at carried n rank 0 f 0 ≡ refuse 7 b → length f < 42
sharding-short carried n rank f {b} few low e = go (dec_lt (length f) 42)
  where
    go : Dec (length f < 42) → length f < 42
    go (yes l) = l
    go (no d) = absurd ((sharding-full carried n rank f few low (omega (arith, d))).not_seven 7 b e refl)

pub step-short : (n rank k : ℕ) (f : List ℕ) {b : ℕ} → n ≤ most_axes → rank ≤ most_dims → step_at n rank k f 0 ≡ refuse 7 b → length f < 42
step-short n rank k f {b} few low e = go (dec_lt (length f) 42)
  where
    go : Dec (length f < 42) → length f < 42
    go (yes l) = l
    go (no d) = absurd ((step-full n rank k f few low (omega (arith, d))).not_seven 7 b e refl)

pub sizes-short : (most z o count : ℕ) (f : List ℕ) {b : ℕ} → count ≤ most_axes → z ≢ 7 → o ≢ 7 → sizes_at most z o count 0 f 0 ≡ refuse 7 b → length f < 42
unfolding sizes_at
sizes-short most z o count f {b} few hz ho e = go (dec_lt (length f) (2 * count))
  where
    sizes : List ℕ
    sizes = tab count (λ i. u16_at f (0 + 2 * i))

    judged : (j : Judged (Unit {0})) → judge_sizes most z o 1 sizes ≡ j → ◌>>◌ {B = Read (List ℕ)} j (accept (record { value = sizes; next = 0 + 2 * count })) ≡ refuse 7 b → ⊥
    judged (accept t) d q = never (sym q)
    judged (refuse x y) d q = sizes-not-seven most z o 1 sizes hz ho d (number_of q)

    go : Dec (length f < 2 * count) → length f < 42
    go (yes l) = omega (arith, l)
    go (no d) = absurd (judged (judge_sizes most z o 1 sizes) refl (sym (simp (le-leb (0 + 2 * count) (length f) (omega (arith, d)))) ∙ e))

pub head-short : (depth k : ℕ) (f : List ℕ) {b : ℕ} → head_at depth k f 1 ≡ refuse 7 b → length f < 42
head-short depth k f {b} e = go (dec_lt (length f) 3) (ℕ_discrete (get_or f 1 0) 0) (ℕ_discrete (get_or f 2 0) 0) (ℕ_discrete depth 0)
  where
    other : {n m : ℕ} → n ≢ 7 → head_at depth k f 1 ≡ refuse n m → ⊥
    other h q = h (number_of (sym q ∙ e))

    go : Dec (length f < 3) → Dec (get_or f 1 0 ≡ 0) → Dec (get_or f 2 0 ≡ 0) → Dec (depth ≡ 0) → length f < 42
    go (yes l) c n d = omega (arith, l)
    go (no l) (yes c) n d = absurd (other {n = 44} (λ q. omega (arith, q)) (count-stops depth k f 1 (positive-zero k f 1 (omega (arith, l)) c)))
    go (no l) (no c) (yes n) d =
        absurd (other {n = 44} (λ q. omega (arith, q)) (number-stops depth k f 1 (positive-is k f 1 (omega (arith, l)) c) (positive-zero k f 2 (omega (arith, l)) n)))
    go (no l) (no c) (no n) (yes d) =
        absurd (other {n = 42} (λ q. omega (arith, q)) (too-deep depth k f 1 (positive-is k f 1 (omega (arith, l)) c) (positive-is k f 2 (omega (arith, l)) n) d))
    go (no l) (no c) (no n) (no d) =
        absurd (never (sym (sym (head-is depth k f 1 (positive-is k f 1 (omega (arith, l)) c) (positive-is k f 2 (omega (arith, l)) n) d) ∙ e)))
