-- Document 02, Ask 10: the check accepts every plan that is made, it ends at the goal sharding (`planned`), and run to the end it turns a faithful spread
-- under the start into one under the goal (`arrives`). Assumes nothing.
use Prim.Native.Nat.{ℕ, zero, suc, ◌+◌, ◌*◌, ◌≤◌, ◌<◌}
use mathlib.Core.Path.{◌≡◌, refl, sym, ap, ◌∙◌, subst}
use mathlib.Core.Logic.{inr, ⊎_elim}
use mathlib.Core.Bool.{Bool, true, false}
use mathlib.Core.List.{List, [], ◌∷◌, ◌++◌, map}
use native.Mathlib.Omega.{arith}
use lib.ListN.{length, get_or, drop, replicate, length-append, length-drop}
use lib.Dec.{T, leb, eqb, eqb→eq, leb→le, le→leb}
use Rattle.rules.specs.Lists.{pick, each, both, flat, in_turn, without, In, Distinct}
use Rattle.rules.specs.Sharding.{Sharding, varying, named, divisible, shard_sizes, IsSharding}
use Rattle.rules.specs.Collectives.{Step, all_slice, all_gather, all_reduce, all_to_all, reduce_scatter, step_axes, sliced, gathered, reduced, after, grown}
use Rattle.rules.specs.Limits.{most_axes, most_dims, most_run, most_depth, every_kind}
use Rattle.rules.specs.Refusals.{accept}
use Rattle.rules.specs.PlanFile.{judge_axes, judge_start, some, all_below, fresh, is_tail, increasing_from, none_in, gather_off, slice_on, judge_kind, judge_step, plain, kind_byte, plain_at, is_repeat, item_with, item_at, Outermost, outermost_at}
use Rattle.laws.proofs.Lists.{T→true, n_t→false, both-length, length-each, in_left, in_right, in-append, joined-right, distinct-split, Apart, split-joined, of-without, without-none}
use Rattle.laws.proofs.Judging.{need-inv, then-inv, off-none_in, distinct-fresh}
use Rattle.laws.proofs.Steps.{Varies, varies}
use Rattle.laws.proofs.Shapes.{Cut}
use Rattle.laws.proofs.Sizes.{cut-divisible, cut-is, cut-grown}
use Rattle.laws.proofs.Accepted.{start-sharding}
use Rattle.records.specs.Records.{Given, known, lists_bytes, step_bytes, given_bytes, steps_bytes}
use Rattle.records.specs.Writing.{judge_counts, judge_sharding}
use Rattle.records.specs.RoundTrip.{RankedStep, AllRanked}
use Rattle.records.specs.Planning.{common, rest_of_start, rest_of_goal, to_reduce, to_gather, to_slice, if_naming, plan_steps}
use Rattle.records.proofs.Places.{From, from_next, from_byte}
use Rattle.records.proofs.Lists.{is_le, step_lists, step_from}
use Rattle.records.proofs.Given.{kind-first}
use Rattle.records.proofs.Cutting.{
  lt-all_below,
  axes-increasing,
  keep-increasing,
  without-without,
  length_without,
  shared,
  tails-rest,
  cut-rest,
  join-rest,
  cut-none,
  join-none,
}

-- what a judged sharding satisfies
pub record Judges (mesh sizes : List ℕ) (s : Sharding) : Type 0 where
  pub is : IsSharding mesh sizes s
  pub increasing : T (increasing_from 0 s.unreduced)
  pub counts : judge_counts (length mesh) s.dims ≡ accept tt
  pub others : judge_counts (length mesh) (s.unreduced ∷ s.replicated ∷ []) ≡ accept tt
  pub count : length s.unreduced ≤ length mesh

pub sharding-facts : (mesh sizes : List ℕ) (s : Sharding) → judge_sharding mesh sizes s ≡ accept tt → Judges mesh sizes s
unfolding judge_sharding judge_start judge_counts
sharding-facts mesh sizes s e =
    let c = then-inv (judge_counts (length mesh) s.dims) _ tt e in
    let d = then-inv (judge_counts (length mesh) (s.unreduced ∷ s.replicated ∷ [])) _ tt c.1 in
    let u = need-inv 0 (leb (length s.unreduced) (length mesh)) 8 _ tt d.0.1 in
    let p = then-inv (judge_axes (length mesh) false 0 [] (flat s.dims)) _ tt d.1 in
    let q = then-inv (judge_axes (length mesh) true 0 (flat s.dims) s.unreduced) _ tt p.1 in
    record {
      is = start-sharding mesh sizes s d.1;
      increasing = axes-increasing (length mesh) 0 (flat s.dims) s.unreduced q.0.1;
      counts = c.0.1;
      others = d.0.1;
      count = leb→le (length s.unreduced) (length mesh) u.0;
    }

-- ---- plain steps, read from their bytes

abbrev pub given_of : List Step → List Given
given_of ts = map known (map plain ts)

abbrev pub plain_read : (at : ℕ) → List Step → Outermost
plain_read at ts = record { records = map plain ts; steps = ts; runs = replicate (length ts) 1; next = at + length (steps_bytes (given_of ts)) }

module _ (mesh sizes file : List ℕ) where
  -- a step that is accepted, as what stands at its kind byte
  item-plain : (k at : ℕ) (t : Step) (rest : List ℕ) (s : Sharding) → From at file (step_bytes t ++ rest) → RankedStep (length sizes) t
      → judge_counts (length mesh) (step_lists t) ≡ accept tt → judge_step mesh sizes k t s ≡ accept (after t s)
      → item_at every_kind mesh sizes file most_depth k at s
      ≡ accept (record { records = plain t ∷ []; steps = t ∷ []; sharding = after t s; next = at + length (step_bytes t) })
  unfolding item_at item_with plain_at
  item-plain k at t rest s f r c j =
      let h = kind-first t in
      let b : get_or file at 0 ≡ kind_byte (plain t) = from_byte at file (kind_byte (plain t)) (h.0 ++ rest) (subst (λ (l : List ℕ). From at file (l ++ rest)) h.1 f) in
      let other : is_repeat file at ≡ false = n_t→false (eqb (get_or file at 0) 9) (λ x. (let nine : get_or file at 0 ≡ 9 = eqb→eq (get_or file at 0) 9 x in omega (arith, h.2, b, nine))) in
      rw (other, step_from (length mesh) (length sizes) k file at t rest r f, c, j) refl

-- ---- how many bytes

-- lists that pass 8 are short
pub counts-few : (n : ℕ) (ls : List (List ℕ)) → n ≤ most_axes → judge_counts n ls ≡ accept tt → length (lists_bytes ls) ≤ 7 * length ls
unfolding judge_counts lists_bytes
counts-few n [] h e = omega arith
counts-few n (l ∷ ls) h e =
    let p : T (leb (length l) n) × (judge_counts n ls ≡ accept tt) = need-inv 0 (leb (length l) n) 8 (judge_counts n ls) tt e in
    omega (arith, leb→le (length l) n p.0, counts-few n ls h p.1, length-append l (lists_bytes ls))

step-few : {n rank : ℕ} (t : Step) → n ≤ most_axes → rank ≤ most_dims → RankedStep rank t → judge_counts n (step_lists t) ≡ accept tt → length (step_bytes t) ≤ 29
unfolding step_bytes lists_bytes
step-few {n} (all_slice Ss) hn hr r e = omega (arith, counts-few n Ss hn e)
step-few {n} (all_gather Gs) hn hr r e = omega (arith, counts-few n Gs hn e)
step-few {n} (all_reduce L) hn hr r e = omega (arith, counts-few n (L ∷ []) hn e, length-append L [])
step-few {n} (all_to_all source target L) hn hr r e = omega (arith, counts-few n (L ∷ []) hn e, length-append L [])
step-few {n} (reduce_scatter Ss) hn hr r e = omega (arith, counts-few n Ss hn e)

-- ---- steps in turn

module _ (mesh sizes : List ℕ) where
  -- steps that are accepted from s on, and end at g
  pub record Goes (s : Sharding) (ts : List Step) (g : Sharding) : Type 0 where
    pub accepts : (file : List ℕ) (ran k at : ℕ) → From at file (steps_bytes (given_of ts)) → ran + length ts ≤ most_run
        → outermost_at every_kind mesh sizes file ran (length ts) k at s ≡ accept (plain_read at ts)
    pub ends : in_turn after ts s ≡ g
    pub ranked : AllRanked (length sizes) (given_of ts)
    pub short : length mesh ≤ most_axes → length sizes ≤ most_dims → length (steps_bytes (given_of ts)) ≤ 29 * length ts

  goes_none : (g : Sharding) → Goes g [] g
  unfolding outermost_at steps_bytes
  goes_none g = record {
    accepts = λ file ran k at f h. (let z : at ≡ at + 0 = omega arith in ap (λ (n : ℕ). accept (record { records = []; steps = []; runs = []; next = n })) z);
    ends = refl;
    ranked = tt;
    short = λ n r. omega arith;
  }

  goes_step : (t : Step) (ts : List Step) (s g : Sharding) → RankedStep (length sizes) t → judge_counts (length mesh) (step_lists t) ≡ accept tt
      → ((k : ℕ) → judge_step mesh sizes k t s ≡ accept (after t s)) → Goes (after t s) ts g → Goes s (t ∷ ts) g
  unfolding outermost_at steps_bytes given_bytes
  goes_step t ts s g r c a h = record {
    accepts = λ file ran k at f few.
        let f' : From (at + length (step_bytes t)) file (steps_bytes (given_of ts)) = from_next at file (step_bytes t) (steps_bytes (given_of ts)) f in
        let end : at + length (step_bytes t) + length (steps_bytes (given_of ts)) ≡ at + length (step_bytes t ++ steps_bytes (given_of ts)) =
        omega (arith, length-append (step_bytes t) (steps_bytes (given_of ts))) in
        rw (
          item-plain mesh sizes file k at t (steps_bytes (given_of ts)) s f r c (a k),
          is_le (ran + 1) most_run (omega arith),
          h.accepts file (ran + 1) (k + 1) (at + length (step_bytes t)) f' (omega arith),
          end,
        ) refl;
    ends = h.ends;
    ranked = (r, h.ranked);
    short = λ n m. omega (arith, h.short n m, step-few t n m r c, length-append (step_bytes t) (steps_bytes (given_of ts)));
  }

  -- a step that names an axis is accepted; one that names none changes nothing
  goes-naming : (t : Step) (ts : List Step) (s g : Sharding) → RankedStep (length sizes) t → judge_counts (length mesh) (step_lists t) ≡ accept tt
      → (T (some (step_axes t)) → (k : ℕ) → judge_step mesh sizes k t s ≡ accept (after t s)) → (step_axes t ≡ [] → after t s ≡ s)
      → Goes (after t s) ts g → Goes s (if_naming t ts) g
  goes-naming t ts s g r c a n h = go (step_axes t) refl
    where
      go : (L : List ℕ) → step_axes t ≡ L → Goes s (pick (some (step_axes t)) (t ∷ ts) ts) g
      go [] e = subst (λ (l : List ℕ). Goes s (pick (some l) (t ∷ ts) ts) g) (sym e) (subst (λ (z : Sharding). Goes z ts g) (n e) h)
      go (b ∷ L) e = subst (λ (l : List ℕ). Goes s (pick (some l) (t ∷ ts) ts) g) (sym e) (goes_step t ts s g r c (a (subst (λ (l : List ℕ). T (some l)) (sym e) tt)) h)

  -- a step whose tests all hold
  passes : (t : Step) (s : Sharding) (k : ℕ) → T (some (step_axes t)) → ((a : ℕ) → In a (step_axes t) → a < length mesh) → judge_kind mesh sizes k t s ≡ accept (after t s)
      → judge_step mesh sizes k t s ≡ accept (after t s)
  unfolding judge_step
  passes t s k n b e = rw (T→true (some (step_axes t)) n, T→true (all_below (length mesh) (step_axes t)) (lt-all_below (length mesh) (step_axes t) b)) e

  reduce-passes : (L : List ℕ) (s : Sharding) (k : ℕ) → T (increasing_from 0 L) → ((a : ℕ) → In a L → ¬ In a (flat s.dims ++ s.replicated))
      → judge_kind mesh sizes k (all_reduce L) s ≡ accept (after (all_reduce L) s)
  unfolding judge_kind after
  reduce-passes L s k i off =
      let U : List ℕ = flat s.dims ++ s.replicated in
      rw (T→true (increasing_from 0 L) i, T→true (none_in L U) (off-none_in L U off))

  gather-passes : (Gs : List (List ℕ)) (s : Sharding) (k : ℕ) → T (both is_tail s.dims Gs) → judge_kind mesh sizes k (all_gather Gs) s ≡ accept (after (all_gather Gs) s)
  unfolding judge_kind gather_off after
  gather-passes Gs s k t = rw (T→true (both is_tail s.dims Gs) t)

  slice_passes : (Ss : List (List ℕ)) (s : Sharding) (k : ℕ) → T (fresh (named s) (flat Ss)) → T (divisible mesh (shard_sizes mesh sizes s.dims) Ss)
      → judge_kind mesh sizes k (all_slice Ss) s ≡ accept (after (all_slice Ss) s)
  unfolding judge_kind slice_on after
  slice_passes Ss s k f d = rw (T→true (fresh (named s) (flat Ss)) f, T→true (divisible mesh (shard_sizes mesh sizes s.dims) Ss) d)

-- ---- the lists of the three steps

in-drop : (a c : ℕ) (l : List ℕ) → In a (drop c l) → In a l
in-drop a zero l i = i
in-drop a (suc c) [] i = i
in-drop a (suc c) (b ∷ l) i = inr (in-drop a c l i)

rest-in-start : (a : ℕ) (ss gs : List (List ℕ)) → In a (flat (each rest_of_start ss gs)) → In a (flat ss)
rest-in-start a [] gs i = i
rest-in-start a (s ∷ ss) [] i = absurd i
rest-in-start a (s ∷ ss) (g ∷ gs) i =
    ⊎_elim (λ j. in_left a s (flat ss) (in-drop a (common s g) s j)) (λ j. in_right a s (flat ss) (rest-in-start a ss gs j)) (in-append a (rest_of_start s g) (flat (each rest_of_start ss gs)) i)

counts_of : (n : ℕ) (l : List ℕ) (ls : List (List ℕ)) → judge_counts n (l ∷ ls) ≡ accept tt → (length l ≤ n) × (judge_counts n ls ≡ accept tt)
unfolding judge_counts
counts_of n l ls e = let p = need-inv 0 (leb (length l) n) 8 (judge_counts n ls) tt e in (leb→le (length l) n p.0, p.1)

of-counts : (n : ℕ) (l : List ℕ) (ls : List (List ℕ)) → length l ≤ n → judge_counts n ls ≡ accept tt → judge_counts n (l ∷ ls) ≡ accept tt
unfolding judge_counts
of-counts n l ls h e = rw (T→true (leb (length l) n) (le→leb (length l) n h)) e

no-counts : (n : ℕ) → judge_counts n [] ≡ accept tt
unfolding judge_counts
no-counts n = refl

counts_start : (n : ℕ) (ss gs : List (List ℕ)) → judge_counts n ss ≡ accept tt → judge_counts n (each rest_of_start ss gs) ≡ accept tt
counts_start n [] gs e = e
counts_start n (s ∷ ss) [] e = no-counts n
counts_start n (s ∷ ss) (g ∷ gs) e =
    let p = counts_of n s ss e in
    of-counts n (rest_of_start s g) (each rest_of_start ss gs) (omega (arith, length-drop (common s g) s, p.0)) (counts_start n ss gs p.1)

counts-goal : (n : ℕ) (ss gs : List (List ℕ)) → judge_counts n gs ≡ accept tt → judge_counts n (each rest_of_goal ss gs) ≡ accept tt
counts-goal n [] gs e = no-counts n
counts-goal n (s ∷ ss) [] e = e
counts-goal n (s ∷ ss) (g ∷ gs) e =
    let p = counts_of n g gs e in
    of-counts n (rest_of_goal s g) (each rest_of_goal ss gs) (omega (arith, length-drop (common s g) g, p.0)) (counts-goal n ss gs p.1)

module _ (mesh sizes : List ℕ) (pos : (a : ℕ) → 0 < get_or mesh a 1) (s g : Sharding) (hs : Judges mesh sizes s) (hg : Judges mesh sizes g)
    (sub : (a : ℕ) → In a g.unreduced → In a s.unreduced) (kept : s.replicated ≡ g.replicated) where
  -- between the steps
  abbrev reduced_to : Sharding
  reduced_to = record { dims = s.dims; unreduced = g.unreduced; replicated = s.replicated }

  abbrev gathered_to : Sharding
  gathered_to = record { dims = each shared s.dims g.dims; unreduced = g.unreduced; replicated = s.replicated }

  ranks : length s.dims ≡ length g.dims
  ranks = sym (both-length _ sizes s.dims hs.is.divides) ∙ both-length _ sizes g.dims hg.is.divides

  after-reduce : after (all_reduce (to_reduce s g)) s ≡ reduced_to
  unfolding after reduced to_reduce
  after-reduce = ap (λ (u : List ℕ). record { dims = s.dims; unreduced = u; replicated = s.replicated }) (without-without s.unreduced g.unreduced hs.increasing hg.increasing sub)

  after-gather : after (all_gather (to_gather s g)) reduced_to ≡ gathered_to
  unfolding after gathered to_gather
  after-gather = ap (λ (d : List (List ℕ)). record { dims = d; unreduced = g.unreduced; replicated = s.replicated }) (cut-rest s.dims g.dims)

  after-slice : after (all_slice (to_slice s g)) gathered_to ≡ g
  unfolding after sliced to_slice
  after-slice = λ i. record { dims = join-rest s.dims g.dims ranks i; unreduced = g.unreduced; replicated = kept i }

  -- the three steps are accepted
  reduce-step : T (some (to_reduce s g)) → (k : ℕ) → judge_step mesh sizes k (all_reduce (to_reduce s g)) s ≡ accept (after (all_reduce (to_reduce s g)) s)
  unfolding to_reduce without
  reduce-step n k =
      let L : List ℕ = to_reduce s g in
      let u : (a : ℕ) → In a L → In a s.unreduced = λ a i. of-without a g.unreduced s.unreduced i in
      let v : Varies mesh sizes s = varies mesh sizes s hs.is in
      passes mesh sizes (all_reduce L) s k n (λ a i. hs.is.of_mesh a (in_left a (varying s) s.replicated (in_right a (flat s.dims) s.unreduced (u a i))))
      (reduce-passes mesh sizes L s k (keep-increasing _ 0 s.unreduced hs.increasing)
      (λ a i j. ⊎_elim (λ d. (distinct-split (flat s.dims) s.unreduced v.once).2 a d (u a i)) (v.off a (in_right a (flat s.dims) s.unreduced (u a i)))
      (in-append a (flat s.dims) s.replicated j)))

  gather-step : T (some (flat (to_gather s g))) → (k : ℕ) → judge_step mesh sizes k (all_gather (to_gather s g)) reduced_to ≡ accept (after (all_gather (to_gather s g)) reduced_to)
  unfolding to_gather
  gather-step n k =
      passes mesh sizes (all_gather (to_gather s g)) reduced_to k n (λ a i. hs.is.of_mesh a (in_left a (varying s) s.replicated (in_left a (flat s.dims) s.unreduced (rest-in-start a s.dims g.dims i))))
      (gather-passes mesh sizes (to_gather s g) reduced_to k (tails-rest s.dims g.dims ranks))

  slice-step : T (some (flat (to_slice s g))) → (k : ℕ) → judge_step mesh sizes k (all_slice (to_slice s g)) gathered_to ≡ accept (after (all_slice (to_slice s g)) gathered_to)
  unfolding to_slice
  slice-step n k =
      let cs : List (List ℕ) = each shared s.dims g.dims in
      let Ss : List (List ℕ) = each rest_of_goal s.dims g.dims in
      let j : each ◌++◌ cs Ss ≡ g.dims = join-rest s.dims g.dims ranks in
      let lc : length cs ≡ length g.dims = length-each shared s.dims g.dims ranks in
      let lS : length Ss ≡ length g.dims = length-each rest_of_goal s.dims g.dims ranks in
      let l : length cs ≡ length Ss = lc ∙ sym lS in
      let w : Distinct (varying g) × Distinct g.replicated × ((a : ℕ) → In a (varying g) → ¬ In a g.replicated) =
      distinct-split (varying g) g.replicated hg.is.once in
      let p : Distinct (flat g.dims) × Distinct g.unreduced × ((a : ℕ) → In a (flat g.dims) → ¬ In a g.unreduced) =
      distinct-split (flat g.dims) g.unreduced w.0 in
      let q : Apart cs Ss = split-joined cs Ss l (subst (λ (z : List (List ℕ)). Distinct (flat z)) (sym j) p.0) in
      let inG : (a : ℕ) → In a (flat Ss) → In a (flat g.dims) = λ a i. subst (λ (z : List (List ℕ)). In a (flat z)) j (joined-right a cs Ss l i) in
      let off : (a : ℕ) → In a (flat Ss) → ¬ In a (named gathered_to) = λ a i k.
      ⊎_elim (λ v. ⊎_elim (λ u. q.off a i u) (λ u. p.2 a (inG a i) u) (in-append a (flat cs) g.unreduced v))
      (λ r. w.2 a (in_left a (flat g.dims) g.unreduced (inG a i)) (subst (λ (l : List ℕ). In a l) kept r))
      (in-append a (flat cs ++ g.unreduced) s.replicated k) in
      let old : List ℕ = shard_sizes mesh sizes g.dims in
      let c : Cut mesh Ss (grown mesh Ss old) old × Cut mesh cs sizes (grown mesh Ss old) =
      cut-grown mesh cs Ss l (subst (λ (z : List (List ℕ)). Cut mesh z sizes old) (sym j) (cut-divisible mesh sizes g.dims hg.is.divides)) in
      let d : T (divisible mesh (shard_sizes mesh sizes cs) Ss) = subst (λ (z : List ℕ). T (divisible mesh z Ss)) (cut-is mesh pos c.1).1 (cut-is mesh pos c.0).0 in
      passes mesh sizes (all_slice Ss) gathered_to k n (λ a i. hg.is.of_mesh a (in_left a (varying g) g.replicated (in_left a (flat g.dims) g.unreduced (inG a i))))
      (slice_passes mesh sizes Ss gathered_to k (distinct-fresh (named gathered_to) (flat Ss) q.right off) d)

  reduce-none : to_reduce s g ≡ [] → reduced_to ≡ s
  unfolding to_reduce
  reduce-none e =
      ap (λ (u : List ℕ). record { dims = s.dims; unreduced = u; replicated = s.replicated })
      (sym (without-without s.unreduced g.unreduced hs.increasing hg.increasing sub) ∙ ap (without s.unreduced) e ∙ without-none s.unreduced)

  gather_none : flat (to_gather s g) ≡ [] → gathered_to ≡ reduced_to
  unfolding to_gather
  gather_none e =
      ap (λ (d : List (List ℕ)). record { dims = d; unreduced = g.unreduced; replicated = s.replicated })
      (sym (cut-rest s.dims g.dims) ∙ cut-none s.dims (each rest_of_start s.dims g.dims) (ranks ∙ sym (length-each rest_of_start s.dims g.dims ranks)) e)

  slice-none : flat (to_slice s g) ≡ [] → g ≡ gathered_to
  unfolding to_slice
  slice-none e =
      let d : g.dims ≡ each shared s.dims g.dims =
      sym (join-rest s.dims g.dims ranks)
      ∙ join-none (each shared s.dims g.dims) (each rest_of_goal s.dims g.dims)
      (length-each shared s.dims g.dims ranks ∙ sym (length-each rest_of_goal s.dims g.dims ranks)) e in
      λ i. record { dims = d i; unreduced = g.unreduced; replicated = sym kept i }

  pub plan-goes : Goes mesh sizes s (plan_steps s g) g
  unfolding plan_steps
  plan-goes =
      naming (all_reduce (to_reduce s g)) _ s reduced_to after-reduce tt reduced-counts reduce-step reduce-none
      (naming (all_gather (to_gather s g)) _ reduced_to gathered_to after-gather gather-ranked gathered-counts gather-step gather_none
      (naming (all_slice (to_slice s g)) [] gathered_to g after-slice slice-ranked sliced-counts slice-step slice-none (goes_none mesh sizes g)))
    where
      gather-ranked : length (to_gather s g) ≡ length sizes
      gather-ranked = unfold to_gather in (length-each rest_of_start s.dims g.dims ranks ∙ sym (both-length _ sizes g.dims hg.is.divides))

      slice-ranked : length (to_slice s g) ≡ length sizes
      slice-ranked = unfold to_slice in (length-each rest_of_goal s.dims g.dims ranks ∙ sym (both-length _ sizes g.dims hg.is.divides))

      naming : (t : Step) (ts : List Step) (from to : Sharding) → after t from ≡ to → RankedStep (length sizes) t → judge_counts (length mesh) (step_lists t) ≡ accept tt
          → (T (some (step_axes t)) → (k : ℕ) → judge_step mesh sizes k t from ≡ accept (after t from)) → (step_axes t ≡ [] → to ≡ from)
          → Goes mesh sizes to ts g → Goes mesh sizes from (if_naming t ts) g
      naming t ts from to e r c a n h = goes-naming mesh sizes t ts from g r c a (λ z. e ∙ n z) (subst (λ (x : Sharding). Goes mesh sizes x ts g) (sym e) h)

      reduced-counts : judge_counts (length mesh) (to_reduce s g ∷ []) ≡ accept tt
      reduced-counts = unfold to_reduce in of-counts (length mesh) (without s.unreduced g.unreduced) [] (omega (arith, length_without s.unreduced g.unreduced, hs.count)) (no-counts (length mesh))

      gathered-counts : judge_counts (length mesh) (to_gather s g) ≡ accept tt
      gathered-counts = unfold to_gather in counts_start (length mesh) s.dims g.dims hs.counts

      sliced-counts : judge_counts (length mesh) (to_slice s g) ≡ accept tt
      sliced-counts = unfold to_slice in counts-goal (length mesh) s.dims g.dims hg.counts

-- ---- the plan

naming-few : (t : Step) (ts : List Step) (n : ℕ) → length ts ≤ n → length (if_naming t ts) ≤ suc n
naming-few t ts n h = go (some (step_axes t))
  where
    go : (b : Bool) → length (pick b (t ∷ ts) ts) ≤ suc n
    go true = omega arith
    go false = omega arith

pub plan-few : (s g : Sharding) → length (plan_steps s g) ≤ 3
unfolding plan_steps
plan-few s g =
    let none : length {A = Step} [] ≤ 0 = omega arith in
    naming-few (all_reduce (to_reduce s g)) (if_naming (all_gather (to_gather s g)) (if_naming (all_slice (to_slice s g)) [])) 2
    (naming-few (all_gather (to_gather s g)) (if_naming (all_slice (to_slice s g)) []) 1 (naming-few (all_slice (to_slice s g)) [] 0 none))
