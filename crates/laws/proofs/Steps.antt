-- What an accepted step satisfies, a record for each kind (`facts`), and that the sharding after it is one again (`after-sharding`), with the
-- sizes that its kind asks for (`Accepted-shapes`). Assumes nothing.
use Prim.Native.Nat.{ℕ, zero, suc, ◌≤◌, ◌<◌}
use mathlib.Core.Path.{◌≡◌, refl, sym, ap, ◌∙◌, subst}
use mathlib.Core.Logic.{⊎_elim, ◌≢◌}
use mathlib.Core.Bool.{Bool}
use mathlib.Core.List.{List, [], ◌++◌, append-nil}
use native.Mathlib.Omega.{arith}
use lib.ListN.{length, get_or, set, take, replicate}
use lib.Seq.{take-set-lt}
use lib.Dec.{T}
use Rattle.rules.specs.Lists.{each, both, flat, without, In, Distinct}
use Rattle.rules.specs.Sharding.{Sharding, varying, named, Unnamed, divisible, shard_sizes, IsSharding}
use Rattle.rules.specs.Collectives.{
  Step,
  all_slice,
  all_gather,
  all_reduce,
  all_to_all,
  reduce_scatter,
  step_axes,
  only,
  sliced,
  gathered,
  cut_tail,
  reduced,
  after,
  grown,
  shape_after,
}
use Rattle.rules.specs.Limits.{most_dims}
use Rattle.rules.specs.Refusals.{Judged, accept}
use Rattle.rules.specs.PlanFile.{some, all_below, fresh, is_tail, increasing_from, none_in, all_in, two_dims, gather_off, slice_on, judge_kind, judge_named, judge_step}
use Rattle.laws.proofs.Lists.{
  take-replicate,
  length-each,
  in_left,
  in_right,
  in-append,
  joined-left,
  joined-right,
  of-joined,
  both-length,
  distinct-split,
  distinct_append,
  distinct-joined,
  Apart,
  split-joined,
  of-without,
  not-in-without,
  distinct_without,
}
use Rattle.laws.proofs.Shapes.{Cut, cut-lengths}
use Rattle.laws.proofs.Sizes.{cut-divisible, cut-joined, cut-grown, cut-is}
use Rattle.laws.proofs.Judging.{accept-inj, need-inv, then-inv, bind_inv, named-inv, all_below-lt, fresh-distinct, tails-joined, increasing-distinct, none_in-off, all_in-in, two_dims-facts}

-- one list among empty ones
pub flat-empty : (r : ℕ) → flat {A = ℕ} (replicate r []) ≡ []
flat-empty zero = refl
flat-empty (suc r) = flat-empty r

pub flat-only : (r i : ℕ) (L : List ℕ) → i < r → flat (only r i L) ≡ L
flat-only zero i L h = absurd (omega arith)
flat-only (suc r) zero L h = ap (λ (l : List ℕ). L ++ l) (flat-empty r) ∙ append-nil L
flat-only (suc r) (suc i) L h = flat-only r i L (omega arith)

-- the lists of the code with one list at a dimension
pub only_at : (rank dim : ℕ) (L : List ℕ) (none ds : List (List ℕ)) → rank ≤ most_dims → dim < rank → none ≡ replicate most_dims []
    → ds ≡ set none dim L
    → take rank ds ≡ only rank dim L
only_at rank dim L none ds h k e f = rw (f, e, take-set-lt rank (replicate most_dims []) dim L k, take-replicate {A = List ℕ} [] rank most_dims h) refl

-- a gather off the lists
pub gather-inv : (k : ℕ) (Gs : List (List ℕ)) (s r : Sharding) → gather_off k Gs s ≡ accept r → T (both is_tail s.dims Gs) × (gathered Gs s ≡ r)
unfolding gather_off
gather-inv k Gs s r e =
    let p : T (both is_tail s.dims Gs) × (accept (gathered Gs s) ≡ accept r) = need-inv k (both is_tail s.dims Gs) 24 (accept (gathered Gs s)) r e in
    (p.0, accept-inj p.1)

-- ---- what an accepted step of each kind satisfies

module _ (mesh sizes : List ℕ) where
  pub record SliceFacts (Ss : List (List ℕ)) (s : Sharding) : Type 0 where
    pub once : Distinct (flat Ss)
    pub off : (a : ℕ) → In a (flat Ss) → Unnamed a s
    pub divides : T (divisible mesh (shard_sizes mesh sizes s.dims) Ss)

  pub record GatherFacts (Gs : List (List ℕ)) (s : Sharding) : Type 0 where
    pub tailed : T (both is_tail s.dims Gs)

  pub record ReduceFacts (L : List ℕ) (s : Sharding) : Type 0 where
    pub once : Distinct L
    pub off : (a : ℕ) → In a L → ¬ In a (flat s.dims)

  pub record ToAllFacts (source target : ℕ) (L : List ℕ) (s : Sharding) : Type 0 where
    pub source-lt : source < length s.dims
    pub target-lt : target < length s.dims
    pub other : source ≢ target
    pub tailed : T (both is_tail s.dims (only (length s.dims) source L))
    pub divides : T (divisible mesh (shard_sizes mesh sizes (each cut_tail s.dims (only (length s.dims) source L))) (only (length s.dims) target L))

  pub record ScatterFacts (Ss : List (List ℕ)) (s : Sharding) : Type 0 where
    pub once : Distinct (flat Ss)
    pub unreduced : (a : ℕ) → In a (flat Ss) → In a s.unreduced
    pub divides : T (divisible mesh (shard_sizes mesh sizes s.dims) Ss)

  abbrev pub Facts : Step → Sharding → Type 0
  Facts (all_slice Ss) s = SliceFacts Ss s
  Facts (all_gather Gs) s = GatherFacts Gs s
  Facts (all_reduce L) s = ReduceFacts L s
  Facts (all_to_all source target L) s = ToAllFacts source target L s
  Facts (reduce_scatter Ss) s = ScatterFacts Ss s

  -- a slice on the lists
  slice-inv : (k : ℕ) (Ss : List (List ℕ)) (s r : Sharding) → slice_on mesh sizes k Ss s ≡ accept r
      → T (divisible mesh (shard_sizes mesh sizes s.dims) Ss) × (sliced Ss s ≡ r)
  unfolding slice_on
  slice-inv k Ss s r e =
      let t : Bool = divisible mesh (shard_sizes mesh sizes s.dims) Ss in
      let p : T t × (accept (sliced Ss s) ≡ accept r) = need-inv k t 25 (accept (sliced Ss s)) r e in
      (p.0, accept-inj p.1)

  kind-facts : (k : ℕ) (t : Step) (s r : Sharding) → judge_kind mesh sizes k t s ≡ accept r → Facts t s × (after t s ≡ r)
  unfolding judge_kind after
  kind-facts k (all_slice Ss) s r e =
      let p : T (fresh (named s) (flat Ss)) × (slice_on mesh sizes k Ss s ≡ accept r) = need-inv k (fresh (named s) (flat Ss)) 23 (slice_on mesh sizes k Ss s) r e in
      let q : T (divisible mesh (shard_sizes mesh sizes s.dims) Ss) × (sliced Ss s ≡ r) = slice-inv k Ss s r p.1 in
      let f : Distinct (flat Ss) × ((a : ℕ) → In a (flat Ss) → ¬ In a (named s)) = fresh-distinct (named s) (flat Ss) p.0 in
      (record { once = f.0; off = f.1; divides = q.0 }, q.1)
  kind-facts k (all_gather Gs) s r e = let p : T (both is_tail s.dims Gs) × (gathered Gs s ≡ r) = gather-inv k Gs s r e in (record { tailed = p.0 }, p.1)
  kind-facts k (all_reduce L) s r e =
      let m : Judged Sharding = accept (reduced L s) in
      let p : T (increasing_from 0 L) × (_ ≡ accept r) = need-inv k (increasing_from 0 L) 26 _ r e in
      let U : List ℕ = flat s.dims ++ s.replicated in
      let q : T (none_in L U) × (m ≡ accept r) = need-inv k (none_in L U) 27 m r p.1 in
      (record { once = increasing-distinct 0 L p.0; off = λ a i j. none_in-off L U q.0 a i (in_left a (flat s.dims) s.replicated j) }, accept-inj q.1)
  kind-facts k (all_to_all source target L) s r e =
      let n : ℕ = length s.dims in
      let p : T (two_dims n source target) × (_ ≡ accept r) = need-inv k (two_dims n source target) 28 _ r e in
      let f : (source < n) × (target < n) × (source ≢ target) = two_dims-facts n source target p.0 in
      let b : (g : Sharding) × (gather_off k (only n source L) s ≡ accept g) × (slice_on mesh sizes k (only n target L) g ≡ accept r) =
      bind_inv (gather_off k (only n source L) s) (λ g. slice_on mesh sizes k (only n target L) g) r p.1 in
      let g : T (both is_tail s.dims (only n source L)) × (gathered (only n source L) s ≡ b.0) = gather-inv k (only n source L) s b.0 b.1 in
      let h : slice_on mesh sizes k (only n target L) (gathered (only n source L) s) ≡ accept r =
      subst (λ (z : Sharding). slice_on mesh sizes k (only n target L) z ≡ accept r) (sym g.1) b.2 in
      let q : T (divisible mesh (shard_sizes mesh sizes (gathered (only n source L) s).dims) (only n target L)) × (sliced (only n target L) (gathered (only n source L) s) ≡ r) =
      slice-inv k (only n target L) (gathered (only n source L) s) r h in
      (record { source-lt = f.0; target-lt = f.1; other = f.2; tailed = g.0; divides = unfold gathered in q.0 }, q.1)
  kind-facts k (reduce_scatter Ss) s r e =
      let L : List ℕ = flat Ss in
      let p : T (fresh [] L) × (_ ≡ accept r) = need-inv k (fresh [] L) 23 _ r e in
      let u : T (all_in L s.unreduced) × (slice_on mesh sizes k Ss (reduced L s) ≡ accept r) = need-inv k (all_in L s.unreduced) 27 _ r p.1 in
      let q : T (divisible mesh (shard_sizes mesh sizes (reduced L s).dims) Ss) × (sliced Ss (reduced L s) ≡ r) = slice-inv k Ss (reduced L s) r u.1 in
      (record { once = (fresh-distinct [] L p.0).0; unreduced = all_in-in L s.unreduced u.0; divides = unfold reduced in q.0 }, q.1)

  -- An accepted step names axes of the mesh, passes the tests of its kind, and its sharding is the one after it.
  pub record AcceptedStep (t : Step) (s : Sharding) : Type 0 where
    pub axes : (a : ℕ) → In a (step_axes t) → a < length mesh
    pub by_kind : Facts t s

  pub facts : (k : ℕ) (t : Step) (s r : Sharding) → judge_step mesh sizes k t s ≡ accept r → AcceptedStep t s × (after t s ≡ r)
  unfolding judge_step
  facts k t s r e =
      let p = then-inv (judge_named (length mesh) k (step_axes t)) (judge_kind mesh sizes k t s) r e in
      let q : T (some (step_axes t)) × T (all_below (length mesh) (step_axes t)) = named-inv (length mesh) k (step_axes t) p.0.1 in
      let f : Facts t s × (after t s ≡ r) = kind-facts k t s r p.1 in
      (record { axes = all_below-lt (length mesh) (step_axes t) q.1; by_kind = f.0 }, f.1)

-- ---- what a sharding names

module _ (mesh sizes : List ℕ) where
  -- the axes along which shards vary, apart from the explicitly replicated ones
  pub record Varies (s : Sharding) : Type 0 where
    pub of_mesh : (a : ℕ) → In a (varying s) → a < length mesh
    pub once : Distinct (varying s)
    pub off : (a : ℕ) → In a (varying s) → ¬ In a s.replicated

  pub varies : (s : Sharding) → IsSharding mesh sizes s → Varies s
  varies s h =
      let p : Distinct (varying s) × Distinct s.replicated × ((a : ℕ) → In a (varying s) → ¬ In a s.replicated) =
      distinct-split (varying s) s.replicated h.once in
      record { of_mesh = λ a i. h.of_mesh a (in_left a (varying s) s.replicated i); once = p.0; off = p.2 }

  -- other lists beside the same replicated list
  beside : (dims : List (List ℕ)) (unreduced : List ℕ) (s : Sharding) → IsSharding mesh sizes s → T (divisible mesh sizes dims)
      → Varies (record { dims = dims; unreduced = unreduced; replicated = s.replicated })
      → IsSharding mesh sizes (record { dims = dims; unreduced = unreduced; replicated = s.replicated })
  beside dims unreduced s h d v =
      let l : List ℕ = flat dims ++ unreduced in
      record {
        of_mesh = λ a i. ⊎_elim (v.of_mesh a) (λ j. h.of_mesh a (in_right a (varying s) s.replicated j)) (in-append a l s.replicated i);
        once = distinct_append l s.replicated v.once (distinct-split (varying s) s.replicated h.once).1 (λ a i j. v.off a j i);
        divides = d;
      }

-- ---- the sharding after an accepted step is one, in the shape that the step itself leaves

module _ (mesh sizes : List ℕ) (pos : (a : ℕ) → zero < get_or mesh a 1) where
  abbrev shape_of : Sharding → List ℕ
  shape_of s = shard_sizes mesh sizes s.dims

  pub sharding-cut : (s : Sharding) → IsSharding mesh sizes s → Cut mesh s.dims sizes (shape_of s)
  sharding-cut s h = cut-divisible mesh sizes s.dims h.divides

  -- as many shard sizes as lists
  pub shape-length : (s : Sharding) → IsSharding mesh sizes s → length (shape_of s) ≡ length s.dims
  shape-length s h = sym (cut-lengths mesh (sharding-cut s h)).1

  -- an all-slice: the sharding after it, the pieces of its shards, and the announced sizes
  pub record Sliced (Ss : List (List ℕ)) (s : Sharding) : Type 0 where
    pub after-it : IsSharding mesh sizes (sliced Ss s)
    pub one_each : length s.dims ≡ length Ss
    pub pieces : Cut mesh Ss (shape_of s) (shard_sizes mesh (shape_of s) Ss)
    pub announced : shard_sizes mesh (shape_of s) Ss ≡ shape_of (sliced Ss s)

  pub slice-sharding : (Ss : List (List ℕ)) (s : Sharding) → IsSharding mesh sizes s → ((a : ℕ) → In a (flat Ss) → a < length mesh)
      → SliceFacts mesh sizes Ss s → Sliced Ss s
  unfolding sliced
  slice-sharding Ss s h below f =
      let d : List (List ℕ) = each ◌++◌ s.dims Ss in
      let v : Varies mesh sizes s = varies mesh sizes s h in
      let p : Distinct (flat s.dims) × Distinct s.unreduced × ((a : ℕ) → In a (flat s.dims) → ¬ In a s.unreduced) =
      distinct-split (flat s.dims) s.unreduced v.once in
      let l : (a : ℕ) → In a (flat s.dims) → In a (varying s) = λ a i. in_left a (flat s.dims) s.unreduced i in
      let r : (a : ℕ) → In a s.unreduced → In a (varying s) = λ a i. in_right a (flat s.dims) s.unreduced i in
      let off : (a : ℕ) → In a (flat Ss) → ¬ In a (varying s) = λ a i j. f.off a i (in_left a (varying s) s.replicated j) in
      let c : Cut mesh Ss (shape_of s) (shard_sizes mesh (shape_of s) Ss) = cut-divisible mesh (shape_of s) Ss f.divides in
      let w : T (divisible mesh sizes d) × (shard_sizes mesh (shape_of s) Ss ≡ shard_sizes mesh sizes d) =
      cut-is mesh pos (cut-joined mesh (sharding-cut s h) c) in
      record {
        after-it = beside mesh sizes d s.unreduced s h w.0 (record {
          of_mesh = λ a i. ⊎_elim (λ j. ⊎_elim (λ k. v.of_mesh a (l a k)) (below a) (of-joined a s.dims Ss j)) (λ j. v.of_mesh a (r a j)) (in-append a (flat d) s.unreduced i);
          once = distinct_append (flat d) s.unreduced (distinct-joined s.dims Ss p.0 f.once (λ a i j. off a i (l a j))) p.1
              (λ a i j. ⊎_elim (λ k. p.2 a k i) (λ k. off a k (r a i)) (of-joined a s.dims Ss j));
          off = λ a i j. ⊎_elim
              (λ k. ⊎_elim (λ m. v.off a (l a m) j) (λ m. f.off a m (in_right a (varying s) s.replicated j)) (of-joined a s.dims Ss k))
              (λ k. v.off a (r a k) j) (in-append a (flat d) s.unreduced i);
        });
        one_each = (cut-lengths mesh (sharding-cut s h)).1 ∙ sym (cut-lengths mesh c).0;
        pieces = c;
        announced = w.1;
      }

  -- an all-gather: the sharding after it, what was cut off, the wholes of its shards, and the announced sizes
  pub record Gathered (Gs : List (List ℕ)) (s : Sharding) : Type 0 where
    pub after-it : IsSharding mesh sizes (gathered Gs s)
    pub joined : each ◌++◌ (each cut_tail s.dims Gs) Gs ≡ s.dims
    pub one_each : length s.dims ≡ length Gs
    pub apart : Apart (each cut_tail s.dims Gs) Gs
    pub cut_off : (a : ℕ) → In a (flat Gs) → In a (flat s.dims)
    pub wholes : Cut mesh Gs (grown mesh Gs (shape_of s)) (shape_of s)
    pub announced : grown mesh Gs (shape_of s) ≡ shape_of (gathered Gs s)

  pub gather-sharding : (Gs : List (List ℕ)) (s : Sharding) → IsSharding mesh sizes s → GatherFacts mesh sizes Gs s → Gathered Gs s
  unfolding gathered
  gather-sharding Gs s h f =
      let d : List (List ℕ) = each cut_tail s.dims Gs in
      let j : each ◌++◌ d Gs ≡ s.dims = tails-joined s.dims Gs f.tailed in
      let n : length s.dims ≡ length Gs = both-length is_tail s.dims Gs f.tailed in
      let m : length d ≡ length Gs = length-each cut_tail s.dims Gs n in
      let v : Varies mesh sizes s = varies mesh sizes s h in
      let p : Distinct (flat s.dims) × Distinct s.unreduced × ((a : ℕ) → In a (flat s.dims) → ¬ In a s.unreduced) =
      distinct-split (flat s.dims) s.unreduced v.once in
      let q : Apart d Gs = split-joined d Gs m (subst (λ (z : List (List ℕ)). Distinct (flat z)) (sym j) p.0) in
      let l : (a : ℕ) → In a (flat d) → In a (flat s.dims) = λ a i. subst (λ (z : List (List ℕ)). In a (flat z)) j (joined-left a d Gs m i) in
      let r : (a : ℕ) → In a (flat Gs) → In a (flat s.dims) = λ a i. subst (λ (z : List (List ℕ)). In a (flat z)) j (joined-right a d Gs m i) in
      let c : Cut mesh Gs (grown mesh Gs (shape_of s)) (shape_of s) × Cut mesh d sizes (grown mesh Gs (shape_of s)) =
      cut-grown mesh d Gs m (subst (λ (z : List (List ℕ)). Cut mesh z sizes (shape_of s)) (sym j) (sharding-cut s h)) in
      let w : T (divisible mesh sizes d) × (grown mesh Gs (shape_of s) ≡ shard_sizes mesh sizes d) = cut-is mesh pos c.1 in
      let kept : (a : ℕ) → In a (flat d ++ s.unreduced) → In a (varying s) =
      λ a i. ⊎_elim (λ k. in_left a (flat s.dims) s.unreduced (l a k)) (in_right a (flat s.dims) s.unreduced) (in-append a (flat d) s.unreduced i) in
      record {
        after-it = beside mesh sizes d s.unreduced s h w.0 (record {
          of_mesh = λ a i. v.of_mesh a (kept a i);
          once = distinct_append (flat d) s.unreduced q.left p.1 (λ a i k. p.2 a (l a k) i);
          off = λ a i. v.off a (kept a i);
        });
        joined = j;
        one_each = n;
        apart = q;
        cut_off = r;
        wholes = c.0;
        announced = w.1;
      }

  pub reduce-sharding : (L : List ℕ) (s : Sharding) → IsSharding mesh sizes s → IsSharding mesh sizes (reduced L s)
  unfolding reduced
  reduce-sharding L s h =
      let v : Varies mesh sizes s = varies mesh sizes s h in
      let p : Distinct (flat s.dims) × Distinct s.unreduced × ((a : ℕ) → In a (flat s.dims) → ¬ In a s.unreduced) =
      distinct-split (flat s.dims) s.unreduced v.once in
      let kept : (a : ℕ) → In a (flat s.dims ++ without s.unreduced L) → In a (varying s) =
      λ a i. ⊎_elim (in_left a (flat s.dims) s.unreduced) (λ k. in_right a (flat s.dims) s.unreduced (of-without a L s.unreduced k)) (in-append a (flat s.dims) _ i) in
      beside mesh sizes s.dims (without s.unreduced L) s h h.divides (record {
        of_mesh = λ a i. v.of_mesh a (kept a i);
        once = distinct_append (flat s.dims) _ p.0 (distinct_without L s.unreduced p.1) (λ a i j. p.2 a j (of-without a L s.unreduced i));
        off = λ a i. v.off a (kept a i);
      })

  -- an all-to-all: its gather, and then its slice
  pub record ToAll (source target : ℕ) (L : List ℕ) (s : Sharding) : Type 0 where
    pub first : Gathered (only (length s.dims) source L) s
    pub second : Sliced (only (length s.dims) target L) (gathered (only (length s.dims) source L) s)

  pub to-all-sharding : (source target : ℕ) (L : List ℕ) (s : Sharding) → IsSharding mesh sizes s → ((a : ℕ) → In a L → a < length mesh)
      → ToAllFacts mesh sizes source target L s → ToAll source target L s
  unfolding gathered
  to-all-sharding source target L s h below f =
      let n : ℕ = length s.dims in
      let Gs : List (List ℕ) = only n source L in
      let Ss : List (List ℕ) = only n target L in
      let g : Gathered Gs s = gather-sharding Gs s h (record { tailed = f.tailed }) in
      let eG : flat Gs ≡ L = flat-only n source L f.source-lt in
      let eS : flat Ss ≡ L = flat-only n target L f.target-lt in
      let into : (a : ℕ) → In a (flat Ss) → In a (flat Gs) = λ a i. subst (In a) (eS ∙ sym eG) i in
      let v : Varies mesh sizes s = varies mesh sizes s h in
      let p : Distinct (flat s.dims) × Distinct s.unreduced × ((a : ℕ) → In a (flat s.dims) → ¬ In a s.unreduced) =
      distinct-split (flat s.dims) s.unreduced v.once in
      let cut : (a : ℕ) → In a (flat Ss) → In a (flat s.dims) = λ a i. g.cut_off a (into a i) in
      record {
        first = g;
        second = slice-sharding Ss (gathered Gs s) g.after-it (λ a i. below a (subst (In a) eS i)) (record {
          once = subst Distinct (eG ∙ sym eS) g.apart.right;
          off = λ a i j. ⊎_elim
              (λ l. ⊎_elim (g.apart.off a (into a i)) (p.2 a (cut a i)) (in-append a (flat (each cut_tail s.dims Gs)) s.unreduced l))
              (v.off a (in_left a (flat s.dims) s.unreduced (cut a i)))
              (in-append a (flat (each cut_tail s.dims Gs) ++ s.unreduced) s.replicated j);
          divides = f.divides;
        });
      }

  -- a reduce-scatter: the slice that follows its reduction is an accepted one
  pub scatter-slices : (Ss : List (List ℕ)) (s : Sharding) → IsSharding mesh sizes s → AcceptedStep mesh sizes (reduce_scatter Ss) s
      → AcceptedStep mesh sizes (all_slice Ss) (reduced (flat Ss) s)
  unfolding reduced
  scatter-slices Ss s h f =
      let L : List ℕ = flat Ss in
      let v : Varies mesh sizes s = varies mesh sizes s h in
      let p : Distinct (flat s.dims) × Distinct s.unreduced × ((a : ℕ) → In a (flat s.dims) → ¬ In a s.unreduced) =
      distinct-split (flat s.dims) s.unreduced v.once in
      record {
        axes = f.axes;
        by_kind = record {
          once = f.by_kind.once;
          off = λ a i j. ⊎_elim
              (λ l. ⊎_elim (λ m. p.2 a m (f.by_kind.unreduced a i)) (not-in-without a L s.unreduced i) (in-append a (flat s.dims) (without s.unreduced L) l))
              (v.off a (in_right a (flat s.dims) s.unreduced (f.by_kind.unreduced a i)))
              (in-append a (flat s.dims ++ without s.unreduced L) s.replicated j);
          divides = f.by_kind.divides;
        };
      }

  pub scatter-sharding : (Ss : List (List ℕ)) (s : Sharding) → IsSharding mesh sizes s → AcceptedStep mesh sizes (reduce_scatter Ss) s
      → Sliced Ss (reduced (flat Ss) s)
  scatter-sharding Ss s h f =
      let g : AcceptedStep mesh sizes (all_slice Ss) (reduced (flat Ss) s) = scatter-slices Ss s h f in
      slice-sharding Ss (reduced (flat Ss) s) (reduce-sharding (flat Ss) s h) g.axes g.by_kind

  -- The sharding after an accepted step is one.
  pub after-sharding : (t : Step) (s : Sharding) → IsSharding mesh sizes s → AcceptedStep mesh sizes t s → IsSharding mesh sizes (after t s)
  unfolding after
  after-sharding (all_slice Ss) s h f = (slice-sharding Ss s h f.axes f.by_kind).after-it
  after-sharding (all_gather Gs) s h f = (gather-sharding Gs s h f.by_kind).after-it
  after-sharding (all_reduce L) s h f = reduce-sharding L s h
  after-sharding (all_to_all source target L) s h f = (to-all-sharding source target L s h f.axes f.by_kind).second.after-it
  after-sharding (reduce_scatter Ss) s h f = (scatter-sharding Ss s h f).after-it

  -- The shape that an accepted step itself leaves is the announced one.
  pub after-shape : (t : Step) (s : Sharding) → IsSharding mesh sizes s → AcceptedStep mesh sizes t s → shape_after mesh t (shape_of s) ≡ shape_of (after t s)
  unfolding after reduced
  after-shape (all_slice Ss) s h f = (slice-sharding Ss s h f.axes f.by_kind).announced
  after-shape (all_gather Gs) s h f = (gather-sharding Gs s h f.by_kind).announced
  after-shape (all_reduce L) s h f = refl
  after-shape (all_to_all source target L) s h f =
      let w : ToAll source target L s = to-all-sharding source target L s h f.axes f.by_kind in
      rw (shape-length s h) (ap (λ (z : List ℕ). shard_sizes mesh z (only (length s.dims) target L)) w.first.announced ∙ w.second.announced)
  after-shape (reduce_scatter Ss) s h f = (scatter-sharding Ss s h f).announced
