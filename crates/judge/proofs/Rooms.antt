-- Lists that a slice joins to a sharding's have places: no axis is named twice, and a mesh has no more axes than a list has places.
-- Of an all-slice `fresh-room`, of a reduce-scatter `scatter-room`, of the second half of an all-to-all `moved-room`. Assumes nothing.
use Prim.Native.Nat.{ℕ, ◌≤◌, ◌<◌}
use mathlib.Core.Path.{◌≡◌, sym, ◌∙◌, subst}
use mathlib.Core.Logic.{⊎_elim}
use mathlib.Core.List.{List, [], ◌++◌}
use native.Mathlib.Omega.{arith}
use lib.Dec.{T}
use lib.ListN.{length, get_or, length-append}
use Rattle.rules.specs.Lists.{each, both, flat, In, Distinct}
use Rattle.rules.specs.Limits.{most_axes}
use Rattle.rules.specs.Sharding.{Sharding, IsSharding, varying, named}
use Rattle.rules.specs.Collectives.{only, cut_tail, gathered}
use Rattle.rules.specs.PlanFile.{all_below, fresh, is_tail, all_in}
use Rattle.laws.proofs.Lists.{in_left, in-append, at-flat, distinct-split, distinct_append, distinct-at, few-distinct, Apart}
use Rattle.laws.proofs.Judging.{all_below-lt, fresh-distinct, all_in-in}
use Rattle.laws.proofs.Steps.{flat-only, varies, Gathered, gather-sharding}
use Rattle.dims.specs.Dims.{Room}

room : (n : ℕ) (ds Ss : List (List ℕ)) → n ≤ most_axes → Apart ds Ss → ((a : ℕ) → In a (flat ds) → a < n) → ((a : ℕ) → In a (flat Ss) → a < n)
    → Room ds Ss
room n ds Ss w p h k d =
    let l = get_or ds d [] in
    let t = get_or Ss d [] in
    let off : (a : ℕ) → In a t → ¬ In a l = λ a i j. p.off a (at-flat a Ss d i) (at-flat a ds d j) in
    let below : (a : ℕ) → In a (l ++ t) → a < n = λ a i. ⊎_elim (λ j. h a (at-flat a ds d j)) (λ j. k a (at-flat a Ss d j)) (in-append a l t i) in
    omega (
      arith,
      length-append l t,
      few-distinct n (l ++ t) (distinct_append l t (distinct-at ds d p.left) (distinct-at Ss d p.right) off) below,
    )

-- an axis of a dimension's list is named
in-dims : (s : Sharding) (a : ℕ) → In a (flat s.dims) → In a (named s)
in-dims s a i = in_left a (varying s) s.replicated (in_left a (flat s.dims) s.unreduced i)

module _ (mesh sizes : List ℕ) (s : Sharding) (g : IsSharding mesh sizes s) (w : length mesh ≤ most_axes) where
  pub fresh-room : (Ss : List (List ℕ)) → T (all_below (length mesh) (flat Ss)) → T (fresh (named s) (flat Ss)) → Room s.dims Ss
  fresh-room Ss b f =
      let r = fresh-distinct (named s) (flat Ss) f in
      room (length mesh) s.dims Ss w (record {
        left = (distinct-split (flat s.dims) s.unreduced (varies mesh sizes s g).once).0;
        right = r.0;
        off = λ a i j. r.1 a i (in-dims s a j);
      }) (λ a i. g.of_mesh a (in-dims s a i)) (all_below-lt (length mesh) (flat Ss) b)

  pub scatter-room : (Ss : List (List ℕ)) → T (all_below (length mesh) (flat Ss)) → T (fresh [] (flat Ss)) → T (all_in (flat Ss) s.unreduced)
      → Room s.dims Ss
  scatter-room Ss b f u =
      let p = distinct-split (flat s.dims) s.unreduced (varies mesh sizes s g).once in
      room (length mesh) s.dims Ss w (record {
        left = p.0;
        right = (fresh-distinct [] (flat Ss) f).0;
        off = λ a i j. p.2 a j (all_in-in (flat Ss) s.unreduced u a i);
      }) (λ a i. g.of_mesh a (in-dims s a i)) (all_below-lt (length mesh) (flat Ss) b)

  module _ (pos : (a : ℕ) → 0 < get_or mesh a 1) (source target : ℕ) (L : List ℕ) (b : T (all_below (length mesh) L)) (rank : ℕ) (p : source < rank)
      (q : target < rank) (t : T (both is_tail s.dims (only rank source L))) where
    pub moved-room : Room (gathered (only rank source L) s).dims (only rank target L)
    unfolding gathered
    moved-room =
        let Gs : List (List ℕ) = only rank source L in
        let Ss : List (List ℕ) = only rank target L in
        let e : Gathered mesh sizes pos Gs s = gather-sharding mesh sizes pos Gs s g (record { tailed = t }) in
        let gs : flat Gs ≡ L = flat-only rank source L p in
        let ss : flat Ss ≡ L = flat-only rank target L q in
        room (length mesh) (each cut_tail s.dims Gs) Ss w (record {
          left = e.apart.left;
          right = subst Distinct (gs ∙ sym ss) e.apart.right;
          off = λ a i. e.apart.off a (subst (In a) (ss ∙ sym gs) i);
        }) (λ a i. e.after-it.of_mesh a (in-dims (gathered Gs s) a i))
        (λ a i. all_below-lt (length mesh) L b a (subst (In a) ss i))
