-- Laws of C's structs: the six lists, one by one and all, and their places; a step of the library is its record in numbers (`step-numbers`). Assumes nothing.
use Prim.Native.Nat.{ℕ, zero, suc, ◌+◌, ◌*◌, ◌-◌, ◌/◌, ◌%◌, ◌≤◌}
use mathlib.Core.Path.{◌≡◌, refl, ap, ◌∙◌}
use mathlib.Core.List.{List, [], ◌∷◌, ◌++◌, map, append-nil}
use borrow.Rule.Slice.PartMut.{put_mid}
use lib.ListN.{length, get_or, drop, replicate}
use lib.Arith.{digits_div, digits_mod}
use Rattle.rules.specs.Lists.{tab}
use Rattle.rules.specs.Limits.{most_axes, most_dims}
use Rattle.rules.specs.Sharding.{Sharding}
use Rattle.rules.specs.Collectives.{Step, all_slice, all_gather, all_reduce, all_to_all, reduce_scatter}
use Rattle.rules.specs.PlanFile.{plain}
use Rattle.types.specs.Types.{axes_of, dims_of, sharding_of, list_from, lists_from, sharding_from}
use Rattle.laws.proofs.Lists.{tab-cong}
use Rattle.laws.proofs.Fronts.{lent-put}
use Rattle.types.proofs.Types.{list-axes}
use Rattle.records.specs.Forms.{six_places}
use Rattle.records.specs.RoundTrip.{ShortLists, ShortSharding, ShortStep}
use Rattle.records.specs.PlanAnswer.{step_record_of}
use Rattle.marshal.specs.Structs.{places, lists_of, axis_among, sharding_reply, step_reply, record_reply, step_numbers}

-- the six places of a list among all
pub six-places : (ls : List (List ℕ)) (d : ℕ) (l : List ℕ) → l ≡ get_or ls d [] → six_places l ≡ tab most_axes (λ i. axis_among ls (d * most_axes + i))
six-places ls d l e =
    tab-cong most_axes (λ i. get_or l i 0) (λ i. axis_among ls (d * most_axes + i)) (λ i h. rw (digits_div d h, digits_mod d h, e))

-- ---- answers of the library, where each list has a place for its axes

module _ (s : Sharding) (f : ShortSharding s) where
  pub lists-of : lists_of (sharding_of most_dims (sharding_from s)) ≡ lists_of s
  unfolding dims_of lists_from
  lists-of =
      let list : (d : ℕ) → axes_of (list_from (get_or s.dims d [])) ≡ get_or s.dims d [] = λ d. list-axes (get_or s.dims d []) (f.dims d) in
      (λ i. list 0 i ∷ list 1 i ∷ list 2 i ∷ list 3 i ∷ list-axes s.unreduced f.unreduced i ∷ list-axes s.replicated f.replicated i ∷ [])

  pub sharding-of : sharding_reply (sharding_of most_dims (sharding_from s)) ≡ sharding_reply s
  sharding-of =
      let counts : List (List ℕ) → List ℕ = λ ls. map (λ (l : List ℕ). length l) ls in
      let axes : List (List ℕ) → List ℕ = λ ls. tab places (λ i. get_or (get_or ls (i / most_axes) []) (i % most_axes) 0) in
      (λ i. record { counts = counts (lists-of i); axes = axes (lists-of i) })

-- a step of the library is its record in numbers
module _ (kind source target : ℕ) where
  with-dims : (Ss : List (List ℕ)) → ShortLists Ss → record_reply kind source target (dims_of (lists_from Ss)) [] ≡ record_reply kind source target Ss []
  unfolding dims_of lists_from
  with-dims Ss few =
      let list : (d : ℕ) → axes_of (list_from (get_or Ss d [])) ≡ get_or Ss d [] = λ d. list-axes (get_or Ss d []) (few d) in
      (λ i. record_reply kind source target (list 0 i ∷ list 1 i ∷ list 2 i ∷ list 3 i ∷ []) [])

  with_list : (L : List ℕ) → length L ≤ most_axes → record_reply kind source target [] (axes_of (list_from L)) ≡ record_reply kind source target [] L
  with_list L one = ap (record_reply kind source target []) (list-axes L one)

pub step-numbers : (t : Step) → ShortStep t → step_numbers (step_record_of t) ≡ step_reply (plain t)
step-numbers (all_slice Ss) h = with-dims 1 0 0 Ss h
step-numbers (all_gather Gs) h = with-dims 2 0 0 Gs h
step-numbers (all_reduce L) h = with_list 3 0 0 L h
step-numbers (all_to_all source target L) h = with_list 4 source target L h
step-numbers (reduce_scatter Ss) h = with-dims 5 0 0 Ss h
