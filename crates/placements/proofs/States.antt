-- A state that was found, as the placement of a list of devices uses it: at least one dimension, an order of its devices, their places, and that each device of
-- the list can be placed. Assumes nothing.
use Rattle.std.specs.Prelude.{Ok}
use Prim.Native.Nat.{ℕ, ◌*◌, ◌≤◌, ◌<◌}
use mathlib.Core.Path.{◌≡◌, sym, ap, ◌∙◌, subst}
use mathlib.Core.List.{List, [], ◌++◌, map}
use native.Mathlib.Omega.{arith}
use lib.ListN.{length, get_or, take, drop}
use Rattle.rules.specs.Lists.{flat}
use Rattle.rules.specs.Mesh.{devices as devices_of, place_in, coords, Rearrangement}
use Rattle.rules.specs.Sharding.{first_indexes}
use Rattle.rules.specs.Refusals.{accept}
use Rattle.rules.specs.PlanFile.{Plan, announced, announced_shape, steps_run, StateAnswer, state_of}
use Rattle.types.specs.Types.{dims_of, mesh_of, sizes_of}
use Rattle.laws.proofs.Lists.{get_or-tab, length-tab}
use Rattle.laws.proofs.Shapes.{cut-lengths}
use Rattle.laws.proofs.Sizes.{cut-divisible}
use Rattle.laws.proofs.Room.{state}
use Rattle.laws.proofs.Accepted.{AcceptedPlan, accepted, state-inv}
use Rattle.reader.specs.Reading.{order_in}
use Rattle.order.specs.Order.{places_of}
use Rattle.plan.specs.Parts.{state_at, state_answer, StateTells, Shaped}
use Rattle.plan.specs.declared.State as code
use Rattle.plan.proofs.States.{state-on}
use Rattle.place.proofs.Places.{placing}
use Rattle.placements.specs.PlaceAll.{PlaceAllPromise}
use Rattle.placements.specs.Placing.{leading, firsts_at, PlacingAll}
use Rattle.placements.proofs.Firsts.{led-below, Even, firsts-even}
use Rattle.placements.proofs.Promises.{indexesOf, placed}

module _ (file : List ℕ) (k : ℕ) (r : code.State) (e : StateTells file (state_at file k) (Ok r)) (s : Shaped r) where
  pub on : state_of file k ≡ accept (state_answer file r)
  on = state-on file k r e

  pub rank_is : length (sizes_of r.table) ≡ r.shard.rank
  rank_is = sym (s.rank_is ∙ s.counted.rank_is)

  found : (p : Plan) × AcceptedPlan p × (p.order ≡ order_in file r.mesh.n r.devices) × (p.sizes ≡ sizes_of r.table) × (p.mesh ≡ mesh_of r.mesh)
  found =
      let i = state-inv file k (state_answer file r) on in
      (i.0, accepted file i.0 i.1, ap (λ (a : StateAnswer). a.order) i.2, ap (λ (a : StateAnswer). a.sizes) i.2, ap (λ (a : StateAnswer). a.mesh) i.2)

  pub rank_some : 1 ≤ r.shard.rank
  rank_some = subst (λ (n : ℕ). 1 ≤ n) (ap length found.3 ∙ rank_is) found.1.within.rank_some

  pub ordered : Rearrangement r.devices (order_in file r.mesh.n r.devices)
  ordered =
      let o = found.1.ordered in
      subst (λ (d : ℕ). Rearrangement d (order_in file r.mesh.n r.devices)) (ap devices_of found.4 ∙ sym s.counted.devices_are)
      (subst (λ (l : List ℕ). Rearrangement (devices_of found.0.mesh) l) found.2 o)

  -- lists and sizes are as many as the rank
  pub lengths : (length (take r.shard.rank (dims_of r.sharding.dims)) ≡ r.shard.rank) × (length (sizes_of r.shard) ≡ r.shard.rank)
  unfolding announced_shape
  lengths =
      let i = state-inv file k (state_answer file r) on in
      let p : Plan = i.0 in
      let n : ℕ = steps_run p k in
      let c = cut-divisible p.mesh p.sizes (announced p n).dims (state (accepted file p i.1) n).sharding.divides in
      let l = cut-lengths p.mesh c in
      let alike : (length (state_answer file r).sharding.dims ≡ length (sizes_of r.table)) × (length (sizes_of r.shard) ≡ length (sizes_of r.table)) =
      subst (λ (a : StateAnswer). (length a.sharding.dims ≡ length a.sizes) × (length a.shard ≡ length a.sizes)) i.2 (l.0, sym l.1 ∙ l.0) in (
        ap (λ (m : ℕ). length (take m (dims_of r.sharding.dims))) s.rank_is ∙ alike.0 ∙ rank_is,
        alike.1 ∙ rank_is,
      )

  -- the place of a device
  pub place_is : (d : ℕ) → d < r.devices → get_or (places_of (order_in file r.mesh.n r.devices)) d 0 ≡ place_in d (order_in file r.mesh.n r.devices)
  unfolding places_of
  place_is d l =
      let order = order_in file r.mesh.n r.devices in
      get_or-tab (length order) d (λ c. place_in c order) 0 (subst (λ (n : ℕ). d < n) (sym ordered.size) l)

  many : length (places_of (order_in file r.mesh.n r.devices)) ≡ r.devices
  unfolding places_of
  many =
      let order = order_in file r.mesh.n r.devices in
      length-tab (length order) (λ c. place_in c order) ∙ ordered.size

  -- its first indexes, by the rules and by its place
  same-indexes : (places : List ℕ) → places ≡ places_of (order_in file r.mesh.n r.devices) → (d : ℕ) → d < r.devices
      → indexesOf file k [] [] (state_answer file r) on d ≡ firsts_at (mesh_of r.mesh) r.sharding.dims r.shard places d
  same-indexes places p d l =
      let at : ℕ → ℕ → List ℕ = λ n q. first_indexes (mesh_of r.mesh) (take n (dims_of r.sharding.dims)) (sizes_of r.shard) (coords (mesh_of r.mesh) q) in
      ap (λ (n : ℕ). at n (place_in d (order_in file r.mesh.n r.devices))) (sym s.rank_is)
      ∙ ap (at r.shard.rank) (sym (ap (λ (q : List ℕ). get_or q d 0) p ∙ place_is d l))

  -- all devices of the list are there
  module _ (devices : List ℕ) (all : leading r.devices devices ≡ length devices) where
    pub there : (i : ℕ) → i < length devices → get_or devices i 0 < r.devices
    there i l = led-below r.devices devices i (omega (arith, all))

    pub all-placing : (places : List ℕ) (room : ℕ) → places ≡ places_of (order_in file r.mesh.n r.devices)
        → length devices * r.shard.rank ≤ room
        → PlacingAll (mesh_of r.mesh) r.sharding.dims r.shard places devices room
    all-placing places room p fits = record {
      lists = lengths.0;
      sizes = lengths.1;
      below = λ i l. subst (λ (n : ℕ). get_or devices i 0 < n) (sym (ap length p ∙ many)) (there i l);
      placing = λ i l. placing file k (get_or devices i 0) r e s (there i l) (ap (λ (q : List ℕ). get_or q (get_or devices i 0) 0) p ∙ place_is (get_or devices i 0) (there i l));
      fits = fits;
    }

    -- so that the promise holds of what was written
    pub all_placed : (places out : List ℕ) → places ≡ places_of (order_in file r.mesh.n r.devices)
        → PlacingAll (mesh_of r.mesh) r.sharding.dims r.shard places devices (length out)
        → PlaceAllPromise file k devices out (record { outcome = Ok tt; place = 0 })
        (flat (map (firsts_at (mesh_of r.mesh) r.sharding.dims r.shard places) devices) ++ drop (length devices * r.shard.rank) out)
    all_placed places out p g =
        let first = firsts_at (mesh_of r.mesh) r.sharding.dims r.shard places in
        let fits : length devices * length (sizes_of r.table) ≤ length out = subst (λ (n : ℕ). length devices * n ≤ length out) (sym rank_is) g.fits in
        subst (λ (n : ℕ). PlaceAllPromise file k devices out (record { outcome = Ok tt; place = 0 }) (flat (map first devices) ++ drop (length devices * n) out)) rank_is
        (placed file k devices out (state_answer file r) on fits first (subst (λ (n : ℕ). Even first n devices) (sym rank_is) (firsts-even g))
        (λ i l. (subst (λ (n : ℕ). get_or devices i 0 < n) s.counted.devices_are (there i l), same-indexes places p (get_or devices i 0) (there i l))))
