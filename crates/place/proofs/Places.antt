-- The placement is a state and a device, by its place: refusals and answer, and that a device's blocks begin within the table. Assumes nothing.
use Rattle.std.specs.Prelude.{Ok, Err}
use Prim.Native.Nat.{ℕ, zero, suc, ◌+◌, ◌*◌, ◌≤◌, ◌<◌}
use mathlib.Core.Path.{◌≡◌, refl, sym, ap, ◌∙◌, subst}
use mathlib.Core.Bool.{Bool, true, false}
use mathlib.Core.List.{List, []}
use native.Mathlib.Omega.{arith}
use native.Mathlib.Nat.{mul-le-mul, mul_comm, le_trans}
use borrow.Author.Tests.{lt-ltb, le-ltb}
use lib.ListN.{length, get_or, take}
use Rattle.rules.specs.Lists.{tab, product, Below}
use Rattle.rules.specs.Mesh.{span, position, devices, plain_order, coords, place_in}
use Rattle.rules.specs.Sharding.{first_indexes}
use Rattle.rules.specs.Limits.{most_devices, most_words}
use Rattle.rules.specs.Refusals.{accept, refuse}
use Rattle.types.specs.Answers.{refused_with}
use Rattle.rules.specs.PlanFile.{u16_at, edition, carries_order, Plan, announced, announced_shape, StateAnswer, steps_run, state_of}
use Rattle.types.specs.Types.{sharding_of, dims_of, mesh_of, sizes_of}
use Rattle.rules.specs.Calls.{place_of}
use Rattle.types.specs.declared.Refusal.{Refusal}
use Rattle.laws.proofs.Positions.{pos_of_lt, position-lt}
use Rattle.laws.proofs.Buffers.{below-coords}
use Rattle.laws.proofs.Orders.{plain-rearranged, place-below, place-of}
use Rattle.laws.proofs.Lists.{get_or-tab}
use Rattle.laws.proofs.Shapes.{Cut, uncut, cut}
use Rattle.laws.proofs.Sizes.{cut-divisible}
use Rattle.laws.proofs.Accepted.{AcceptedPlan, accepted, state-inv}
use Rattle.laws.proofs.Room.{state}
use Rattle.reader.specs.Reading.{order_of, order_in}
use Rattle.mesh.specs.Fitting.{IsPlace}
use Rattle.plan.specs.Parts.{state_at, state_answer, StateTells, Shaped}
use Rattle.plan.specs.declared.State as code
use Rattle.plan.proofs.States.{state-on, state-stopped}
use Rattle.place.specs.Placing.{Placing}

-- ---- a block begins within the table

module _ (mesh : List ℕ) where
  blocks-few : {Ss : List (List ℕ)} {wholes pieces x : List ℕ} → Cut mesh Ss wholes pieces → Below x mesh → 0 < product wholes
      → (j : ℕ) → position mesh (get_or Ss j []) x * get_or pieces j 0 < product wholes
  blocks-few uncut b h zero = omega arith
  blocks-few uncut b h (suc j) = omega arith
  blocks-few {x = x} (cut {S} {Ss} {whole} {piece} {wholes} {pieces} e c) b h zero =
      let rest : 1 ≤ product wholes = pos_of_lt whole (product wholes) h in
      let one : 1 ≤ whole = pos_of_lt {q = 0} (product wholes) whole (rw (mul_comm (product wholes) whole) h) in
      let some : 0 < piece = pos_of_lt {q = 0} (span mesh S) piece (omega (arith, one, mul_comm (span mesh S) piece, e)) in
      let block : (position mesh S x + 1) * piece ≤ span mesh S * piece = mul-le-mul (omega (arith, position-lt mesh S b)) (omega arith) in
      let all : whole * 1 ≤ whole * product wholes = mul-le-mul (omega arith) rest in
      omega (arith, block, all, some, mul_comm (span mesh S) piece, e)
  blocks-few {x = x} (cut {S} {Ss} {whole} {piece} {wholes} {pieces} e c) b h (suc j) =
      let rest : 0 < product wholes = pos_of_lt whole (product wholes) h in
      let one : 1 ≤ whole = pos_of_lt {q = 0} (product wholes) whole (rw (mul_comm (product wholes) whole) h) in
      let all : 1 * product wholes ≤ whole * product wholes = mul-le-mul one (omega arith) in
      omega (arith, blocks-few c b rest j, all)

-- ---- the place of a device

module _ (file : List ℕ) (n devices d : ℕ) where
  pub place-plain : d < devices → carries_order (edition file) ≡ false → d ≡ place_in d (order_in file n devices)
  place-plain l c =
      sym (ap (λ (b : Bool). place_in d (order_of b devices file (18 + 2 * n))) c
      ∙ ap (λ (k : ℕ). place_in k (plain_order devices)) (sym (get_or-tab devices d (λ k. k) 0 l))
      ∙ place-of devices (plain_order devices) (plain-rearranged devices) d l)

  pub place-carried : carries_order (edition file) ≡ true → place_in d (order_in file n devices) ≡ place_in d (tab devices (λ i. u16_at file (18 + 2 * n + 2 * i)))
  place-carried c = ap (λ (b : Bool). place_in d (order_of b devices file (18 + 2 * n))) c

-- ---- a device of a state

-- what the first indexes ask for
Within : StateAnswer → ℕ → Type 0
Within a q =
    IsPlace a.mesh q × ((j : ℕ) → position a.mesh (get_or a.sharding.dims j []) (coords a.mesh q) * get_or a.shard j 0 < most_words)

within : (file : List ℕ) (k d : ℕ) (a : StateAnswer) → state_of file k ≡ accept a → d < devices a.mesh → Within a (place_in d a.order)
unfolding announced_shape Within
within file k d a e l =
    let i = state-inv file k a e in
    let p : Plan = i.0 in
    let g : AcceptedPlan p = accepted file p i.1 in
    let lt : place_in d p.order < devices p.mesh =
    place-below (devices p.mesh) p.order g.ordered d (subst (λ (z : StateAnswer). d < devices z.mesh) (sym i.2) l) in
    let n : ℕ = steps_run p k in
    let c = cut-divisible p.mesh p.sizes (announced p n).dims (state g n).sharding.divides in
    subst (λ (z : StateAnswer). Within z (place_in d z.order)) i.2 (
      record {
        on = record {
          axes_some = g.within.axes_some;
          axes_few = g.within.axes_few;
          devices_pos = g.within.devices_pos;
          devices_few = g.within.devices_few;
        };
        below = lt;
      },
      λ j. le_trans (blocks-few p.mesh c (below-coords p.mesh (place_in d p.order) lt) g.within.words_pos j) g.within.words_few,
    )

-- D is within its limit
pub devices_few : (file : List ℕ) (k : ℕ) (r : code.State) → StateTells file (state_at file k) (Ok r) → Shaped r → r.devices ≤ most_devices
devices_few file k r e s =
    let i = state-inv file k (state_answer file r) (state-on file k r e) in
    let g : AcceptedPlan i.0 = accepted file i.0 i.1 in
    let l : devices (mesh_of r.mesh) ≤ most_devices = subst (λ (z : StateAnswer). devices z.mesh ≤ most_devices) i.2 g.within.devices_few in
    omega (arith, s.counted.devices_are, l)

pub placing : (file : List ℕ) (k d : ℕ) (r : code.State) → StateTells file (state_at file k) (Ok r) → Shaped r → d < r.devices → {q : ℕ} → q ≡ place_in d (order_in file r.mesh.n r.devices) → Placing (mesh_of r.mesh) r.sharding.dims r.shard q
unfolding Within
placing file k d r e s l {q} o =
    let w = within file k d (state_answer file r) (state-on file k r e) (subst (λ (n : ℕ). d < n) s.counted.devices_are l) in
    let mesh = mesh_of r.mesh in
    let Few : ℕ → Type 0 = λ n. (j : ℕ) → position mesh (get_or (take n (dims_of r.sharding.dims)) j []) (coords mesh q) * get_or (sizes_of r.shard) j 0 < most_words in
    let v = subst (Within (state_answer file r)) (sym o) w in
    record { place = v.0; rank = s.rank_few; few = subst Few (sym s.rank_is) v.1 }

-- ---- the placement of a device in a state

module _ (file : List ℕ) (k d : ℕ) where
  pub place-stops : (x : Refusal) → StateTells file (state_at file k) (Err x) → place_of file k d ≡ refused_with x
  unfolding place_of
  place-stops x e = rw (state-stopped file k x e) refl

  module _ (r : code.State) (e : StateTells file (state_at file k) (Ok r)) (s : Shaped r) where
    pub no-device : r.devices ≤ d → place_of file k d ≡ refuse 32 0
    unfolding place_of
    no-device l = rw (state-on file k r e) (simp (le-ltb d (devices (mesh_of r.mesh)) (subst (λ (n : ℕ). n ≤ d) s.counted.devices_are l)))

    pub place_found : d < r.devices → {q : ℕ} → q ≡ place_in d (order_in file r.mesh.n r.devices) → place_of file k d ≡ accept (record {
      rank = r.shard.rank;
      sharding = sharding_of r.shard.rank r.sharding;
      shard = sizes_of r.shard;
      first = first_indexes (mesh_of r.mesh) (take r.shard.rank (dims_of r.sharding.dims)) (sizes_of r.shard) (coords (mesh_of r.mesh) q);
    })
    unfolding place_of
    place_found l {q} o =
        let mesh = mesh_of r.mesh in
        let indexes : ℕ → List ℕ = λ n. first_indexes mesh (take n (dims_of r.sharding.dims)) (sizes_of r.shard) (coords mesh q) in
        let answer : place_of file k d ≡ accept (record {
          rank = length (sizes_of r.table);
          sharding = sharding_of r.table.rank r.sharding;
          shard = sizes_of r.shard;
          first = indexes r.table.rank;
        }) = rw o (rw (state-on file k r e) (simp (lt-ltb d (devices mesh) (subst (λ (n : ℕ). d < n) s.counted.devices_are l)))) in
        answer
        ∙ (λ i. accept (record {
          rank = sym (s.rank_is ∙ s.counted.rank_is) i;
          sharding = sharding_of (sym s.rank_is i) r.sharding;
          shard = sizes_of r.shard;
          first = indexes (sym s.rank_is i);
        }))
