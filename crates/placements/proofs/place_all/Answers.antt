use Rattle.std.specs.Prelude.{Ok}
use borrow.Author.Tests.{leb-true, leb-false}
use borrow.Rule.Slice.PartMut.{put_mid}
use native.Mathlib.Omega.{arith}
use native.Mathlib.Nat.{sub-zero}
use Prim.Native.Nat.{ℕ, ◌*◌, ◌-◌, ◌≤◌, ◌<◌}
use mathlib.Core.Path.{◌≡◌, sym, ap, ◌∙◌, subst}
use mathlib.Core.List.{List}
use lib.ListN.{length, take, replicate, length-replicate}
use Rattle.rules.specs.Limits.{most_devices}
use Rattle.rules.specs.Mesh.{Rearrangement}
use Rattle.order.specs.Order.{places_of}
use Rattle.laws.proofs.Fronts.{lent_length, lent-taken}
use Rattle.reader.specs.Reading.{order_in}
use Rattle.plan.proofs.States.{state-stopped}
use Rattle.place.proofs.Places.{devices_few}
use Rattle.plan.specs.Parts.{state_answer}
use Rattle.placements.specs.Placing.{leading}
use Rattle.placements.specs.PlaceAll.{PlaceAllPromise}
use Rattle.placements.specs.declared.PlacedAll.{PlacedAll}
use Rattle.placements.proofs.Promises.{stopped, short, missing}
use Rattle.placements.proofs.States.{on, rank_is, rank_some, ordered, all-placing, all_placed}
use Rattle.placements.proofs.place_all.Goals as goal

abbrev zeros : List ℕ
zeros = replicate most_devices 0

many : length zeros ≡ most_devices
many = length-replicate {A = ℕ} most_devices 0

-- the list of places that was lent, filled and came back is one of every device
found : (file part : List ℕ) (n d : ℕ) → d ≤ most_devices → length part ≡ length (take (d - 0) zeros)
    → part ≡ places_of (order_in file n (length (take (d - 0) zeros))) → take (d - 0) (put_mid 0 (d - 0) zeros part) ≡ places_of (order_in file n d)
found file part n d few size e =
    let lent : length (take (d - 0) zeros) ≡ d = lent_length zeros d (omega (arith, few, many)) in
    ap (λ (k : ℕ). take k (put_mid 0 (d - 0) zeros part)) (sub-zero d) ∙ lent-taken zeros part d (size ∙ lent) ∙ e
    ∙ ap (λ (k : ℕ). places_of (order_in file n k)) lent

pub returns-in-Err : goal.returns-in-Err
returns-in-Err c = let a = c.args in
    let x = c.in-Err.refusal in
    stopped a.file.now a.state a.devices.now a.out.now x (state-stopped a.file.now a.state x c.in-Err.ensures.0)

pub has_room-requires : goal.has_room-requires
has_room-requires c = rank_some _ _ c.in-Ok.found c.in-Ok.ensures.0 c.in-Ok.ensures.1

pub returns-then-not-has_room : goal.returns-then-not-has_room
returns-then-not-has_room c = let a = c.args in
    let r = c.in-Ok.found in
    let t = c.in-Ok.ensures in
    let over = leb-false (length a.devices.now * r.shard.rank) (length a.out.now) (sym c.has_room.ensures ∙ c.if-not-has_room.true) in
    subst (λ (p : PlacedAll). PlaceAllPromise a.file.now a.state a.devices.now a.out.now p a.out.now) (sym c.refused.ensures)
    (short a.file.now a.state a.devices.now a.out.now (state_answer a.file.now r) (on _ _ r t.0 t.1)
    (subst (λ (n : ℕ). length a.out.now < length a.devices.now * n) (sym (rank_is _ _ r t.0 t.1)) over))

pub returns-in-Some : goal.returns-in-Some
returns-in-Some c = let a = c.args in
    let r = c.in-Ok.found in
    let t = c.in-Ok.ensures in
    let room = leb-true (length a.devices.now * r.shard.rank) (length a.out.now) (sym c.has_room.ensures ∙ c.if-not-has_room.false) in
    subst (λ (p : PlacedAll). PlaceAllPromise a.file.now a.state a.devices.now a.out.now p a.out.now) (sym c.refused-in-Some.ensures)
    (missing a.file.now a.state a.devices.now a.out.now (state_answer a.file.now r) (on _ _ r t.0 t.1)
    (subst (λ (n : ℕ). length a.devices.now * n ≤ length a.out.now) (sym (rank_is _ _ r t.0 t.1)) room)
    c.in-Some.place
    (c.in-Some.ensures.0 ∙ ap (λ (d : ℕ). leading d a.devices.now) t.1.counted.devices_are) c.in-Some.ensures.1)

pub slice_bounds-places-end : goal.slice_bounds-places-end
slice_bounds-places-end c = omega (arith, devices_few _ _ c.in-Ok.found c.in-Ok.ensures.0 c.in-Ok.ensures.1, many)

pub find_places-requires : goal.find_places-requires
find_places-requires c = let r = c.in-Ok.found in
    let t = c.in-Ok.ensures in
    let few = devices_few _ _ r t.0 t.1 in
    let lent = lent_length zeros r.devices (omega (arith, few, many)) in (
      t.1.axes_few,
      omega (arith, few, lent),
      subst (λ (d : ℕ). Rearrangement d (order_in c.args.file.now r.mesh.n d)) (sym lent) (ordered _ _ r t.0 t.1),
    )

pub put_firsts-requires : goal.put_firsts-requires
put_firsts-requires c = let a = c.args in
    let r = c.in-Ok.found in
    let t = c.in-Ok.ensures in
    let f = c.find_places in
    let room = leb-true (length a.devices.now * r.shard.rank) (length a.out.now) (sym c.has_room.ensures ∙ c.if-not-has_room.false) in
    all-placing a.file.now a.state r t.0 t.1 a.devices.now c.in_default.ensures _ (length a.out.now)
    (found a.file.now f.new.places r.mesh.n r.devices (devices_few _ _ r t.0 t.1) f.auto.places f.ensures) room

pub returns : goal.returns
returns c = let a = c.args in
    let r = c.in-Ok.found in
    let t = c.in-Ok.ensures in
    let f = c.find_places in
    let room = leb-true (length a.devices.now * r.shard.rank) (length a.out.now) (sym c.has_room.ensures ∙ c.if-not-has_room.false) in
    let places = found a.file.now f.new.places r.mesh.n r.devices (devices_few _ _ r t.0 t.1) f.auto.places f.ensures in
    subst (λ (l : List ℕ). PlaceAllPromise a.file.now a.state a.devices.now a.out.now (record { outcome = Ok tt; place = 0 }) l) (sym c.put_firsts.ensures)
    (all_placed a.file.now a.state r t.0 t.1 a.devices.now c.in_default.ensures _ a.out.now places
    (all-placing a.file.now a.state r t.0 t.1 a.devices.now c.in_default.ensures _ (length a.out.now) places room))
