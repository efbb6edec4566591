use Rattle.std.specs.Prelude.{Ok}
use Prim.Native.Nat.{ℕ}
use mathlib.Core.Path.{sym, ap, ◌∙◌}
use mathlib.Core.List.{List}
use Rattle.types.specs.Types.{four_places}
use Rattle.types.specs.Answers.{refused_with, placed_of}
use Rattle.place.proofs.Places.{devices_few, placing, place-stops, no-device, place_found}
use Rattle.place.proofs.place.Goals as goal

pub returns-in-Err : goal.returns-in-Err
returns-in-Err c = c.refused.ensures ∙ ap placed_of (sym (place-stops _ _ _ c.in-Err.refusal c.in-Err.ensures.0))

pub returns-then-found-device : goal.returns-then-found-device
returns-then-found-device c = let e = c.in-Ok.ensures in
    let stop = no-device _ _ _ c.in-Ok.found e.0 e.1 c.if-found-device.true in
    c.refused-then-found-device.ensures ∙ ap placed_of (ap refused_with c.outside.ensures ∙ sym stop)

pub place_of-place-requires : goal.place_of-place-requires
place_of-place-requires c = let e = c.in-Ok.ensures in
    (e.1.axes_few, devices_few _ _ c.in-Ok.found e.0 e.1, c.if-found-device.false)

pub first_indexes-indexes-requires : goal.first_indexes-indexes-requires
first_indexes-indexes-requires c = let e = c.in-Ok.ensures in
    placing _ _ _ c.in-Ok.found e.0 e.1 c.if-found-device.false c.place_of-place.ensures

pub returns : goal.returns
returns c = let e = c.in-Ok.ensures in
    let first = c.sizes_within-first.ensures ∙ ap (λ (l : List ℕ). four_places 0 l) c.first_indexes-indexes.ensures.1 in
    let found = place_found _ _ _ c.in-Ok.found e.0 e.1 c.if-found-device.false c.place_of-place.ensures in
    (λ i. record {
      outcome = Ok c.in-Ok.found.shard.rank;
      sharding = c.lists_within-sharding.ensures i;
      shard = c.sizes_within-shard.ensures i;
      first = first i;
    }) ∙ ap placed_of (sym found)
