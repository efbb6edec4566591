use native.Mathlib.Omega.{arith}
use lib.ListN.{length}
use mathlib.Core.Path.{sym, ◌∙◌}
use mathlib.Core.List.{[], map}
use Rattle.std.proofs.lemmas.List.{get_or-map}
use Rattle.rules.specs.Limits.{most_axes}
use Rattle.types.specs.Types.{axes_of}
use Rattle.laws.proofs.Fronts.{fill-part, next-part, part_in}
use Rattle.marshal.proofs.Structs.{six-places}
use Rattle.marshal.proofs.put_lists.Goals as goal

pub loop-d-preserved : goal.loop-d-preserved
loop-d-preserved c = let a = c.args in
    let d = c.loop-d.d in
    let less = c.loop-d-test.true in
    let r = c.copy_from_slice in
    rw (next-part d most_axes)
    (fill-part most_axes c.loop-d.invariant (part_in d (length a.lists.now) most_axes (length a.axes.now) less (omega arith)) r.ensures.len
    (r.ensures.after ∙ c.places_of.ensures ∙ six-places (map axes_of a.lists.now) d _ (sym (get_or-map axes_of a.lists.now d _ [] less))))
