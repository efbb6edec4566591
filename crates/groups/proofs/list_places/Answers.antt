use mathlib.Core.Path.{refl, sym, ap, ◌∙◌}
use Rattle.std.proofs.lemmas.Result.{err_from_is_err_and}
use Rattle.types.specs.Answers.{judged}
use Rattle.mesh.proofs.Sizes.{fit-sizes}
use Rattle.groups.specs.Ordering.{axis_order}
use Rattle.groups.proofs.Listing.{on-mesh, all-pass, axes-refuse, room-refuses, refuses, Passes, list-ready, list-few, order-ready, lists}
use Rattle.groups.proofs.list_places.Goals as goal
use Rattle.groups.proofs.list_places.Goals.{In_ok-fits}

-- all tests have passed
passes : (c : In_ok-fits)
    → (let a = c.args in
    Passes (judged a.ordered) a.mesh.now a.axes.now a.out.now)
passes c =
    let a = c.args in
    record {
      mesh-fine = c.requires;
      fine = all-pass (judged a.ordered) a.mesh.now a.axes.now a.out.now (ap judged c.in_ok-ordered.was) (sym c.judge_axes-named.ensures ∙ ap judged c.in_ok-named.was)
          (rw (← c.product_from-devices.ensures) (sym c.need-fits.ensures ∙ ap judged c.in_ok-fits.was));
    }

pub product_from-devices-requires : goal.product_from-devices-requires
product_from-devices-requires c = fit-sizes (on-mesh c.args.mesh.now c.requires)

pub returns-in_err-ordered : goal.returns-in_err-ordered
returns-in_err-ordered c = let p = err_from_is_err_and c.from_residual.result c.from_residual.ensures.1 in
    let a = c.args in
    rw (p.1, p.2) (refuses (judged a.ordered) a.mesh.now a.axes.now a.out.now c.requires _ (rw c.in_err-ordered.was refl))

pub returns-in_err-named : goal.returns-in_err-named
returns-in_err-named c = let p = err_from_is_err_and c.from_residual-in_err-named.result c.from_residual-in_err-named.ensures.1 in
    let a = c.args in
    rw (p.1, p.2) (refuses (judged a.ordered) a.mesh.now a.axes.now a.out.now c.requires _
    (axes-refuse (judged a.ordered) a.mesh.now a.axes.now a.out.now _ (ap judged c.in_ok-ordered.was) (sym c.judge_axes-named.ensures ∙ ap judged c.in_err-named.was)))

pub returns-in_err-fits : goal.returns-in_err-fits
returns-in_err-fits c = let p = err_from_is_err_and c.from_residual-in_err-fits.result c.from_residual-in_err-fits.ensures.1 in
    let a = c.args in
    rw (p.1, p.2) (refuses (judged a.ordered) a.mesh.now a.axes.now a.out.now c.requires _
    (room-refuses (judged a.ordered) a.mesh.now a.axes.now a.out.now _ (ap judged c.in_ok-ordered.was) (sym c.judge_axes-named.ensures ∙ ap judged c.in_ok-named.was)
    (rw (← c.product_from-devices.ensures) (sym c.need-fits.ensures ∙ ap judged c.in_err-fits.was))))

pub list_of-list-requires : goal.list_of-list-requires
list_of-list-requires c = list-few _ _ _ _ (passes ((goal.at.list_of-list-requires c).In_ok-fits))

pub axis_order-all-requires : goal.axis_order-all-requires
axis_order-all-requires c = rw c.list_of-list.ensures (list-ready _ _ _ _ (passes ((goal.at.axis_order-all-requires c).In_ok-fits)))

pub write_devices-requires : goal.write_devices-requires
write_devices-requires c =
    order-ready _ _ _ _ (passes ((goal.at.write_devices-requires c).In_ok-fits)) _ (c.axis_order-all.ensures ∙ ap (axis_order _) c.list_of-list.ensures)

pub returns : goal.returns
returns c =
    lists _ _ _ _ (passes ((goal.at.returns c).In_ok-fits)) _ _ (c.axis_order-all.ensures ∙ ap (axis_order _) c.list_of-list.ensures)
    c.product_from-devices.ensures c.write_devices.ensures
