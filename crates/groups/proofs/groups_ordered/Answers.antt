use mathlib.Core.Path.{sym}
use native.Mathlib.Omega.{arith}
use lib.Seq.{length-take-le}
use Rattle.std.proofs.lemmas.Result.{err_from_is_err_and}
use Rattle.mesh.proofs.Sizes.{fit-sizes}
use Rattle.groups.proofs.Listing.{on-mesh, LooksUp, order-tested, order-mesh, order-refuses, order-promised}
use Rattle.groups.proofs.groups_ordered.Goals as goal
use Rattle.groups.proofs.groups_ordered.Goals.{In_ok-devices}

-- the places are listed, and are ready to be looked up
listed : (c : In_ok-devices)
    → (let a = c.args in
    LooksUp a.mesh.now a.order.now a.axes.now a.out.now c.list_places.new.out c.in_ok-devices.devices)
listed c =
    let a = c.args in
    order-promised a.mesh.now a.order.now a.axes.now a.out.now
    (order-tested a.mesh.now a.order.now c.product_from.ensures c.order_allowed-allowed.ensures c.need-ordered.ensures) c.list_places.ensures c.in_ok-devices.was

pub returns-in_err-judge_mesh : goal.returns-in_err-judge_mesh
returns-in_err-judge_mesh c = let p = err_from_is_err_and c.from_residual.result c.from_residual.ensures.1 in
    rw (p.1, p.2) (order-mesh _ _ _ _ _ (sym c.in_err-judge_mesh.ensures))

pub product_from-requires : goal.product_from-requires
product_from-requires c = fit-sizes (on-mesh _ (sym c.in_ok-judge_mesh.ensures))

pub order_allowed-allowed-requires : goal.order_allowed-allowed-requires
order_allowed-allowed-requires c = omega (arith, (on-mesh c.args.mesh.now (sym c.in_ok-judge_mesh.ensures)).devices_few, c.product_from.ensures)

pub returns-in_err-devices : goal.returns-in_err-devices
returns-in_err-devices c = let p = err_from_is_err_and c.from_residual-in_err-devices.result c.from_residual-in_err-devices.ensures.1 in
    rw (p.1, p.2, ← c.in_err-devices.was) (order-refuses _ _ _ _
    (order-tested c.args.mesh.now c.args.order.now c.product_from.ensures c.order_allowed-allowed.ensures c.need-ordered.ensures) c.list_places.ensures c.in_err-devices.was)

pub slice_bounds-look_up-end : goal.slice_bounds-look_up-end
slice_bounds-look_up-end c = (listed ((goal.at.slice_bounds-look_up-end c).In_ok-devices)).room

pub slice_bounds-look_up-end-2 : goal.slice_bounds-look_up-end-2
slice_bounds-look_up-end-2 c =
    sym (length-take-le c.in_ok-devices.devices c.list_places.new.out (listed ((goal.at.slice_bounds-look_up-end-2 c).In_ok-devices)).room)

pub look_up-requires : goal.look_up-requires
look_up-requires c = (listed ((goal.at.look_up-requires c).In_ok-devices)).inside

pub returns : goal.returns
returns c = (listed ((goal.at.returns c).In_ok-devices)).leaves _ c.look_up.ensures
