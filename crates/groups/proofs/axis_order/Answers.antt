use mathlib.Core.Path.{ap, ◌∙◌}
use native.Mathlib.Omega.{arith}
use lib.ListN.{length}
use Rattle.types.specs.Types.{axes_of}
use Rattle.groups.proofs.Ordering.{remaining-length, order-length, order-made}
use Rattle.groups.proofs.axis_order.Goals as goal

pub extended-rest-requires : goal.extended-rest-requires
extended-rest-requires c = let a = c in
    rw (c.empty-none.ensures, c.axes_below-all.ensures) (omega (arith, remaining-length a.requires, a.requires.few))

pub extended-requires : goal.extended-requires
extended-requires c = let b = c in
    let a = c in
    let made =
    order-made a.args.n (axes_of a.args.list)
    (axes_of b.empty-none.result) (axes_of b.axes_below-all.result) (axes_of c.extended-rest.result)
    b.empty-none.ensures b.axes_below-all.ensures c.extended-rest.ensures in
    omega (arith, ap length made, order-length a.requires, a.requires.few)

pub returns : goal.returns
returns c = let e = c in
    let b = c in
    let a = b.args in
    c.extended.ensures
    ∙ order-made a.n (axes_of a.list) (axes_of b.empty-none.result) (axes_of b.axes_below-all.result) (axes_of e.extended-rest.result)
    b.empty-none.ensures b.axes_below-all.ensures e.extended-rest.ensures
