use mathlib.Core.Path.{◌≡◌, sym, ◌∙◌}
use mathlib.Core.Logic.{◌≢◌}
use native.Mathlib.Omega.{arith}
use lib.ListN.{length}
use Rattle.std.proofs.lemmas.Bool.Decides.{nat_tests}
use Rattle.given.proofs.Sizes.{order-none, order-some}
use Rattle.given.proofs.judge_order.Goals as goal

pub returns-then-is_empty : goal.returns-then-is_empty
returns-then-is_empty c =
    let z : length c.args.order.now ≡ 0 = grind (arith, nat_tests, c.is_empty.ensures, c.if-is_empty.true) in
    sym (order-none c.args.devices c.args.order.now z)

pub returns-then-order_allowed : goal.returns-then-order_allowed
returns-then-order_allowed c =
    let z : length c.args.order.now ≢ 0 = grind (arith, nat_tests, c.is_empty.ensures, c.if-is_empty.false) in
    sym (order-some c.args.devices c.args.order.now z (sym c.order_allowed.ensures ∙ c.if-order_allowed.true))

pub returns-else-order_allowed : goal.returns-else-order_allowed
returns-else-order_allowed c =
    let z : length c.args.order.now ≢ 0 = grind (arith, nat_tests, c.is_empty.ensures, c.if-is_empty.false) in
    rw c.outside.ensures (sym (order-some c.args.devices c.args.order.now z (sym c.order_allowed.ensures ∙ c.if-order_allowed.false)))
