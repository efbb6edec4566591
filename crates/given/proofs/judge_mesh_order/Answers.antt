use Prim.Native.Nat.{ℕ}
use mathlib.Core.Path.{◌≡◌, sym, ap, ◌∙◌}
use mathlib.Core.Logic.{◌≢◌}
use native.Mathlib.Omega.{arith}
use lib.ListN.{length}
use Rattle.std.proofs.lemmas.Bool.Decides.{nat_tests}
use Rattle.rules.specs.PlanFile.{order_allowed}
use Rattle.given.proofs.Sizes.{order-none, order-some}
use Rattle.given.proofs.judge_mesh_order.Goals as goal

pub returns-then-is_empty : goal.returns-then-is_empty
returns-then-is_empty c =
    let z : length c.args.order.now ≡ 0 = grind (arith, nat_tests, c.is_empty.ensures, c.if-is_empty.true) in
    sym (order-none _ c.args.order.now z)

pub returns-then-order_allowed : goal.returns-then-order_allowed
returns-then-order_allowed c = let order = c.args.order.now in
    let z : length order ≢ 0 = grind (arith, nat_tests, c.is_empty.ensures, c.if-is_empty.false) in
    sym (order-some _ order z (ap (λ (d : ℕ). order_allowed d order) (sym c.product_from.ensures) ∙ sym c.order_allowed.ensures ∙ c.if-order_allowed.true))

pub returns-else-order_allowed : goal.returns-else-order_allowed
returns-else-order_allowed c = let order = c.args.order.now in
    let z : length order ≢ 0 = grind (arith, nat_tests, c.is_empty.ensures, c.if-is_empty.false) in
    rw c.outside.ensures
    (sym (order-some _ order z (ap (λ (d : ℕ). order_allowed d order) (sym c.product_from.ensures) ∙ sym c.order_allowed.ensures ∙ c.if-order_allowed.false)))
