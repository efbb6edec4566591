use native.Mathlib.Omega.{arith}
use mathlib.Core.Path.{refl, sym}
use mathlib.Core.List.{[]}
use lib.ListN.{length-set, get_or-replicate}
use Rattle.rules.specs.Lists.{mem}
use Rattle.rules.specs.Limits.{most_devices}
use Rattle.order.proofs.Loops.{too-high, again, mark_on, all-marked, wrong-length}
use Rattle.order.proofs.rearranges.Goals as goal

pub returns-then-order-n : goal.returns-then-order-n
returns-then-order-n c = sym (wrong-length _ _ c.if-order-n.true)

pub loop-number-init : goal.loop-number-init
unfolding mem
loop-number-init c = (record { before = []; low = refl; new = refl; told = λ d h. get_or-replicate most_devices d _ _ (omega (arith, c.requires)) }, refl)

pub returns-then-n-device : goal.returns-then-n-device
returns-then-n-device c = sym (too-high c.loop-number.invariant.0 c.loop-number-test.true (omega (arith, c.if-n-device.true)))

pub returns-then-seen-device : goal.returns-then-seen-device
returns-then-seen-device c = sym (again c.loop-number.invariant.0 c.loop-number-test.true (omega (arith, c.if-n-device.false)) c.if-seen-device.true)

pub loop-number-preserved : goal.loop-number-preserved
loop-number-preserved c = (
  mark_on c.loop-number.invariant.0 c.loop-number-test.true (omega (arith, c.if-n-device.false))
      (omega (arith, c.requires, c.loop-number.invariant.1)) c.if-seen-device.false,
  rw length-set c.loop-number.invariant.1,
)

pub returns : goal.returns
returns c = sym (all-marked c.loop-number.invariant.0 c.if-order-n.false c.loop-number-test.false)
