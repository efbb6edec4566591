use Prim.Native.Nat.{◌+◌, ◌-◌, ◌<◌}
use mathlib.Core.Path.{◌≡◌}
use native.Mathlib.Omega.{arith}
use lib.ListN.{get_or}
use Rattle.rules.specs.Limits.{most_devices}
use Rattle.laws.proofs.Fronts.{fill-word}
use Rattle.groups.specs.Ordering.{repeated}
use Rattle.groups.proofs.Writing.{repeating, repeated-next}
use Rattle.groups.proofs.repeat_devices.Goals as goal
use Rattle.groups.proofs.repeat_devices.Goals.{In-loop-place}

-- the device that is written
next : (c : In-loop-place)
    → (let l = c in
    let a = l.args in
    get_or l.loop-place.out (l.loop-place.place - a.count) 0 + a.stride ≡ repeated a.out.now a.count a.stride l.loop-place.place)
next c =
    let l = c in
    let a = l.args in
    repeated-next a.out.now a.count a.stride l.loop-place.invariant.0 l.requires.some l.loop-place.invariant.1

few : (c : In-loop-place)
    → (let l = c in
    let a = l.args in
    get_or l.loop-place.out (l.loop-place.place - a.count) 0 + a.stride < most_devices)
few c = rw (next c) (c.requires.few c.loop-place.place c.loop-place-test.true)

pub loop-place-init : goal.loop-place-init
loop-place-init c = let p = c.requires in
    (repeating c.args.out.now c.args.count c.args.stride (omega (arith, p.more, p.room)), omega arith, omega (arith, p.more))

pub overflow_add-device : goal.overflow_add-device
overflow_add-device c = omega (arith, few ((goal.at.overflow_add-device c).In-loop-place))

pub overflow_cast-out : goal.overflow_cast-out
overflow_cast-out c = omega (arith, few ((goal.at.overflow_cast-out c).In-loop-place))

pub loop-place-preserved : goal.loop-place-preserved
loop-place-preserved c = let l = c in
    (fill-word l.loop-place.invariant.0 (omega (arith, l.requires.room)) (next ((goal.at.loop-place-preserved c).In-loop-place)), omega arith, omega arith)
