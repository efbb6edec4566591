use native.Mathlib.Omega.{arith}
use Prim.Native.Nat.{◌≤◌, ◌<◌, ◌*◌, ◌-◌}
use mathlib.Core.Path.{ap, ◌∙◌}
use lib.ListN.{length, get_or, set, length-set}
use Rattle.types.specs.Types.{axes_of}
use Rattle.laws.proofs.Lists.{at_in}
use Rattle.mesh.proofs.Sizes.{span_less, group-pos}
use Rattle.digits.specs.Digits.{most_room}
use Rattle.digits.proofs.Loops.{AxesAt, axes-step}
use Rattle.digits.proofs.axis_digits.Goals as goal
use Rattle.digits.proofs.axis_digits.Goals.{After-at-axis, After-put_digit}

-- the axis is one of the mesh
in-mesh : (c : After-at-axis) → (let s = c in
    c.at-axis.result.0 < length s.args.mesh.now)
in-mesh c =
    let s = c in
    let i = c.loop-i.i - 1 in
    rw c.at-axis.ensures (s.requires.of_mesh (get_or (axes_of s.args.axes) i 0) (at_in (axes_of s.args.axes) i (omega arith)))

-- one turn of the loop
next : (c : After-put_digit)
    → (let l = c in
    let s = c in
    let L = axes_of s.args.axes in
    let count = c.size_at-size.result * l.loop-i.count in
    AxesAt s.args.mesh.now L s.args.strides.now s.args.digits.now s.args.end s.args.inner
    c.put_digit.new.digits
    (set l.loop-i.strides (get_or L (l.loop-i.i - 1) 0) 0) (l.loop-i.first - 3) count (l.loop-i.i - 1) × (count ≤ most_room))
next c =
    let l = c in
    let s = c in
    let mesh = s.args.mesh.now in
    let t = c.loop-i-test.true in
    let ea = c.at-axis.ensures in
    let g = axes-step c.put_digit.new.digits c.size_at-size.result l.loop-i.invariant.4
    (omega (arith, t)) l.loop-i.invariant.0 s.requires.front.count
    (omega (arith, l.loop-i.invariant.1, s.requires.front.room, t)) (omega (arith, l.loop-i.invariant.0, l.loop-i.invariant.1, s.requires.front.inside))
    (c.size_at-size.ensures ∙ ap (λ k. get_or mesh k 1) ea)
    (rw ea at c.put_digit.ensures) in (
      g,
      omega (
        arith,
        g.count_is,
        span_less mesh (axes_of s.args.axes) (l.loop-i.i - 1) s.args.inner (group-pos mesh (axes_of s.args.axes) s.requires.has.on.devices_pos),
        s.requires.few,
      ),
    )

pub bounds-strides-a : goal.bounds-strides-a
bounds-strides-a c = omega (
  arith,
  in-mesh ((goal.at.bounds-strides-a c).After-at-axis),
  c.loop-i.invariant.3,
  c.requires.has.places,
)

pub bounds-strides-a-in-loop-i : goal.bounds-strides-a-in-loop-i
bounds-strides-a-in-loop-i c = omega (
  arith,
  in-mesh ((goal.at.bounds-strides-a-in-loop-i c).After-at-axis),
  c.loop-i.invariant.3,
  c.requires.has.places,
)

pub overflow_mul-count : goal.overflow_mul-count
overflow_mul-count c = let n = next ((goal.at.overflow_mul-count c).After-put_digit) in
    omega (arith, n.1)

pub loop-i-preserved : goal.loop-i-preserved
loop-i-preserved c = let l = c in
    let s = c in
    let t = c.loop-i-test.true in (
      omega (arith, t, l.loop-i.invariant.0),
      omega (arith, t, l.loop-i.invariant.1, s.requires.front.room),
      c.put_digit.auto.digits ∙ l.loop-i.invariant.2,
      rw length-set l.loop-i.invariant.3,
      rw c.at-axis.ensures (next ((goal.at.loop-i-preserved c).After-put_digit)).0,
    )
