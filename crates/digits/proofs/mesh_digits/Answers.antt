use native.Mathlib.Omega.{arith}
use Prim.Native.Nat.{◌≤◌, ◌*◌, ◌-◌}
use mathlib.Core.Path.{refl, ◌∙◌}
use lib.ListN.{get_or}
use Rattle.mesh.proofs.Sizes.{product-less}
use Rattle.digits.specs.Digits.{most_room}
use Rattle.digits.proofs.Loops.{MeshAt, mesh-step}
use Rattle.digits.proofs.mesh_digits.Goals as goal
use Rattle.digits.proofs.mesh_digits.Goals.{After-put_digit}

-- one turn of the loop
next : (c : After-put_digit)
    → (let l = c in
    let s = c in
    let count = get_or s.args.mesh.now (l.loop-i.i - 1) 0 * l.loop-i.count in
    MeshAt s.args.mesh.now s.args.strides.now s.args.digits.now s.args.end s.args.inner
    c.put_digit.new.digits
    (l.loop-i.first - 3) count (l.loop-i.i - 1) × (count ≤ most_room))
next c =
    let l = c in
    let s = c in
    let mesh = s.args.mesh.now in
    let i = l.loop-i.i in
    let t = c.loop-i-test.true in
    let g = mesh-step c.put_digit.new.digits (get_or mesh (i - 1) 0)
    (get_or s.args.strides.now (i - 1) 0) l.loop-i.invariant.3 s.requires.has.places
    (omega (arith, t)) l.loop-i.invariant.0 s.requires.front.count (omega (arith, l.loop-i.invariant.1, s.requires.front.room, t))
    (omega (arith, l.loop-i.invariant.0, l.loop-i.invariant.1, s.requires.front.inside)) refl refl c.put_digit.ensures in
    (g, omega (arith, g.count_is, product-less mesh (i - 1) s.args.inner s.requires.has.on.devices_pos, s.requires.few))

pub overflow_mul-count : goal.overflow_mul-count
overflow_mul-count c = let n = next ((goal.at.overflow_mul-count c).After-put_digit) in
    omega (arith, n.1)

pub loop-i-preserved : goal.loop-i-preserved
loop-i-preserved c = let l = c in
    let s = c in
    let t = c.loop-i-test.true in (
      omega (arith, t, l.loop-i.invariant.0),
      omega (arith, t, l.loop-i.invariant.1, s.requires.front.room),
      c.put_digit.auto.digits ∙ l.loop-i.invariant.2,
      (next ((goal.at.loop-i-preserved c).After-put_digit)).0,
    )
