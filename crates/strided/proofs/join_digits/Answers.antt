use native.Mathlib.Omega.{arith}
use Prim.Native.Nat.{◌*◌, ◌-◌, ◌/◌}
use mathlib.Core.Path.{◌≡◌, refl, ◌∙◌}
use lib.ListN.{length}
use Rattle.strided.proofs.Joins.{made-start, put-asked, made-step, made-done}
use Rattle.strided.proofs.join_digits.Goals as goal

pub loop-i-init : goal.loop-i-init
loop-i-init c =
    let d = c.args.digits.now in
    let g = made-start d c.requires.0 c.args.joined.now c.put_digit.new.digits c.requires.1 c.put_digit.ensures in
    let e : length d / 3 * 3 ≡ length d = omega (arith, g.thirds) in
    (rw e g, refl)

pub put_joined-first-requires : goal.put_joined-first-requires
put_joined-first-requires c =
    let e : (c.loop-i.i - 1) * 3 ≡ c.loop-i.i * 3 - 3 = omega arith in
    rw e (put-asked c.args.digits.now c.requires.0 c.loop-i.invariant.0 (omega arith))

pub loop-i-preserved : goal.loop-i-preserved
loop-i-preserved c =
    let r = c.put_joined-first in
    let e : (c.loop-i.i - 1) * 3 ≡ c.loop-i.i * 3 - 3 = omega arith in
    (rw e (made-step c.args.digits.now c.requires.0 c.loop-i.invariant.0 (omega arith) r.new.joined r.result (rw e at r.ensures)), r.auto.joined ∙ c.loop-i.invariant.1)

pub returns : goal.returns
returns c = made-done c.loop-i.invariant.0 (omega arith)
