use native.Mathlib.Omega.{arith}
use mathlib.Core.Path.{sym, ◌∙◌}
use Rattle.std.proofs.Math.Nat.{mul_assoc, mul-one}
use lib.ListN.{get_or}
use Rattle.types.proofs.Types.{axes-length}
use Rattle.axes.proofs.Going.{onward, finish}
use Rattle.axes.proofs.Lists.{grown, small}
use Rattle.axes.proofs.Slices.{axis-in, axes-count}
use Rattle.axes.proofs.span.Goals as goal

pub loop-axis-init : goal.loop-axis-init
loop-axis-init c =
    let n = axes-count c.as_slice-axis-items.result.now c.as_slice-axis-items.ensures in (
      record { size = n; within = omega arith; same = omega arith },
      omega arith,
      omega (arith, n, axes-length c.args.list c.well_formed.0.1.1.1.0.1.0.1),
    )

pub overflow_mul-product : goal.overflow_mul-product
overflow_mul-product c =
    let l = c.loop-axis in
    let s = c.size-product.ensures in
    let m = c.requires.most (get_or c.as_slice-axis-items.result.now l.axis-index (record { 0 = 0 })).0 in
    omega (arith, small _ l.axis-index (omega (arith, l.invariant.2)) (grown l.product c.size-product.result l.axis-index l.invariant.1 (omega arith)))

pub loop-axis-preserved : goal.loop-axis-preserved
loop-axis-preserved c =
    let l = c.loop-axis in
    let xs = c.as_slice-axis-items.result.now in (
      onward l.invariant.0 c.loop-axis-test.true _ 0 (axis-in xs c.as_slice-axis-items.ensures l.axis-index) _ (rw c.size-product.ensures (sym (mul_assoc l.product _ _))),
      rw c.size-product.ensures (grown l.product _ l.axis-index l.invariant.1 (c.requires.most _)),
      l.invariant.2,
    )

pub returns : goal.returns
returns c = sym (finish c.loop-axis.invariant.0 c.loop-axis-test.false ∙ mul-one _)
