use native.Mathlib.Omega.{arith}
use Rattle.strided.proofs.Joins.{end_fits, sizes-fit, put-over, put-none, put_one}
use Rattle.strided.proofs.put_joined.Goals as goal

pub returns-then-next-eq1 : goal.returns-then-next-eq1
returns-then-next-eq1 c = let r = c.put_digit in
    let s = c in
    put-over s.requires r.new.digits c.if-next-eq1.true r.ensures

pub returns-then-size-eq1 : goal.returns-then-size-eq1
returns-then-size-eq1 c = put-none c.requires c.if-size-eq1.true

pub overflow_mul-end : goal.overflow_mul-end
overflow_mul-end c = omega (arith, end_fits c.requires c.if-next-eq1.false)

pub overflow_mul-joined : goal.overflow_mul-joined
overflow_mul-joined c = omega (arith, sizes-fit c.requires)

pub returns-then-stride-end : goal.returns-then-stride-end
returns-then-stride-end c = put_one c.requires c.if-stride-end.true
