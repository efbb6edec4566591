use native.Mathlib.Omega.{arith}
use mathlib.Core.Path.{ap, subst}
use mathlib.Core.List.{List}
use Prim.Native.Nat.{ℕ}
use lib.ListN.{length}
use Rattle.records.specs.Records.{list_bytes}
use Rattle.encode.specs.Putting.{Put}
use Rattle.encode.proofs.Puts.{axes-start, axes-step, axes-done}
use Rattle.encode.proofs.Given.{numbers-length, number-at}
use Rattle.encode.proofs.put_list.Goals as goal

pub overflow_cast-axes : goal.overflow_cast-axes
overflow_cast-axes c = let a = c.as_slice-axes in
    omega (arith, numbers-length a.result.now, ap length a.ensures, c.requires)

pub put_byte-place-requires-in-loop-axis : goal.put_byte-place-requires-in-loop-axis
put_byte-place-requires-in-loop-axis c = let a = c.as_slice-axes in
    omega (arith, numbers-length a.result.now, ap length a.ensures, c.put_byte-place.ensures.next)

pub loop-axis-init : goal.loop-axis-init
loop-axis-init c = axes-start _ _ _

pub loop-axis-preserved : goal.loop-axis-preserved
loop-axis-preserved c = let a = c.as_slice-axes.result.now in
    axes-step c.loop-axis.invariant (omega (arith, numbers-length a)) (number-at a c.loop-axis.axis-index) c.put_byte-place-in-loop-axis.ensures

pub returns : goal.returns
returns c = let a = c.as_slice-axes in
    let n = numbers-length a.result.now in
    subst (λ (l : List ℕ). Put c.args.out.now c.loop-axis.out c.args.at c.loop-axis.place (list_bytes l)) a.ensures
    (axes-done c.put_byte-place.ensures (omega (arith, n)) c.loop-axis.invariant (omega (arith, n)))
