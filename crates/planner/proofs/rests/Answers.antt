use native.Mathlib.Omega.{arith}
use Prim.Native.Nat.{ℕ}
use mathlib.Core.List.{[]}
use mathlib.Core.Path.{refl, ap, ◌∙◌}
use lib.ListN.{length-map, drop}
use Rattle.types.specs.Types.{axes_of, dims_of}
use Rattle.dims.proofs.Pairs.{making, makes, past-stays}
use Rattle.dims.proofs.Dims.{dims-length, list_at}
use Rattle.records.specs.Planning.{rest_of_start}
use Rattle.records.proofs.Cutting.{common-start}
use Rattle.planner.proofs.rests.Goals as goal

pub loop-d-init : goal.loop-d-init
unfolding dims_of
loop-d-init c = let a = c.args in (
  making rest_of_start _ _ _ a.rank (dims-length a.start a.rank (omega arith) (omega arith)) (dims-length a.goal a.rank (omega arith) (omega arith))
      (omega (arith, length-map a.start.0 axes_of)),
  refl,
)

pub rest-tail-requires : goal.rest-tail-requires
rest-tail-requires c = rw c.common-shared.ensures (common-start (axes_of c.at-list.result) (axes_of c.at-other.result))

pub loop-d-preserved : goal.loop-d-preserved
loop-d-preserved c = let a = c.args in
    let i = c.loop-d.invariant in
    let h = c.loop-d-test.true in
    let at1 = c.at-list in
    let p = list_at a.start a.rank c.loop-d.d _ h at1.ensures in
    let q = list_at a.goal a.rank c.loop-d.d _ h c.at-other.ensures in
    let w = c.with-next.ensures in (
      makes i.0 h _ [] p _ [] q _ _ w (c.rest-tail.ensures ∙ ap (λ (k : ℕ). drop k (axes_of at1.result)) c.common-shared.ensures),
      past-stays i.0 _ w h i.1,
    )
