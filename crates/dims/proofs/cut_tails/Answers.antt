use native.Mathlib.Omega.{arith}
use mathlib.Core.List.{[]}
use mathlib.Core.Path.{refl}
use lib.ListN.{length-map}
use Rattle.rules.specs.Collectives.{cut_tail}
use Rattle.types.specs.Types.{axes_of, dims_of}
use Rattle.dims.proofs.Pairs.{making, makes, past-stays}
use Rattle.dims.proofs.Dims.{dims-length, list_at}
use Rattle.dims.proofs.cut_tails.Goals as goal

pub loop-d-init : goal.loop-d-init
unfolding dims_of
loop-d-init c = let a = c.args in
    let s = c.well_formed.0.1.1.0.1.0.1 in
    let t = c.well_formed.1.0.1.1.0.1.0.1 in (
      making cut_tail _ _ _ a.rank (dims-length a.dims a.rank s (omega arith)) (dims-length a.lists a.rank t (omega arith))
          (omega (arith, length-map a.dims.0 axes_of, s)),
      refl,
    )

pub loop-d-preserved : goal.loop-d-preserved
unfolding dims_of
loop-d-preserved c = let a = c.args in
    let i = c.loop-d.invariant in
    let h = c.loop-d-test.true in
    let p = list_at a.dims a.rank c.loop-d.d _ h c.at-list.ensures in
    let q = list_at a.lists a.rank c.loop-d.d _ h c.at-tail.ensures in
    let w = c.with-next.ensures in
    (makes i.0 h _ [] p _ [] q _ _ w c.cut_tail.ensures, past-stays i.0 _ w h i.1)
