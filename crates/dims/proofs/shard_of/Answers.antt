use native.Mathlib.Omega.{arith}
use mathlib.Core.List.{[]}
use mathlib.Core.Path.{refl, sym}
use lib.Seq.{get_or-take, length-take-le}
use Rattle.types.specs.Types.{axes_of, mesh_of}
use Rattle.dims.proofs.Pairs.{making, makes, past-stays}
use Rattle.dims.proofs.Dims.{dims-length, list_at, span-least}
use Rattle.dims.proofs.shard_of.Goals as goal

pub loop-d-init : goal.loop-d-init
loop-d-init c = let a = c.args in
    let s = c.well_formed.0.1.1.1.0.1.0.1 in (
      making _ _ _ _ a.table.rank (length-take-le a.table.rank a.table.sizes (omega (arith, s)))
          (dims-length a.dims a.table.rank (c.well_formed.1.0.1.1.0.1.0.1) (omega arith)) (omega (arith, s)),
      refl,
      refl,
    )

pub nonzero_div-shard : goal.nonzero_div-shard
nonzero_div-shard c = omega (arith, c.span.ensures, span-least (mesh_of c.args.mesh) c.requires.1 (axes_of c.at-list.result))

pub loop-d-preserved : goal.loop-d-preserved
loop-d-preserved c = let a = c.args in
    let i = c.loop-d.invariant in
    let h = c.loop-d-test.true in
    let p = sym (get_or-take a.table.rank a.table.sizes c.loop-d.d 0 h) in
    let q = list_at a.dims a.table.rank c.loop-d.d _ h c.at-list.ensures in
    (makes i.0 h _ 0 p _ [] q _ _ refl (rw (← c.span.ensures) refl), i.1, past-stays i.0 _ refl h i.2)
