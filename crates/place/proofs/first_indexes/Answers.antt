use native.Mathlib.Omega.{arith}
use mathlib.Core.List.{[]}
use mathlib.Core.Path.{refl, sym}
use lib.Seq.{get_or-take, length-take-le}
use Rattle.dims.proofs.Pairs.{making, makes, all_made}
use Rattle.dims.proofs.Dims.{dims-length, list_at}
use Rattle.place.proofs.first_indexes.Goals as goal

pub loop-d-init : goal.loop-d-init
loop-d-init c = let a = c.args in
    let s = c.well_formed.1.1.0.1.1.1.0.1.0.1 in (
      making _ _ _ _ a.shard.rank (length-take-le a.shard.rank a.shard.sizes (omega (arith, s, c.requires.rank)))
          (dims-length a.dims a.shard.rank (c.well_formed.1.0.1.1.0.1.0.1) c.requires.rank)
          (omega (arith, s, c.requires.rank)),
      refl,
    )

pub first_index-requires : goal.first_index-requires
first_index-requires c = let a = c.args in
    let d = c.loop-d.d in
    let h = c.loop-d-test.true in
    let p = get_or-take a.shard.rank a.shard.sizes d 0 h in
    let q = list_at a.dims a.shard.rank d _ h c.at-list.ensures in
    rw (c.position_of.ensures, q, ← p) (c.requires.few d)

pub loop-d-preserved : goal.loop-d-preserved
loop-d-preserved c = let a = c.args in
    let i = c.loop-d.invariant in
    let h = c.loop-d-test.true in
    let p = sym (get_or-take a.shard.rank a.shard.sizes c.loop-d.d 0 h) in
    let q = list_at a.dims a.shard.rank c.loop-d.d _ h c.at-list.ensures in
    (makes i.0 h _ 0 p _ [] q _ _ refl (rw (← c.position_of.ensures) c.first_index.ensures), i.1)

pub returns : goal.returns
returns c = let i = c.loop-d.invariant in
    (i.1, rw i.1 (all_made i.0 c.loop-d-test.false))
