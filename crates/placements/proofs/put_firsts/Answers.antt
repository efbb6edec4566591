use native.Mathlib.Omega.{arith}
use Prim.Native.Nat.{ℕ, ◌*◌}
use mathlib.Core.Path.{◌≡◌, sym, ap, ◌∙◌}
use mathlib.Core.List.{List, ◌++◌, map}
use lib.ListN.{length, get_or, take, drop}
use Rattle.rules.specs.Lists.{tab, flat}
use Rattle.laws.proofs.Fronts.{fill-part, next-part, part_in}
use Rattle.placements.specs.Placing.{firsts_at}
use Rattle.placements.proofs.Firsts.{parts-tab, parts_whole, firsts-even}
use Rattle.placements.proofs.put_firsts.Goals as goal

pub loop-i-preserved : goal.loop-i-preserved
loop-i-preserved c = let a = c.args in
    let l = c.loop-i in
    let rank = a.shard.rank in
    let r = c.copy_from_slice in
    let e = c.first_indexes-first.ensures in
    let first = firsts_at a.mesh.now a.dims a.shard a.places.now in
    let inside = part_in l.i (length a.devices.now) rank (length a.out.now) c.loop-i-test.true c.requires.fits in (
      omega (arith, c.loop-i-test.true),
      rw (next-part l.i rank) (fill-part rank l.invariant.1 inside r.auto.self
          (r.ensures.after ∙ ap (λ (n : ℕ). take n c.first_indexes-first.result.sizes) (sym e.0) ∙ e.1
          ∙ parts-tab first rank a.devices.now (firsts-even c.requires) l.i c.loop-i-test.true)),
    )

pub returns : goal.returns
returns c = let a = c.args in
    let l = c.loop-i in
    let rank = a.shard.rank in
    let devices = a.devices.now in
    let first = firsts_at a.mesh.now a.dims a.shard a.places.now in
    let all : l.i ≡ length devices = omega (arith, c.loop-i-test.false, l.invariant.0) in
    l.invariant.1.front
    ∙ ap (λ (k : ℕ). tab (k * rank) (λ t. get_or (flat (map first devices)) t 0) ++ drop (k * rank) a.out.now) all
    ∙ ap (λ (w : List ℕ). w ++ drop (length devices * rank) a.out.now) (parts_whole first rank devices (firsts-even c.requires))
