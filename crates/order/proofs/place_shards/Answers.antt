use native.Mathlib.Omega.{arith}
use Prim.Native.Nat.{ℕ, ◌≤◌, ◌*◌, ◌+◌, ◌/◌, ◌%◌}
use mathlib.Core.Path.{◌≡◌, ap, ◌∙◌}
use mathlib.Core.List.{◌++◌}
use lib.ListN.{length, get_or, drop}
use Rattle.rules.specs.Lists.{tab}
use Rattle.laws.proofs.Fronts.{fill-part, next-part, part_in}
use Rattle.order.specs.Order.{words_by_place}
use Rattle.order.proofs.Loops.{shard-words}
use Rattle.order.proofs.place_shards.Goals as goal
use Rattle.order.proofs.place_shards.Goals.{In-loop-i}

-- the place and the number of the shard are among those of the order, for all of whose shards both buffers have room
inside : (c : In-loop-i)
    → (let s = c in
    let l = c.loop-i in
    let m = s.args.m in
    let all = length s.args.order.now * m in
    (l.i * m + m ≤ all) × (get_or s.args.order.now l.i 0 * m + m ≤ all) × (all ≤ length l.to) × (all ≤ length s.args.from.now))
inside c =
    let s = c in
    let l = c.loop-i in
    let n = length s.args.order.now in
    let m = s.args.m in
    let h = c.loop-i-test.true in (
      part_in l.i n m (n * m) h (omega arith),
      part_in (get_or s.args.order.now l.i 0) n m (n * m) (s.requires.below l.i h) (omega arith),
      omega (arith, s.requires.room, l.invariant.1.size),
      s.requires.inside,
    )

pub slice_bounds-copy_shard-end-in-loop-i : goal.slice_bounds-copy_shard-end-in-loop-i
slice_bounds-copy_shard-end-in-loop-i c = omega (arith, inside ((goal.at.slice_bounds-copy_shard-end-in-loop-i c).In-loop-i))

pub loop-i-preserved : goal.loop-i-preserved
loop-i-preserved c = let m = c.args.m in
    let r = c.copy_shard in
    let u = inside ((goal.at.loop-i-preserved c).In-loop-i) in (
      omega (arith, c.loop-i-test.true),
      rw (next-part c.loop-i.i m) (fill-part m c.loop-i.invariant.1 (omega (arith, u, c.loop-i.invariant.1.size)) r.auto.to
          (r.ensures ∙ shard-words 0 c.args.from.now c.args.order.now c.loop-i.i m (omega (arith, u)))),
    )

pub returns : goal.returns
unfolding words_by_place
returns c = let a = c.args in
    let word : ℕ → ℕ = λ t. get_or a.from.now (get_or a.order.now (t / a.m) 0 * a.m + t % a.m) 0 in
    let e : c.loop-i.i ≡ length a.order.now = omega (arith, c.loop-i-test.false, c.loop-i.invariant.0) in
    c.loop-i.invariant.1.front ∙ ap (λ (k : ℕ). tab (k * a.m) word ++ drop (k * a.m) a.to.now) e
