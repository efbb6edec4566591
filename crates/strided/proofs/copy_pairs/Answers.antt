use native.Mathlib.Omega.{arith}
use Prim.Native.Nat.{◌≤◌, ◌<◌, ◌*◌, ◌+◌}
use mathlib.Core.Path.{◌≡◌}
use lib.ListN.{length}
use Rattle.laws.proofs.Fronts.{fill-word, fill_end}
use Rattle.strided.specs.Strided.{rows}
use Rattle.strided.proofs.Laws.{pair-first, pair-second}
use Rattle.strided.proofs.copy_pairs.Goals as goal
use Rattle.strided.proofs.copy_pairs.Goals.{In-loop-i}

-- the row is within the copy, and its words within the words
inside : (c : In-loop-i)
    → (let s = c in
    let i = c.loop-i.i in
    (i * 2 + 2 ≤ length s.args.to.now)
    × (s.args.at + i * s.args.apart + 1 * s.args.stride < length s.args.from.now)
    × (length c.loop-i.to ≡ length s.args.to.now))
inside c =
    let s = c in (
      omega (arith, s.requires.whole, c.loop-i-test.true),
      s.requires.inside c.loop-i.i 1 c.loop-i-test.true (omega arith),
      c.loop-i.invariant.1.size,
    )

pub loop-i-preserved : goal.loop-i-preserved
unfolding rows
loop-i-preserved c = let l = c in
    let a = l.args in
    let u = inside ((goal.at.loop-i-preserved c).In-loop-i) in
    let q : (l.loop-i.i + 1) * 2 ≡ l.loop-i.i * 2 + 1 + 1 = omega arith in (
      omega (arith, c.loop-i-test.true),
      rw q (fill-word (fill-word l.loop-i.invariant.1 (omega (arith, u.0)) (pair-first 0 a.from.now l.loop-i.i a.apart a.stride a.at))
          (omega (arith, u.0)) (pair-second 0 a.from.now l.loop-i.i a.apart a.stride a.at)),
    )

pub returns : goal.returns
unfolding rows
returns c = fill_end c.loop-i.invariant.1 (omega (arith, c.requires.whole, c.loop-i-test.false))
