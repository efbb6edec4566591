use native.Mathlib.Omega.{arith}
use Prim.Native.Nat.{◌≤◌, ◌<◌, ◌*◌, ◌+◌}
use mathlib.Core.Path.{◌≡◌, ◌∙◌}
use lib.ListN.{length}
use Rattle.laws.proofs.Fronts.{next-part, part_in}
use Rattle.strided.specs.Strided.{rows}
use Rattle.laws.proofs.Fronts.{fill-part, fill_end, part_length}
use Rattle.strided.proofs.Laws.{row_words}
use Rattle.strided.proofs.copy_long.Goals as goal
use Rattle.strided.proofs.copy_long.Goals.{In-loop-i}

-- the row is within the copy, and its first word within the words
inside : (c : In-loop-i)
    → (let s = c in
    let i = c.loop-i.i in
    (i * s.args.len + s.args.len ≤ length c.loop-i.to)
    × (s.args.at + i * s.args.apart + 0 * s.args.stride < length s.args.from.now))
inside c =
    let s = c in
    let i = c.loop-i.i in (
      part_in i s.args.count s.args.len (length c.loop-i.to) c.loop-i-test.true (omega (arith, s.requires.whole, c.loop-i.invariant.1.size)),
      s.requires.inside i 0 c.loop-i-test.true s.requires.filled,
    )

pub loop-i-preserved : goal.loop-i-preserved
unfolding rows
loop-i-preserved c = let l = c in
    let s = c in
    let m = s.args.len in
    let r = c.copy_row in
    let u = inside ((goal.at.loop-i-preserved c).In-loop-i) in (
      omega (arith, c.loop-i-test.true),
      rw (next-part l.loop-i.i m) (fill-part m l.loop-i.invariant.1 (omega (arith, u, l.loop-i.invariant.1.size)) r.auto.to
          (rw (part_length l.loop-i.to (l.loop-i.i * m) m u.0) at r.ensures
          ∙ row_words 0 s.args.from.now l.loop-i.i m s.args.apart s.args.stride s.args.at)),
    )

pub returns : goal.returns
unfolding rows
returns c = let l = c in
    let s = c in
    let e : l.loop-i.i ≡ s.args.count = omega (arith, c.loop-i-test.false) in
    fill_end l.loop-i.invariant.1 (rw e (omega (arith, s.requires.whole)))
