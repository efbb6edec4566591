use native.Mathlib.Omega.{arith}
use Prim.Native.Nat.{◌*◌, ◌+◌}
use mathlib.Core.Path.{◌≡◌}
use lib.ListN.{length}
use Rattle.laws.proofs.Fronts.{fill_end}
use Rattle.strided.specs.Strided.{copied}
use Rattle.strided.proofs.Laws.{fill-four}
use Rattle.strided.proofs.Leaves.{Square, square, square-words}
use Rattle.strided.proofs.copy_squares.Goals as goal
use Rattle.strided.proofs.copy_squares.Goals.{In-loop-i}

-- the plane is within the copy, and its words within the words
inside : (c : In-loop-i)
    → (let s = c in
    let a = s.args in
    Square a.planes a.far a.apart a.stride c.loop-i.i (length a.to.now) a.at (length a.from.now)
    × (length c.loop-i.to ≡ length a.to.now))
inside c =
    let s = c in
    let a = s.args in
    (square a.planes a.far a.apart a.stride c.loop-i.i s.requires c.loop-i-test.true, c.loop-i.invariant.1.size)

pub overflow_add-b : goal.overflow_add-b
unfolding copied
overflow_add-b c = omega (arith, inside ((goal.at.overflow_add-b c).In-loop-i))

pub offset_bounds-from-near-in-loop-i : goal.offset_bounds-from-near-in-loop-i
unfolding copied
offset_bounds-from-near-in-loop-i c = omega (arith, inside ((goal.at.offset_bounds-from-near-in-loop-i c).In-loop-i))

pub bounds-from-near-in-loop-i : goal.bounds-from-near-in-loop-i
unfolding copied
bounds-from-near-in-loop-i c = omega (arith, inside ((goal.at.bounds-from-near-in-loop-i c).In-loop-i))

pub offset_bounds-from-next : goal.offset_bounds-from-next
unfolding copied
offset_bounds-from-next c = omega (arith, inside ((goal.at.offset_bounds-from-next c).In-loop-i))

pub bounds-from-next : goal.bounds-from-next
unfolding copied
bounds-from-next c = omega (arith, inside ((goal.at.bounds-from-next c).In-loop-i))

pub overflow_add-d : goal.overflow_add-d
unfolding copied
overflow_add-d c = omega (arith, inside ((goal.at.overflow_add-d c).In-loop-i))

pub offset_bounds-from-next-in-loop-i : goal.offset_bounds-from-next-in-loop-i
unfolding copied
offset_bounds-from-next-in-loop-i c = omega (arith, inside ((goal.at.offset_bounds-from-next-in-loop-i c).In-loop-i))

pub bounds-from-next-in-loop-i : goal.bounds-from-next-in-loop-i
unfolding copied
bounds-from-next-in-loop-i c = omega (arith, inside ((goal.at.bounds-from-next-in-loop-i c).In-loop-i))

pub loop-i-preserved : goal.loop-i-preserved
unfolding copied
loop-i-preserved c = let x = c in
    let l = c in
    let a = l.args in
    let i = l.loop-i.i in
    let q : (i + 1) * 4 ≡ i * 4 + 4 = omega arith in
    let w = square-words a.planes a.far a.apart a.stride i 0 a.from.now a.at in (
      omega (arith, x.loop-i-test.true),
      rw q (fill-four l.loop-i.invariant.1 (inside ((goal.at.loop-i-preserved c).In-loop-i)).0.part w.0 w.1 w.2 w.3),
    )

pub returns : goal.returns
unfolding copied
returns c = fill_end c.loop-i.invariant.1 (omega (arith, c.requires.counts.whole, c.loop-i-test.false))
