use native.Mathlib.Omega.{arith}
use Prim.Native.Nat.{◌*◌, ◌+◌}
use mathlib.Core.Path.{◌≡◌, refl, ◌∙◌}
use lib.ListN.{length, get_or, drop}
use Rattle.laws.proofs.Fronts.{fill-part, fill_end, part_length, next-part}
use Rattle.strided.specs.Strided.{Copy, plane_digits, copied}
use Rattle.strided.proofs.Laws.{Turn, turn, turn-places, rows_in, rows_are}
use Rattle.strided.proofs.copy_planes.Goals as goal
use Rattle.strided.proofs.copy_planes.Goals.{In-loop-i}

turning : (c : In-loop-i)
    → (let s = c in
    Turn (plane_digits s.args.planes s.args.inner s.args.far s.args.count s.args.len s.args.apart s.args.stride) (length s.args.to.now) s.args.at (length s.args.from.now) c.loop-i.i s.args.planes s.args.inner
    s.args.far)
turning c =
    let s = c in
    turn (plane_digits s.args.planes s.args.inner s.args.far s.args.count s.args.len s.args.apart s.args.stride) c.loop-i.i s.requires.some s.requires.counts c.loop-i-test.true

-- the digits of one plane, as its rows have them
plane : (c : In-loop-i)
    → (let s = c in
    Copy (drop 3 (plane_digits s.args.planes s.args.inner s.args.far s.args.count s.args.len s.args.apart s.args.stride)) s.args.inner (s.args.at + c.loop-i.i * s.args.far) (length s.args.from.now))
plane c = record { some = omega arith; counts = (turning c).rest }

pub overflow_mul-i : goal.overflow_mul-i
unfolding copied
overflow_mul-i c = omega (arith, turning ((goal.at.overflow_mul-i c).In-loop-i))

pub overflow_add-at : goal.overflow_add-at
unfolding copied
overflow_add-at c = omega (arith, turning ((goal.at.overflow_add-at c).In-loop-i))

pub copy_rows-requires : goal.copy_rows-requires
unfolding copied
copy_rows-requires c = let x = c in
    let l = c in
    let s = c in
    rw (part_length l.loop-i.to (l.loop-i.i * s.args.inner) s.args.inner (omega (arith, (turning ((goal.at.copy_rows-requires c).In-loop-i)).part, l.loop-i.invariant.1.size)))
    (rows_in (drop 3 (plane_digits s.args.planes s.args.inner s.args.far s.args.count s.args.len s.args.apart s.args.stride)) (plane ((goal.at.copy_rows-requires c).In-loop-i)) (omega arith) refl)

pub loop-i-preserved : goal.loop-i-preserved
unfolding copied
loop-i-preserved c = let x = c in
    let l = c in
    let s = c in
    let i = l.loop-i.i in
    let m = s.args.inner in
    let from = s.args.from.now in
    let u = turning ((goal.at.loop-i-preserved c).In-loop-i) in
    let r = c.copy_rows in (
      omega (arith, x.loop-i-test.true),
      rw (next-part i m) (fill-part m l.loop-i.invariant.1 u.part r.auto.to
          (rw (part_length l.loop-i.to (i * m) m (omega (arith, u.part, l.loop-i.invariant.1.size))) at r.ensures
          ∙ rows_are 0 from (drop 3 (plane_digits s.args.planes s.args.inner s.args.far s.args.count s.args.len s.args.apart s.args.stride)) (plane ((goal.at.loop-i-preserved c).In-loop-i)) (omega arith) refl
          ∙ turn-places (λ k. get_or from k 0) (plane_digits s.args.planes s.args.inner s.args.far s.args.count s.args.len s.args.apart s.args.stride) i s.args.planes m s.args.far u)),
    )

pub returns : goal.returns
unfolding copied
returns c = let l = c in
    let s = c in
    let e : l.loop-i.i ≡ s.args.planes = omega (arith, c.loop-i-test.false) in
    fill_end l.loop-i.invariant.1 (rw e (omega (arith, s.requires.counts.whole)))
