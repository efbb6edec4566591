use native.Mathlib.Omega.{arith}
use native.Mathlib.Nat.{mod_self}
use Prim.Native.Nat.{◌-◌, ◌%◌}
use mathlib.Core.Path.{◌≡◌}
use lib.ListN.{length}
use Rattle.laws.proofs.Fronts.{fill_end}
use Rattle.strided.specs.Strided.{Part, repeated}
use Rattle.strided.proofs.Repeats.{repeat-start, repeat-part, whole-left, whole-more}
use Rattle.strided.proofs.repeat_block.Goals as goal
use Rattle.strided.proofs.repeat_block.Goals.{After-part_words-part}

-- the part is some of the words that are left, and whole periods
part-is : (c : After-part_words-part)
    → (let l = c in
    Part l.loop-done.done l.loop-done.part (length l.args.to.now - l.loop-done.done) c.part_words-part.result)
part-is c = rw c.loop-done.invariant.4.size at c.part_words-part.ensures

whole : (c : After-part_words-part) → c.part_words-part.result % c.args.period ≡ 0
whole c =
    let l = c in
    let s = c in
    (part-is c).whole s.args.period l.loop-done.invariant.2 l.loop-done.invariant.3
    (whole-left (length s.args.to.now) l.loop-done.done s.args.period s.requires.whole l.loop-done.invariant.2)

pub loop-done-init : goal.loop-done-init
unfolding repeated
loop-done-init c = let s = c in (
  s.requires.filled,
  s.requires.filled,
  mod_self s.args.period,
  mod_self s.args.period,
  repeat-start 0 s.args.to.now s.args.period s.requires.within,
)

pub loop-done-preserved : goal.loop-done-preserved
unfolding repeated
loop-done-preserved c = let p = c in
    let r = c.repeat_words in
    let l = c in
    let s = c in
    let n = p.part_words-part.result in (
      omega (arith, l.loop-done.invariant.0),
      (part-is ((goal.at.loop-done-preserved c).After-part_words-part)).some,
      whole-more l.loop-done.done n s.args.period l.loop-done.invariant.2 (whole ((goal.at.loop-done-preserved c).After-part_words-part)),
      whole ((goal.at.loop-done-preserved c).After-part_words-part),
      repeat-part 0 s.args.to.now s.args.period n l.loop-done.invariant.4 l.loop-done.invariant.0 l.loop-done.invariant.2
          (omega (arith, (part-is ((goal.at.loop-done-preserved c).After-part_words-part)).within, p.loop-done-test.true, l.loop-done.invariant.4.size)) r.auto.to r.ensures,
    )

pub returns : goal.returns
unfolding repeated
returns c = fill_end c.loop-done.invariant.4 (omega (arith, c.loop-done-test.false, c.loop-done.invariant.4.size))
