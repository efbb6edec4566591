use native.Mathlib.Omega.{arith}
use Prim.Native.Nat.{ℕ, ◌≤◌, ◌*◌, ◌-◌}
use mathlib.Core.List.{List}
use mathlib.Core.Path.{◌≡◌, ◌∙◌}
use lib.ListN.{length, get_or, take, drop, length-drop}
use borrow.Rule.Slice.PartMut.{same_len_mid}
use Rattle.laws.proofs.Fronts.{fill-part, fill_end, part_length, next-part, tail_all, lent_length}
use Rattle.strided.specs.Strided.{copied}
use Rattle.strided.proofs.Laws.{one-digit, two_digits, words_are, turn, turn-places}
use Rattle.strided.proofs.Repeats.{again-period, again-copy, again-less, repeats-digit}
use Rattle.strided.proofs.Joins.{copy-alike, copied-alike}
use Rattle.strided.proofs.Leaves.{one-leaf, two-leaf, three-leaf}
use Rattle.strided.proofs.+copy_strided.Goals as goal

-- the digits after the first, as they are lent
rest-is : (d : List ℕ) → 3 ≤ length d → take (length d - 3) (drop 3 d) ≡ drop 3 d
rest-is d h = tail_all d 3 (length d - 3) (omega arith)

pub copy_leaf-requires : goal.copy_leaf-requires
copy_leaf-requires t c = copy-alike c.requires (one-leaf c.args.digits.now c.requires c.if-inner-eq1.true)

pub returns-then-inner-eq1 : goal.returns-then-inner-eq1
returns-then-inner-eq1 t c =
    c.copy_leaf.ensures ∙ copied-alike c.requires (one-leaf c.args.digits.now c.requires c.if-inner-eq1.true) 0 c.args.from.now

pub copy_strided-requires : goal.copy_strided-requires
copy_strided-requires t c =
    let d = c.args.digits.now in
    let k = rest-is d (one-digit d c.requires.some c.requires.counts.nested) in
    let f = lent_length c.args.to.now (get_or d 1 0) (again-period c.requires).within in
    (rw (k, ← c.decreases) (again-less c.requires), rw (k, f) (again-copy c.requires c.if-inner-eq1.false))

pub repeat_block-requires : goal.repeat_block-requires
repeat_block-requires t c =
    let m = get_or c.args.digits.now 1 0 in
    rw (same_len_mid 0 (m - 0) c.args.to.now c.copy_strided.new.to c.copy_strided.auto.to) (again-period c.requires)

pub returns-then-stride-eq0 : goal.returns-then-stride-eq0
returns-then-stride-eq0 t c =
    let d = c.args.digits.now in
    let m = get_or d 1 0 in
    let k = rest-is d (one-digit d c.requires.some c.requires.counts.nested) in
    let f = lent_length c.args.to.now m (again-period c.requires).within in
    let r = c.copy_strided in
    rw (same_len_mid 0 (m - 0) c.args.to.now r.new.to r.auto.to) at c.repeat_block.ensures
    ∙ repeats-digit c.requires 0 c.args.from.now c.args.to.now r.new.to c.if-stride-eq0.true (rw (k, f) at r.ensures)

pub copy_leaf-requires-then-len-eq1 : goal.copy_leaf-requires-then-len-eq1
copy_leaf-requires-then-len-eq1 t c = copy-alike c.requires (two-leaf c.args.digits.now c.requires c.if-inner-eq1.false c.if-len-eq1.true)

pub returns-then-len-eq1 : goal.returns-then-len-eq1
returns-then-len-eq1 t c =
    c.copy_leaf-then-len-eq1.ensures
    ∙ copied-alike c.requires (two-leaf c.args.digits.now c.requires c.if-inner-eq1.false c.if-len-eq1.true) 0 c.args.from.now

pub copy_leaf-requires-then-digits-eq1 : goal.copy_leaf-requires-then-digits-eq1
copy_leaf-requires-then-digits-eq1 t c =
    copy-alike c.requires (three-leaf c.args.digits.now c.requires c.if-inner-eq1.false c.if-len-eq1.false c.if-digits-eq1.true)

pub returns-then-digits-eq1 : goal.returns-then-digits-eq1
returns-then-digits-eq1 t c =
    c.copy_leaf-then-digits-eq1.ensures
    ∙ copied-alike c.requires (three-leaf c.args.digits.now c.requires c.if-inner-eq1.false c.if-len-eq1.false c.if-digits-eq1.true) 0 c.args.from.now

pub slice_bounds-copy_strided-end-in-loop-i : goal.slice_bounds-copy_strided-end-in-loop-i
slice_bounds-copy_strided-end-in-loop-i t c =
    omega (arith, turn c.args.digits.now c.loop-i.i c.requires.some c.requires.counts c.loop-i-test.true, c.loop-i.invariant.1.size)

pub overflow_mul-i : goal.overflow_mul-i
overflow_mul-i t c = omega (arith, turn c.args.digits.now c.loop-i.i c.requires.some c.requires.counts c.loop-i-test.true)

pub overflow_add-at : goal.overflow_add-at
overflow_add-at t c = omega (arith, turn c.args.digits.now c.loop-i.i c.requires.some c.requires.counts c.loop-i-test.true)

pub copy_strided-requires-in-loop-i : goal.copy_strided-requires-in-loop-i
copy_strided-requires-in-loop-i t c =
    let d = c.args.digits.now in
    let l = c.loop-i in
    let m = get_or d 1 0 in
    let k = rest-is d (one-digit d c.requires.some c.requires.counts.nested) in
    let u = turn d l.i c.requires.some c.requires.counts c.loop-i-test.true in
    let n = two_digits d c.requires c.if-inner-eq1.false in (
      rw (k, ← c.decreases) u.less,
      rw (k, part_length l.to (l.i * m) m (omega (arith, u.part, l.invariant.1.size)))
          (record { some = omega (arith, length-drop 3 d); counts = u.rest }),
    )

pub loop-i-preserved : goal.loop-i-preserved
unfolding copied
loop-i-preserved t c =
    let d = c.args.digits.now in
    let l = c.loop-i in
    let m = get_or d 1 0 in
    let a = l.i * m in
    let k = rest-is d (one-digit d c.requires.some c.requires.counts.nested) in
    let u = turn d l.i c.requires.some c.requires.counts c.loop-i-test.true in
    let e = part_length l.to a m (omega (arith, u.part, l.invariant.1.size)) in
    let r = c.copy_strided-in-loop-i in (
      omega (arith, c.loop-i-test.true),
      rw (next-part l.i m) (fill-part m l.invariant.1 u.part r.auto.to
          (rw (e, k) at r.ensures ∙ turn-places (λ k. get_or c.args.from.now k 0) d l.i (get_or d 0 0) m (get_or d 2 0) u)),
    )

pub returns : goal.returns
unfolding copied
returns t c =
    let d = c.args.digits.now in
    let e : c.loop-i.i ≡ get_or d 0 0 = omega (arith, c.loop-i-test.false) in
    fill_end c.loop-i.invariant.1 (rw e (omega (arith, words_are d c.requires.some c.requires.counts)))
