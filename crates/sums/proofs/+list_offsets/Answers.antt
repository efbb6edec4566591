use Rattle.std.proofs.Common.{◌≡◌, ℕ, ◌+◌, ◌-◌, ◌*◌, ◌<◌, ◌≤◌, List, length, get_or, take, drop, ◌∙◌, add-zero, arith}
use Rattle.laws.proofs.Fronts.{fill-part, part_length, next-part, tail_all}
use Rattle.strided.specs.Strided.{Counts, most_places, offset}
use Rattle.strided.proofs.Laws.{Turn, offset-zero, one-digit, turn, turn-places}
use Rattle.sums.proofs.Listing.{some-digits, one_place}
use Rattle.sums.proofs.+list_offsets.Goals as goal

-- where the digits count more than one place, there is a whole digit
long : {n at : ℕ} (digits : List ℕ) → Counts digits n at most_places → ¬ (n ≡ 1) → 3 ≤ length digits
long digits r h = one-digit digits (some-digits digits r h) r.nested

-- a turn of the loop over the first digit
turning : {n at : ℕ} (digits : List ℕ) (i : ℕ) → Counts digits n at most_places → ¬ (n ≡ 1) → i < get_or digits 0 0
    → Turn digits n at most_places i (get_or digits 0 0) (get_or digits 1 0) (get_or digits 2 0)
turning digits i r h l = turn digits i (some-digits digits r h) r l

-- the digits after the first, as they are lent
rest-is : (digits : List ℕ) → 3 ≤ length digits → take (length digits - 3) (drop 3 digits) ≡ drop 3 digits
rest-is digits h = tail_all digits 3 (length digits - 3) (omega arith)

pub returns-then-to-eq1 : goal.returns-then-to-eq1
returns-then-to-eq1 t c =
    let digits = c.args.digits.now in
    one_place c.args.to.now c.args.at (λ t. c.args.at + offset digits t) c.if-to-eq1.true (rw (offset-zero digits) (add-zero c.args.at))

pub slice_bounds-list_offsets-end : goal.slice_bounds-list_offsets-end
slice_bounds-list_offsets-end t c =
    omega (arith, turning c.args.digits.now c.loop-i.i c.requires c.if-to-eq1.false c.loop-i-test.true)

pub overflow_mul-i : goal.overflow_mul-i
overflow_mul-i t c = let u = turning c.args.digits.now c.loop-i.i c.requires c.if-to-eq1.false c.loop-i-test.true in omega arith

pub overflow_add-at : goal.overflow_add-at
overflow_add-at t c = let u = turning c.args.digits.now c.loop-i.i c.requires c.if-to-eq1.false c.loop-i-test.true in omega arith

pub list_offsets-requires : goal.list_offsets-requires
list_offsets-requires t c =
    let u = turning c.args.digits.now c.loop-i.i c.requires c.if-to-eq1.false c.loop-i-test.true in
    let digits = c.args.digits.now in
    let m = get_or digits 1 0 in
    let k = rest-is digits (long digits c.requires c.if-to-eq1.false) in (
      rw (k, ← c.decreases) u.less,
      rw (k, part_length c.loop-i.to (c.loop-i.i * m) m (omega (arith, u.part))) u.rest,
    )

pub loop-i-preserved : goal.loop-i-preserved
loop-i-preserved t c =
    let digits = c.args.digits.now in
    let u = turning digits c.loop-i.i c.requires c.if-to-eq1.false c.loop-i-test.true in
    let m = get_or digits 1 0 in
    let l = c.loop-i in
    let k = part_length l.to (l.i * m) m (omega (arith, u.part)) in
    let r = c.list_offsets in
    rw (next-part l.i m) (fill-part m l.invariant u.part r.auto.to
    (rw (k, rest-is digits (long digits c.requires c.if-to-eq1.false)) at r.ensures ∙ turn-places (λ k. k) digits l.i (get_or digits 0 0) m (get_or digits 2 0) u))
