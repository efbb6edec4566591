use Rattle.std.proofs.Common.{◌-◌, ◌*◌, ◌≤◌, ◌++◌, length, drop, refl, ap, ◌∙◌, arith, length-drop, length-take-le}
use Rattle.rules.specs.Lists.{product}
use Rattle.laws.proofs.Fronts.{tail_all}
use Rattle.strided.specs.Strided.{Copy}
use Rattle.moves.proofs.Whole.{setting, copy-asked, copy-leaves}
use Rattle.moves.proofs.move_first.Goals as goal
use Rattle.moves.proofs.move_first.Goals.{After-product_from}

-- the digits lead a copy that can be done
asked : (c : After-product_from) → Copy (drop c.make_digits-first.result c.make_digits-first.new.digits) (product c.args.mesh.now * c.args.words) 0 (length c.args.old.now)
asked c =
    copy-asked (setting c.requires.moving c.requires.along c.requires.words_value) _ _ (length c.args.old.now) c.make_digits-first.ensures refl
    c.requires.shape_in_bounds.0

pub offset_bounds-digits-first : goal.offset_bounds-digits-first
offset_bounds-digits-first c =
    let j = c.make_digits-first in
    omega (arith, (asked ((goal.at.offset_bounds-digits-first c).After-product_from)).some, length-drop j.result j.new.digits)

pub slice_bounds-copy_digits-count : goal.slice_bounds-copy_digits-count
slice_bounds-copy_digits-count c =
    let j = c.make_digits-first in
    omega (arith, (asked ((goal.at.slice_bounds-copy_digits-count c).After-product_from)).some, length-drop j.result j.new.digits)

pub slice_bounds-copy_digits-start : goal.slice_bounds-copy_digits-start
slice_bounds-copy_digits-start c =
    let j = c.make_digits-first in
    omega (arith, (asked ((goal.at.slice_bounds-copy_digits-start c).After-product_from)).some, length-drop j.result j.new.digits)

pub copy_digits-requires-clause-copy : goal.copy_digits-requires-clause-copy
copy_digits-requires-clause-copy c =
    let j = c.make_digits-first in
    let k = asked ((goal.at.copy_digits-requires-clause-copy c).After-product_from) in
    let w : j.result ≤ 48 = omega (arith, k.some, length-drop j.result j.new.digits) in
    let n = product c.args.mesh.now * c.args.words in
    let d = tail_all j.new.digits j.result (48 - j.result) (omega arith) in
    let l = length-take-le n c.args.new.now c.requires.shape_in_bounds.1 in
    rw (d, c.product_from.ensures, l) k

pub returns : goal.returns
returns c =
    let j = c.make_digits-first in
    let k = asked ((goal.at.returns c).After-product_from) in
    let w : j.result ≤ 48 = omega (arith, k.some, length-drop j.result j.new.digits) in
    let n = product c.args.mesh.now * c.args.words in
    let new = c.args.new.now in
    let d = tail_all j.new.digits j.result (48 - j.result) (omega arith) in
    let l = length-take-le n new c.requires.shape_in_bounds.1 in
    let copied = rw (d, c.product_from.ensures, l) at c.copy_digits.ensures in
    rw c.product_from.ensures (ap (λ t. t ++ drop n new)
    (copied ∙ copy-leaves (setting c.requires.moving c.requires.along c.requires.words_value) 0 _ n c.args.old.now j.ensures refl))
