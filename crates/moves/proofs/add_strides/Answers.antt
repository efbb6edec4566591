use Rattle.std.proofs.Common.{◌+◌, get_or, ap, ◌∙◌, arith}
use Rattle.laws.proofs.Fronts.{fill-word, fill_end, front-behind}
use Rattle.moves.proofs.Dims.{from-tab}
use Rattle.moves.proofs.add_strides.Goals as goal

-- the entry is as it was
pub loop-i-preserved : goal.loop-i-preserved
loop-i-preserved c =
    let l = c.loop-i in
    let strides = c.args.strides.now in
    let added = c.args.added.now in
    fill-word l.invariant (omega (arith, c.requires.places)) (ap (λ n. n + get_or added l.i 0)
    (ap (λ t. get_or t l.i 0) l.invariant.front ∙ front-behind 0 (λ k. get_or strides k 0 + get_or added k 0) strides l.i))

pub returns : goal.returns
returns c =
    fill_end c.loop-i.invariant (omega (arith, c.requires.places)) ∙ from-tab c.args.strides.now c.args.added.now c.requires.places
