use Rattle.std.proofs.Common.{◌≡◌, ℕ, ◌+◌, get_or, ap, ◌∙◌, arith}
use Rattle.sums.proofs.Writing.{write_step, read-before}
use Rattle.sums.proofs.repeat_shard.Goals as goal

pub loop-t-preserved : goal.loop-t-preserved
loop-t-preserved c =
    let w = c.args.words.now in
    let t = c.loop-t.t in
    let h = c.loop-t-test.true in
    let word : ℕ → ℕ = λ o. get_or w (c.args.first + o) 0 in
    let e : get_or c.loop-t.words (c.args.first + t) 0 ≡ word t =
    ap (λ r. get_or r (c.args.first + t) 0) c.loop-t.invariant
    ∙ read-before 0 w c.args.at t word (c.args.first + t) (omega (arith, c.requires.inside)) (omega (arith, h, c.requires.behind)) in
    rw (e, c.loop-t.invariant) (write_step 0 w c.args.at t word (omega (arith, h, c.requires.inside)))
