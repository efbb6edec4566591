use Rattle.std.proofs.Common.{◌≡◌, ◌+◌, ◌-◌, ◌<◌, get_or, take, drop, arith, ap, get_or-take, get_or-drop, length-take-le, length-drop}
use Rattle.rules.specs.Spread.{add_words}
use Rattle.sums.proofs.Sharing.{share-step}
use Rattle.sums.proofs.Shards.repeat.Goals as goal

pub loop-shift-preserved : goal.loop-shift-preserved
loop-shift-preserved c =
    let l = c.loop-shift in
    let w = c.args.words.now in
    let shifts = c.args.self.shifts.now in
    let q = l.shift-index + 1 in
    let few = c.requires.some.members in
    let k : q < c.args.n = omega (arith, length-take-le (c.args.n - 1) (drop 1 shifts) (omega (arith, length-drop 1 shifts)), c.loop-shift-test.true) in
    let e : get_or (take (c.args.n - 1) (drop 1 shifts)) l.shift-index 0 ≡ get_or shifts q 0 = rw (get_or-take (c.args.n - 1) (drop 1 shifts) l.shift-index 0 (omega arith), get_or-drop 1 shifts l.shift-index 0) (ap (λ i. get_or shifts i 0) (omega arith)) in
    rw (c.repeat_shard.ensures, e)
    (share-step add_words 0 w c.requires.group q (λ o. get_or w (c.args.self.at + o) 0) l.words (omega arith) (omega arith) l.auto.words l.invariant)
