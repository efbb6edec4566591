use Rattle.std.proofs.Common.{◌+◌, get_or}
use Rattle.sums.proofs.Adding.{add-none, add-next}
use Rattle.sums.proofs.Shards.added_word.Goals as goal

pub loop-j-init : goal.loop-j-init
loop-j-init g c = add-none _

pub loop-j-preserved : goal.loop-j-preserved
loop-j-preserved g c =
    let w = c.args.words.now in
    rw c.loop-j.invariant (add-next (get_or w (c.args.self.at + c.args.t) 0) c.loop-j.j (λ j. get_or w (c.args.self.at + get_or c.args.self.shifts.now (c.args.q + j) 0 + c.args.t) 0))
