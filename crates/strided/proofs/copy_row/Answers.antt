use Prim.Native.Nat.{◌≤◌, ◌-◌, ◌+◌}
use mathlib.Core.Path.{◌≡◌, ◌∙◌}
use lib.ListN.{length}
use Rattle.laws.proofs.Fronts.{part_cut}
use Rattle.strided.proofs.Laws.{run_in, run_is}
use Rattle.strided.proofs.copy_row.Goals as goal
use Rattle.strided.proofs.copy_row.Goals.{Start}

-- the run is within the words
room : (s : Start) → s.args.stride ≡ 1 → s.args.at + length s.args.to.now ≤ length s.args.from.now
room s e = run_in e s.requires

pub returns-then-stride-eq1 : goal.returns-then-stride-eq1
returns-then-stride-eq1 c = let s = c in
    let e = c.if-stride-eq1.true in
    let n = length s.args.to.now in
    c.copy_run.ensures
    ∙ run_is 0 s.args.from.now n s.args.stride s.args.at (s.args.at + n - s.args.at) e (part_cut s.args.at n) (room ((goal.at.returns-then-stride-eq1 c).Start) e)
