use mathlib.Core.Path.{sym}
use Rattle.types.specs.Types.{sharding_of}
use Rattle.planner.proofs.Routes.{lacks-axis, other-list, in_reach}
use Rattle.planner.proofs.judge_reach.Goals as goal
use Rattle.planner.proofs.judge_reach.Goals.{then-not-all_in-via-then-not-all_in, then-not-all_in-via-else-not-all_in+then-not-same_list}

pub returns-then-not-all_in : goal.returns-then-not-all_in
returns-then-not-all_in c rank = let a = c.args in
    let s = sharding_of rank a.start in
    let g = sharding_of rank a.goal in
    elim c.then-not-all_in.branch [
      | then-not-all_in-via-then-not-all_in w ↦ rw c.outside.ensures (sym (lacks-axis s g c.all_in.ensures w.if-not-all_in.true))
      | then-not-all_in-via-else-not-all_in+then-not-same_list w ↦ rw c.outside.ensures (sym (other-list s g c.all_in.ensures w.if-not-all_in.false w.same_list.ensures w.if-not-same_list.true))
    ]

pub returns : goal.returns
returns c rank = let a = c.args in
    sym (in_reach (sharding_of rank a.start) (sharding_of rank a.goal) c.all_in.ensures c.if-not-all_in.false c.same_list.ensures c.if-not-same_list.false)
