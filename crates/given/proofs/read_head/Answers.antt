use Prim.Native.Nat.{◌+◌}
use mathlib.Core.Path.{sym, ap, ◌∙◌}
use Rattle.records.specs.Writing.{step_numbered}
use Rattle.given.proofs.Plain.{at-record}
use Rattle.given.proofs.Heads.{none-run, none_inside, nests-too-deep, head-given}
use Rattle.given.proofs.read_head.Goals as goal
use Rattle.given.proofs.read_head.Goals.{then-count-eq0-via-then-count-eq0, then-count-eq0-via-else-count-eq0+then-inner-eq0}

pub returns-then-count-eq0 : goal.returns-then-count-eq0
returns-then-count-eq0 c rank = let a = c.args in
    elim c.then-count-eq0.branch [
      | then-count-eq0-via-then-count-eq0 w ↦ sym (ap step_numbered (none-run a.steps.now a.i c.requires rank a.depth w.if-count-eq0.true) ∙ at-record c.refusal_at.result 44 (a.i + 1) c.refusal_at.ensures)
      | then-count-eq0-via-else-count-eq0+then-inner-eq0 w ↦ sym (ap step_numbered (none_inside a.steps.now a.i c.requires rank a.depth w.if-count-eq0.false w.if-inner-eq0.true) ∙ at-record c.refusal_at.result 44 (a.i + 1) c.refusal_at.ensures)
    ]

pub returns-then-depth-eq0 : goal.returns-then-depth-eq0
returns-then-depth-eq0 c rank = let a = c.args in
    let r = c.refusal_at-then-depth-eq0 in
    sym (ap step_numbered (nests-too-deep a.steps.now a.i c.requires rank a.depth c.if-count-eq0.false c.if-inner-eq0.false c.if-depth-eq0.true)
    ∙ at-record r.result 42 (a.i + 1) r.ensures)

pub returns : goal.returns
returns c rank = let a = c.args in
    sym (ap step_numbered (head-given a.steps.now a.i c.requires rank a.depth c.if-count-eq0.false c.if-inner-eq0.false c.if-depth-eq0.false))
