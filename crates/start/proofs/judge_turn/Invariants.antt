use Rattle.start.proofs.Turn.{Turning}
use Rattle.start.proofs.judge_turn.Given as goal

abbrev pub invariant-loop-name : goal.invariant-loop-name
invariant-loop-name g l = Turning l.n l.increasing l.initial.marks g.A.Named.number l.axes l.marks l.low l.name-index
