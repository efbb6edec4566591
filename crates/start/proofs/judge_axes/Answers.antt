use Rattle.std.proofs.lemmas.List.{map-id}
use Rattle.axes.proofs.Naming.{none-marked}
use Rattle.start.proofs.judge_axes.Goals as goal

pub returns : goal.returns
returns c = rw (← none-marked, ← map-id c.args.axes.now) c.judge_turn.ensures.result_value
