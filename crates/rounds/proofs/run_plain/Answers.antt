use native.Mathlib.Omega.{arith}
use Rattle.rounds.proofs.Plain.{plain-asks, plain-numbered, plain-ran}
use Rattle.rounds.proofs.run_plain.Goals as goal

pub do_turn-read-requires : goal.do_turn-read-requires
do_turn-read-requires c = plain-asks _ _ c.requires

pub overflow_add-result : goal.overflow_add-result
overflow_add-result c = omega (arith, plain-numbered c.requires)

pub returns : goal.returns
returns c = plain-ran _ _ c.requires _ _ c.do_turn-read.ensures (c.stands_after.ensures _)
