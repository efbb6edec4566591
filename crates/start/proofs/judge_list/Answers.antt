use Rattle.types.specs.Types.{numbers_of}
use Rattle.start.proofs.judge_list.Goals as goal

pub returns : goal.returns
unfolding numbers_of
returns c = record { result_value = rw (← c.as_slice.ensures) c.judge_turn.ensures.result_value; marks_after = rw (← c.as_slice.ensures) c.judge_turn.ensures.marks_after }
