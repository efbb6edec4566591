-- A step leaves what is asked before the next. Assumes nothing.
use Rattle.blocks.specs.Blocks.{Judging}
use Rattle.answer.proofs.print_steps.Given as goal

abbrev pub invariant-loop-k : goal.invariant-loop-k
invariant-loop-k g l = Judging l.fn.file l.at l.number l.fn.opening.mesh l.fn.opening.table l.initial.extent l.most l.after
