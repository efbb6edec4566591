use lib.ListN.{length}
use Rattle.pieces.specs.Held.{open_of}
use Rattle.pieces.proofs.Blocks.{Closing}
use Rattle.pieces.proofs.after_step.Given as goal

abbrev pub invariant-loop-frame : goal.invariant-loop-frame
invariant-loop-frame l = Closing l.rank l.initial.here l.k l.left l.here l.step l.rest

abbrev pub decreases-loop-frame : goal.decreases-loop-frame
decreases-loop-frame l = length (open_of l.here.frames)
