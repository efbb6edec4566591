use Rattle.encode.proofs.Given.{Records}
use Rattle.encode.proofs.put_steps.Given as goal

abbrev pub invariant-loop-i : goal.invariant-loop-i
invariant-loop-i l = Records l.initial.out l.out l.at l.place l.rank l.steps l.i
