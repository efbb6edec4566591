use Rattle.encode.proofs.Puts.{Numbers}
use Rattle.encode.proofs.put_u16s.Given as goal

abbrev pub invariant-loop-number : goal.invariant-loop-number
invariant-loop-number l = Numbers l.initial.out l.out l.at l.place l.numbers l.number-index
