use Prim.Native.Nat.{◌+◌, ◌*◌}
use Rattle.rules.specs.PlanFile.{u16_at}
use Rattle.laws.proofs.Fronts.{Filled}
use Rattle.reader.proofs.read_order.Given as goal

abbrev pub invariant-loop-i : goal.invariant-loop-i
invariant-loop-i l = Filled (λ k. u16_at l.file (l.at + 2 * k)) l.initial.numbers l.numbers l.i
