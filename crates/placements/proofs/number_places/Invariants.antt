use Prim.Native.Nat.{◌≤◌}
use lib.ListN.{length}
use Rattle.rules.specs.Limits.{most_devices}
use Rattle.laws.proofs.Fronts.{Filled}
use Rattle.placements.proofs.number_places.Given as goal

abbrev pub invariant-loop-i : goal.invariant-loop-i
invariant-loop-i l = Filled (λ k. k) l.initial.places l.places l.i × (length l.initial.places ≤ most_devices)
