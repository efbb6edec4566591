use Prim.Native.Nat.{◌≤◌}
use Rattle.laws.proofs.Fronts.{Filled}
use Rattle.groups.specs.Ordering.{repeated}
use Rattle.groups.proofs.repeat_devices.Given as goal

abbrev pub invariant-loop-place : goal.invariant-loop-place
invariant-loop-place l = Filled (repeated l.initial.out l.count l.stride) l.initial.out l.out l.place × (l.count ≤ l.place) × (l.place ≤ l.end)
