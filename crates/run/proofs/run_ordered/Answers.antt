use native.Mathlib.Omega.{arith}
use Prim.Native.Nat.{ℕ}
use mathlib.Core.List.{List}
use mathlib.Core.Path.{◌≡◌}
use lib.ListN.{length, replicate, length-replicate}
use Rattle.rules.specs.Limits.{most_devices}
use Rattle.plan.proofs.Wholes.{bounded}
use Rattle.run.proofs.run_ordered.Goals as goal

abbrev zeros : List ℕ
zeros = replicate most_devices 0

many : length zeros ≡ most_devices
many = length-replicate {A = ℕ} most_devices 0

pub slice_bounds-order-end : goal.slice_bounds-order-end
slice_bounds-order-end c = let s = c in
    let b = bounded _ (s.requires.runs.plan, s.requires.runs.judged, s.requires.runs.holds) in
    omega (arith, b.devices_few, many)
