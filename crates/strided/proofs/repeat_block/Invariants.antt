use Prim.Native.Nat.{◌<◌, ◌-◌, ◌%◌}
use mathlib.Core.Path.{◌≡◌}
use lib.ListN.{length, get_or}
use Rattle.laws.proofs.Fronts.{Filled}
use Rattle.strided.proofs.repeat_block.Given as goal

abbrev pub invariant-loop-done : goal.invariant-loop-done
invariant-loop-done l = (0 < l.done) × (0 < l.part) × (l.done % l.period ≡ 0) × (l.part % l.period ≡ 0)
    × Filled (λ k. get_or l.initial.to (k % l.period) 0) l.initial.to l.to l.done

abbrev pub decreases-loop-done : goal.decreases-loop-done
decreases-loop-done l = length l.initial.to - l.done
