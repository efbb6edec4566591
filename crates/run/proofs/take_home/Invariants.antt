use Prim.Native.Nat.{◌≤◌}
use mathlib.Core.Path.{◌≡◌}
use mathlib.Core.List.{◌++◌}
use lib.ListN.{length, get_or, drop}
use Rattle.rules.specs.Lists.{tab}
use Rattle.run.proofs.take_home.Given as goal

abbrev pub invariant-loop-i : goal.invariant-loop-i
invariant-loop-i l =
    (l.i ≤ length l.initial.work) × (l.work ≡ tab l.i (λ k. get_or l.initial.spare k 0) ++ drop l.i l.initial.work) × (l.spare ≡ tab l.i (λ k. 0) ++ drop l.i l.initial.spare)
    × (length l.work ≡ length l.initial.work) × (length l.spare ≡ length l.initial.spare)
