use Prim.Native.Nat.{◌≤◌}
use mathlib.Core.Path.{◌≡◌}
use mathlib.Core.List.{◌++◌}
use lib.ListN.{length, take, drop}
use Rattle.digits.specs.Digits.{mesh_strides}
use Rattle.digits.proofs.fill_strides.Given as goal

abbrev pub invariant-loop-i : goal.invariant-loop-i
invariant-loop-i l = (l.i ≤ length l.mesh) × (length l.strides ≡ length l.initial.strides) × (l.strides ≡ take l.i l.initial.strides ++ mesh_strides (drop l.i l.mesh) l.m)
