use Prim.Native.Nat.{◌≤◌}
use mathlib.Core.Path.{◌≡◌}
use lib.ListN.{length, drop}
use Rattle.rules.specs.Mesh.{span}
use Rattle.types.specs.Types.{axes_of}
use Rattle.mesh.proofs.span_of.Given as goal

abbrev pub invariant-loop-i : goal.invariant-loop-i
invariant-loop-i l = (l.i ≤ length (axes_of l.list)) × (l.count ≡ span l.mesh (drop l.i (axes_of l.list)))
