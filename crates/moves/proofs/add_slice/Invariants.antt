use Rattle.std.proofs.Common.{◌≡◌, ◌*◌, drop}
use Rattle.rules.specs.Mesh.{span}
use Rattle.types.specs.Types.{axes_of}
use Rattle.moves.specs.Moves.{with_slice}
use Rattle.moves.proofs.add_slice.Given as goal

abbrev pub invariant-loop-i : goal.invariant-loop-i
invariant-loop-i l =
    (l.added ≡ with_slice l.mesh (drop l.i (axes_of l.axes)) l.v l.initial.added) × (l.words ≡ span l.mesh (drop l.i (axes_of l.axes)) * l.v)
