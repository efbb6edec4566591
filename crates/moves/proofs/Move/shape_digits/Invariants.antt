use Rattle.moves.specs.Moves.{lists, DimensionsAt}
use Rattle.moves.proofs.Move.shape_digits.Given as goal

abbrev pub invariant-loop-j : goal.invariant-loop-j
invariant-loop-j l =
    DimensionsAt l.self.mesh.now l.self.shape.now (lists l.self.shape.now l.self.gathers) (lists l.self.shape.now l.self.slices) l.initial.strides l.initial.added l.digits l.strides l.added l.first l.count l.w l.j
