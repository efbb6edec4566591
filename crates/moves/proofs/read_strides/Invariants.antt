use Rattle.std.proofs.Common.{◌≡◌, drop}
use Rattle.types.specs.Types.{axes_of}
use Rattle.digits.specs.Digits.{cleared}
use Rattle.moves.proofs.read_strides.Given as goal

abbrev pub invariant-loop-axis : goal.invariant-loop-axis
invariant-loop-axis l = cleared (drop l.axis-index (axes_of l.fn.axes)) l.strides ≡ cleared (axes_of l.fn.axes) l.initial.strides
