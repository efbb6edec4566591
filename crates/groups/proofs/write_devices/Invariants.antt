use Rattle.types.specs.Types.{axes_of}
use Rattle.groups.proofs.Writing.{Writing}
use Rattle.groups.proofs.write_devices.Given as goal

abbrev pub invariant-loop-i : goal.invariant-loop-i
invariant-loop-i l = Writing l.mesh (axes_of l.axes) l.initial.out l.out l.count l.i
