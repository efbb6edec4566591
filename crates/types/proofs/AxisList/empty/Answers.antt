use mathlib.Core.Path.{refl}
use Rattle.types.specs.Types.{axes_of}
use Rattle.types.proofs.AxisList.empty.Goals as goal

pub returns : goal.returns
unfolding axes_of
returns c = refl
