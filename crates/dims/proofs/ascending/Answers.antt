use native.Mathlib.Omega.{arith}
use mathlib.Core.Path.{◌∙◌}
use Rattle.axes.proofs.Naming.{marked-ascending}
use Rattle.dims.proofs.ascending.Goals as goal

pub returns : goal.returns
returns c = c.marked_below.ensures ∙ marked-ascending _ _ (omega arith) c.mark_dims.ensures
