use native.Mathlib.Omega.{arith}
use mathlib.Core.Path.{refl}
use Rattle.types.specs.Types.{axes_of}
use Rattle.types.proofs.Types.{axes-length}
use Rattle.axes.proofs.Lists.{cut-counted}
use Rattle.axes.proofs.cut_tail.Goals as goal

pub overflow_cast-front : goal.overflow_cast-front
overflow_cast-front c = let s = c in
    omega (arith, axes-length s.args.list (s.well_formed.0.1.1.1.0.1.0.1), c.len-have.ensures)

pub returns-then-have-want : goal.returns-then-have-want
returns-then-have-want c = let c3 = c in
    let a = c3.args in cut-counted a.list (axes_of a.tail) _ _ 0 c.len-have.ensures c.len-want.ensures (omega arith)

pub returns-else-have-want : goal.returns-else-have-want
returns-else-have-want c = let c3 = c in
    let a = c3.args in cut-counted a.list (axes_of a.tail) _ _ _ c.len-have.ensures c.len-want.ensures refl
