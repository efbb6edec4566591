use mathlib.Core.Path.{sym, ◌∙◌}
use mathlib.Core.List.{[]}
use native.Mathlib.Omega.{arith}
use lib.ListN.{length-map, get_or-map, get_or-eq_default}
use Rattle.types.specs.Types.{axes_of, dims_of}
use Rattle.types.proofs.DimLists.at.Goals as goal

pub returns-then-i-lt-MOST : goal.returns-then-i-lt-MOST
unfolding dims_of axes_of
returns-then-i-lt-MOST c = let a = c.args in sym (get_or-map axes_of a.self.0 a.d.0 (record { count = 0; axes = []; align = [] }))

pub returns-else-i-lt-MOST : goal.returns-else-i-lt-MOST
unfolding dims_of
returns-else-i-lt-MOST c = let a = c in c.empty.ensures ∙ sym (get_or-eq_default (dims_of a.args.self) [] (simp length-map (omega (arith, a.well_formed.0.1.1.0.1.0.1))))
