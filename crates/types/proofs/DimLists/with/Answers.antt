use mathlib.Core.Path.{sym}
use native.Mathlib.Omega.{arith}
use lib.ListN.{length-map}
use lib.Seq.{set_out}
use Rattle.types.specs.Types.{axes_of, dims_of}
use Rattle.types.proofs.Types.{map-set}
use Rattle.types.proofs.DimLists.with.Goals as goal

pub returns-then-i-lt-MOST : goal.returns-then-i-lt-MOST
unfolding dims_of
returns-then-i-lt-MOST c = let a = c.args in map-set axes_of a.self.0 a.d.0 a.l

pub returns-else-i-lt-MOST : goal.returns-else-i-lt-MOST
unfolding dims_of
returns-else-i-lt-MOST c = let a = c in sym (set_out (dims_of a.args.self) a.args.d.0 (axes_of a.args.l) (simp length-map (omega (arith, a.well_formed.0.1.1.0.1.0.1))))
