use native.Mathlib.Omega.{arith}
use mathlib.Core.List.{◌++◌}
use mathlib.Core.Path.{refl}
use lib.ListN.{length-map}
use Rattle.types.specs.Types.{axes_of, dims_of}
use Rattle.dims.proofs.Pairs.{making}
use Rattle.dims.proofs.Dims.{dims-length}
use Rattle.dims.proofs.join_lists.Goals as goal

pub loop-d-init : goal.loop-d-init
unfolding dims_of
loop-d-init c = let a = c.args in
    let s = c.well_formed.0.1.1.0.1.0.1 in
    let t = c.well_formed.1.0.1.1.0.1.0.1 in (
      making ◌++◌ _ _ _ a.rank (dims-length a.dims a.rank s (omega arith)) (dims-length a.lists a.rank t (omega arith))
          (omega (arith, length-map a.dims.0 axes_of, s)),
      refl,
    )
