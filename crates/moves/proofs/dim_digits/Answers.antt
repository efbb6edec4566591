use Rattle.types.specs.Types.{axes_of}
use Rattle.moves.proofs.Dims.{DimFacts, dim-facts}
use Rattle.moves.proofs.dim_digits.Goals as goal
use Rattle.moves.proofs.dim_digits.Goals.{Start}

facts : (s : Start) → DimFacts s.args.mesh.now (axes_of s.args.sliced) s.args.n s.args.w s.args.inner
facts s = dim-facts s.requires

pub add_slice-requires : goal.add_slice-requires
add_slice-requires c = let s = c in
    rw c.span_of.ensures
    (record {
      has = record { on = s.requires.has.on; places = s.requires.added_places };
      of_mesh = s.requires.sliced;
      few = (facts ((goal.at.add_slice-requires c).Start)).apart_few;
      added_few = s.requires.added_few;
    })
