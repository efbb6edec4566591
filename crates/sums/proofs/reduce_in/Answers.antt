use Rattle.std.proofs.Common.{◌∙◌}
use Rattle.rules.specs.Spread.{add_words}
use Rattle.types.specs.Types.{axes_of}
use Rattle.sums.proofs.Tables.{reduced-all}
use Rattle.sums.proofs.reduce_in.Goals as goal

pub returns : goal.returns
returns c = let s = c in
    c.sum_into.ensures ∙ reduced-all add_words 0 s.args.mesh.now s.args.shape.now (axes_of s.args.axes) s.args.words.now
