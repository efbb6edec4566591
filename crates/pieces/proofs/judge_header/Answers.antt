use mathlib.Core.Path.{◌∙◌}
use Rattle.pieces.proofs.Heads.{judged-by}
use Rattle.pieces.proofs.judge_header.Goals as goal

pub returns : goal.returns
returns c = c.read_header.ensures
    ∙ judged-by c.args.head.now _ _ c.args.bytes c.copy_from_slice.ensures.after c.requires.0 c.requires.1
