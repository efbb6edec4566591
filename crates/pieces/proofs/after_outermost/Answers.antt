use Rattle.pieces.proofs.Blocks.{over, all_done, next-outer}
use Rattle.pieces.proofs.after_outermost.Goals as goal

pub returns-then-standing-gt-MOST_RUN : goal.returns-then-standing-gt-MOST_RUN
returns-then-standing-gt-MOST_RUN c mesh sizes rank =
    over c.args.standing c.requires mesh sizes rank c.args.k c.args.left c.if-standing-gt-MOST_RUN.true

pub returns-then-left-eq0 : goal.returns-then-left-eq0
returns-then-left-eq0 c mesh sizes rank =
    all_done c.args.standing c.requires mesh sizes rank c.args.k c.args.left c.if-standing-gt-MOST_RUN.false c.if-left-eq0.true

pub returns : goal.returns
returns c mesh sizes rank =
    next-outer c.args.standing c.requires mesh sizes rank c.args.k c.args.left c.if-standing-gt-MOST_RUN.false c.if-left-eq0.false
