use mathlib.Core.Path.{sym}
use Rattle.reader.proofs.Answers.{refused-so, handed}
use Rattle.opening.specs.Opening.{judge_opening}
use Rattle.opening.proofs.judge_opening.Goals as goal

pub returns-in_err-judge_start : goal.returns-in_err-judge_start
unfolding judge_opening
returns-in_err-judge_start c = handed _ _ c.from_residual.ensures.1 (simp (sym c.in_err-judge_start.ensures))

pub returns-then-not-one_meaning : goal.returns-then-not-one_meaning
unfolding judge_opening
returns-then-not-one_meaning c = refused-so c.outside.ensures (simp (sym c.in_ok-judge_start.ensures, sym c.if-not-one_meaning.ensures))

pub returns : goal.returns
unfolding judge_opening
returns c = simp (sym c.in_ok-judge_start.ensures, sym c.if-not-one_meaning.ensures)
