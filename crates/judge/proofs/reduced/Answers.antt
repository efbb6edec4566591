use mathlib.Core.Path.{refl}
use Rattle.rules.specs.Collectives.{reduced as reduced_of}
use Rattle.judge.proofs.reduced.Goals as goal

pub returns : goal.returns
unfolding reduced_of
returns c = λ rank. rw c.without-next.ensures refl
