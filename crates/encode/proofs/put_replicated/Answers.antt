use native.Mathlib.Omega.{arith}
use Rattle.types.specs.Types.{axes_of}
use Rattle.encode.proofs.Puts.{put-none}
use Rattle.encode.proofs.Given.{replicated-put, replicated-none}
use Rattle.encode.proofs.put_replicated.Goals as goal

pub returns-then-edition-ge2 : goal.returns-then-edition-ge2
returns-then-edition-ge2 c = let a = c.args in
    replicated-put a.edition (axes_of a.list) (omega arith) c.put_list.ensures

pub returns : goal.returns
returns c = let a = c.args in
    replicated-none a.edition (axes_of a.list) (omega arith) (put-none _ _)
