use native.Mathlib.Omega.{arith}
use borrow.Author.Tests.{le-leb, lt-leb}
use lib.ListN.{length}
use Rattle.records.specs.Forms.{list_given}
use Rattle.given.proofs.Counts.{given-length}
use Rattle.given.proofs.judge_count.Goals as goal

pub returns-then-n-from : goal.returns-then-n-from
returns-then-n-from c = let a = c.args in
    let e = given-length a.list (omega arith) in
    simp (c.outside.ensures, lt-leb (length (list_given a.list)) a.n (omega (arith, e, c.from.ensures)))

pub returns : goal.returns
returns c = let a = c.args in
    let e = given-length a.list (omega arith) in
    simp (le-leb (length (list_given a.list)) a.n (omega (arith, e, c.from.ensures)))
