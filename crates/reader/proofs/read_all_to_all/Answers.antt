use Prim.Native.Nat.{◌+◌}
use native.Mathlib.Omega.{arith}
use mathlib.Core.Path.{sym}
use borrow.Author.Tests.{le-leb}
use lib.ListN.{length}
use Rattle.rules.specs.PlanFile.{lists_of}
use Rattle.reader.proofs.Answers.{refused-so, handed-on}
use Rattle.reader.proofs.Listing.{byte-is}
use Rattle.reader.proofs.Stepping.{dims-missing}
use Rattle.reader.proofs.read_all_to_all.Goals as goal

pub returns-in_default : goal.returns-in_default
returns-in_default c = let past = c.in_default.ensures.lookup.3 in
    λ rank k. refused-so c.outside.ensures (dims-missing _ _ _ _ _ (omega arith))

pub returns-in_default-get : goal.returns-in_default-get
returns-in_default-get c = let past = c.in_default-get.ensures.lookup.3 in
    λ rank k. refused-so c.outside-in_default-get.ensures (dims-missing _ _ _ _ _ (omega arith))

pub returns-in_err-list : goal.returns-in_err-list
unfolding lists_of
returns-in_err-list c = let target = byte-is c.in-Some-get.ensures.lookup.3 in
    λ rank k. handed-on _ _ _ c.from_residual.ensures.1 (simp (le-leb (c.args.at + 2) (length c.args.file.now) (omega arith), sym c.in_err-list.ensures))

pub returns : goal.returns
unfolding lists_of
returns c = let source = byte-is c.in-Some.ensures.lookup.3 in
    let target = byte-is c.in-Some-get.ensures.lookup.3 in
    λ rank k. simp (le-leb (c.args.at + 2) (length c.args.file.now) (omega arith), source.is, target.is, sym c.in_ok-list.ensures)
