use native.Mathlib.Omega.{arith}
use mathlib.Core.Path.{◌≡◌, sym}
use lib.ListN.{length, take, drop, replicate, length-map}
use lib.Seq.{length-take-le}
use Rattle.rules.specs.Limits.{most_dims}
use Rattle.types.specs.Types.{axes_of, dims_of}
use Rattle.types.proofs.Types.{map-set}
use Rattle.reader.proofs.Answers.{handed-on}
use Rattle.reader.proofs.Listing.{begin, next-list, list-refused, lists-whole, front-lists}
use Rattle.reader.proofs.read_lists.Goals as goal
use Rattle.reader.proofs.read_lists.Goals.{After-empty-lists}

-- as many places as dimensions
places : (c : After-empty-lists) → length (take c.args.rank (replicate most_dims c.empty-lists.result)) ≡ c.args.rank
places c = length-take-le c.args.rank (replicate most_dims c.empty-lists.result) (omega arith)

pub loop-list-init : goal.loop-list-init
loop-list-init c = begin _ _ _ _ _ (simp length-map (places ((goal.at.loop-list-init c).After-empty-lists)))

pub returns-in_err-read : goal.returns-in_err-read
returns-in_err-read c =
    handed-on _ _ _ c.from_residual.ensures.1
    (list-refused c.loop-list.invariant (omega (arith, places ((goal.at.returns-in_err-read c).After-empty-lists))) _ _ (sym c.in_err-read.ensures))

pub loop-list-preserved : goal.loop-list-preserved
loop-list-preserved c = let l = c.loop-list in
    rw (map-set axes_of l.list-items l.list-index c.in_ok-read.read.value)
    (next-list l.invariant (omega (arith, places ((goal.at.loop-list-preserved c).After-empty-lists))) _ _ (sym c.in_ok-read.ensures))

pub returns : goal.returns
unfolding dims_of
returns c = let l = c.loop-list.invariant in
    rw (front-lists c.loop-list.list-items (drop c.args.rank (replicate most_dims c.empty-lists.result)) c.args.rank l.room)
    (sym (lists-whole l (omega (arith, places ((goal.at.returns c).After-empty-lists)))))
