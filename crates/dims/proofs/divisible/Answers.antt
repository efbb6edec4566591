use native.Mathlib.Omega.{arith}
use mathlib.Core.List.{[]}
use mathlib.Core.Path.{sym}
use lib.Seq.{get_or-take, length-take-le}
use Rattle.types.specs.Types.{axes_of, mesh_of}
use Rattle.dims.proofs.Pairs.{testing, fails}
use Rattle.dims.proofs.Dims.{dims-length, list_at, span-least}
use borrow.Author.Tests.{ne_eqb}
use Rattle.dims.proofs.divisible.Goals as goal

pub loop-d-init : goal.loop-d-init
loop-d-init c = let a = c.args in
    testing _ _ _ a.table.rank
    (length-take-le a.table.rank a.table.sizes (omega (arith, c.well_formed.0.1.1.1.0.1.0.1)))
    (dims-length a.lists a.table.rank (c.well_formed.1.0.1.1.0.1.0.1) (omega arith))

pub nonzero_rem-table : goal.nonzero_rem-table
nonzero_rem-table c = omega (arith, c.span.ensures, span-least (mesh_of c.args.mesh) c.requires.1 (axes_of c.at-list.result))

pub returns-then-table-d-ne0 : goal.returns-then-table-d-ne0
returns-then-table-d-ne0 c = let a = c.args in
    let h = c.loop-d-test.true in
    let p = sym (get_or-take a.table.rank a.table.sizes c.loop-d.d 0 h) in
    let q = list_at a.lists a.table.rank c.loop-d.d _ h c.at-list.ensures in
    sym (fails c.loop-d.invariant h _ 0 p _ [] q (rw (← c.span.ensures)
    (ne_eqb _ _ c.if-table-d-ne0.true)))
