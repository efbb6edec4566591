use native.Mathlib.Omega.{arith}
use mathlib.Core.Path.{sym}
use lib.Dec.{lit≤}
use Rattle.rules.specs.Limits.{most_devices}
use Rattle.laws.proofs.Accepted.{section-facts}
use Rattle.reader.proofs.Answers.{handed-on}
use Rattle.reader.proofs.Heading.{headed}
use Rattle.reader.proofs.Ordering.{sizes-stop, order-stops, mesh-read}
use Rattle.reader.proofs.read_mesh.Goals as goal

pub read_sizes-requires : goal.read_sizes-requires
read_sizes-requires c = let h = headed _ _ c.requires in (
  omega arith,
  (
    omega (arith, h.facts.long),
    omega (arith, h.facts.short),
    omega (arith, h.facts.axes_few, h.axes_are),
    omega (arith, h.facts.axes_few, h.axes_are),
    lit≤ tt,
  ),
)

pub returns-in_err-read-clause-reads : goal.returns-in_err-read-clause-reads
returns-in_err-read-clause-reads c = handed-on _ _ _ c.from_residual.ensures.1 (sizes-stop _ _ _ _ (sym c.in_err-read.ensures.reads))

pub judge_order-requires : goal.judge_order-requires
judge_order-requires c = let h = headed _ _ c.requires in
    let f = section-facts most_devices 10 11 _ _ _ 18 _ (lit≤ tt) (sym c.in_ok-read.ensures.reads) in
    (omega (arith, f.inside), omega (arith, h.facts.short), omega (arith, f.sizes.few, c.in_ok-read.ensures.multiplies))

pub returns-in_err-next-clause-reads : goal.returns-in_err-next-clause-reads
returns-in_err-next-clause-reads c = let r = c.in_ok-read.ensures in
    handed-on _ _ _ c.from_residual-in_err-next.ensures.1
    (order-stops _ _ _ _ (sym r.reads) r.multiplies (rw c.carries_order.ensures at (sym c.in_err-next.ensures)))

pub returns-clause-reads : goal.returns-clause-reads
returns-clause-reads c = let r = c.in_ok-read.ensures in
    sym (mesh-read _ _ _ _ (sym r.reads) r.multiplies (rw c.carries_order.ensures at (sym c.in_ok-next.ensures)))
