use native.Mathlib.Omega.{arith}
use mathlib.Core.Path.{◌≡◌, sym}
use mathlib.Core.List.{◌++◌}
use Prim.Native.Nat.{ℕ, ◌+◌, ◌*◌}
use lib.ListN.{take, drop, replicate, length-replicate}
use Rattle.rules.specs.Lists.{tab}
use Rattle.rules.specs.PlanFile.{u16_at}
use Rattle.reader.proofs.Answers.{refused-so, handed-on}
use Rattle.reader.proofs.Sizing.{wrong-offset, no_room, sizes-refused, sizes-read, lent-read}
use Rattle.reader.proofs.read_sizes.Goals as goal
use Rattle.reader.proofs.read_sizes.Goals.{After-read_order}
use Rattle.reader.proofs.read_sizes.Given.{Over}

-- the sizes that were read
read : (g : Over) (c : After-read_order g)
    → take c.args.count (c.read_order.new.numbers ++ drop c.args.count (replicate {A = ℕ} g.row.N 1))
    ≡ tab c.args.count (λ i. u16_at c.args.file.now (c.args.at + 2 * i))
read g c = lent-read (replicate {A = ℕ} g.row.N 1) _ _ _ (omega (arith, length-replicate {A = ℕ} g.row.N 1)) c.read_order.ensures c.read_order.auto.numbers

pub returns-then-offset-at-clause-reads : goal.returns-then-offset-at-clause-reads
returns-then-offset-at-clause-reads g c = refused-so c.outside.ensures (wrong-offset _ _ _ _ _ _ _ (omega arith))

pub returns-then-file-at-clause-reads : goal.returns-then-file-at-clause-reads
returns-then-file-at-clause-reads g c = refused-so c.outside-then-file-at.ensures (no_room _ _ _ _ _ _ _ (omega arith) (omega arith))

pub returns-in_err-product-clause-reads : goal.returns-in_err-product-clause-reads
returns-in_err-product-clause-reads g c =
    handed-on _ _ _ c.from_residual.ensures.1
    (sizes-refused _ _ _ _ _ _ _ c.if-offset-at.false (omega arith) (read g ((goal.at.returns-in_err-product-clause-reads g c).After-read_order)) (sym c.in_err-product.ensures.judges))

pub returns-clause-reads : goal.returns-clause-reads
returns-clause-reads g c =
    sym (sizes-read _ _ _ _ _ _ _ c.if-offset-at.false (omega arith) (read g ((goal.at.returns-clause-reads g c).After-read_order)) (sym c.in_ok-product.ensures.judges))
