use native.Mathlib.Omega.{arith}
use mathlib.Core.Path.{◌≡◌, sym, ap, ◌∙◌}
use Prim.Native.Nat.{ℕ, ◌+◌, ◌*◌}
use lib.ListN.{replicate, length-replicate}
use Rattle.rules.specs.Lists.{tab}
use Rattle.rules.specs.Limits.{most_devices}
use Rattle.rules.specs.PlanFile.{u16_at, order_allowed}
use Rattle.reader.proofs.Answers.{refused-so}
use Rattle.reader.proofs.Sizing.{lent-read}
use Rattle.reader.proofs.Ordering.{no-order, order-past, order-wrong, order-whole}
use Rattle.reader.proofs.judge_order.Goals as goal
use Rattle.reader.proofs.judge_order.Goals.{After-order_allowed}

-- the test of the numbers that were read
tested : (c : After-order_allowed)
    → let a = c.args in
    order_allowed a.devices (tab a.devices (λ i. u16_at a.file.now (a.at + 2 * i))) ≡ c.order_allowed.result
tested c =
    let read = lent-read (replicate {A = ℕ} most_devices 0) c.read_order.new.numbers c.args.devices _ (omega (arith, length-replicate {A = ℕ} most_devices 0)) c.read_order.ensures c.read_order.auto.numbers in
    sym (c.order_allowed.ensures ∙ ap (order_allowed c.args.devices) read)

pub returns-then-not-carried : goal.returns-then-not-carried
returns-then-not-carried c = no-order _ _ _ _ c.if-not-carried.true

pub returns-then-file-at : goal.returns-then-file-at
returns-then-file-at c = refused-so c.outside.ensures (order-past _ _ _ _ c.if-not-carried.false (omega (arith, c.if-file-at.true, c.requires.0)))

pub returns-then-not-order_allowed : goal.returns-then-not-order_allowed
returns-then-not-order_allowed c =
    refused-so c.outside-then-not-order_allowed.ensures
    (order-wrong _ _ _ _ c.if-not-carried.false (omega (arith, c.if-file-at.false, c.requires.0))
    (tested ((goal.at.returns-then-not-order_allowed c).After-order_allowed) ∙ c.if-not-order_allowed.true))

pub returns : goal.returns
returns c = order-whole _ _ _ _ c.if-not-carried.false (omega (arith, c.if-file-at.false, c.requires.0)) (tested ((goal.at.returns c).After-order_allowed) ∙ c.if-not-order_allowed.false)
