use mathlib.Core.Path.{◌≡◌, ap, ◌∙◌}
use Rattle.rules.specs.Refusals.{refuse}
use Rattle.rules.specs.PlanFile.{edition, carries_order}
use Rattle.types.specs.Answers.{refused_with}
use Rattle.records.specs.RoundTrip.{Bytes}
use Rattle.types.specs.declared.Refusal.{Refusal}
use Rattle.records.specs.Reading.{opened_of, read_of}
use Rattle.records.proofs.Reading.{read-stopped}
use Rattle.plan.proofs.Wholes.{plan-held, whole-stopped, bounded}
use Rattle.decode.proofs.Returns.{few-numbers, steps-stand, order-short, steps-short, written-promise, refused-promise}
use Rattle.decode.proofs.read.Goals as goal
use Rattle.decode.proofs.read.Goals.{then-order-numbers-via-then-order-numbers, then-order-numbers-via-else-order-numbers+then-steps-bytes}

pub returns-in-Err : goal.returns-in-Err
returns-in-Err c = let a = c.args in
    refused-promise (λ i. (c.type_inv.file i).fits) (read-stopped a.file.now a.order.now a.steps.now (whole-stopped _ c.in-Err.ensures)) c.refused.ensures

pub records_length-bytes-requires : goal.records_length-bytes-requires
records_length-bytes-requires c = steps-stand (plan-held _ c.in-Ok.ensures)

pub put_order-requires : goal.put_order-requires
put_order-requires c = let w = bounded _ (plan-held _ c.in-Ok.ensures) in
    (w.fits.axes, few-numbers (carries_order (edition c.args.file.now)) c.order_length-numbers.ensures w.devices_few, c.if-order-numbers.false)

pub put_records-requires : goal.put_records-requires
put_records-requires c = steps-stand (plan-held _ c.in-Ok.ensures)

pub opened-requires : goal.opened-requires
opened-requires c = c.in-Ok.ensures.counted

pub returns-then-order-numbers : goal.returns-then-order-numbers
returns-then-order-numbers c = let a = c.args in
    let bytes : Bytes a.file.now = λ i. (c.type_inv.file i).fits in
    let h = plan-held _ c.in-Ok.ensures in
    let short : read_of a.file.now a.order.now a.steps.now ≡ refuse 33 0 =
    elim c.then-order-numbers.branch [
      | then-order-numbers-via-then-order-numbers w ↦ order-short h bytes a.order.now a.steps.now c.order_length-numbers.ensures c.records_length-bytes.ensures w.if-order-numbers.true
      | then-order-numbers-via-else-order-numbers+then-steps-bytes w ↦
          steps-short h bytes a.order.now a.steps.now c.order_length-numbers.ensures c.records_length-bytes.ensures w.if-order-numbers.false w.if-steps-bytes.true
    ] in
    refused-promise bytes short (c.refused-then-order-numbers.ensures ∙ ap (λ (x : Refusal). opened_of (refused_with x)) c.outside.ensures)

pub returns : goal.returns
returns c = let a = c.args in
    let h = plan-held _ c.in-Ok.ensures in
    written-promise h (λ i. (c.type_inv.file i).fits) a.order.now a.steps.now c.order_length-numbers.ensures
    c.records_length-bytes.ensures c.if-order-numbers.false c.if-steps-bytes.false c.opened.ensures c.put_order.ensures c.put_records.ensures
