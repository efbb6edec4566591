use native.Mathlib.Omega.{arith}
use Prim.Native.Nat.{ℕ, ◌+◌, ◌*◌}
use mathlib.Core.Path.{◌≡◌, sym, ap, ◌∙◌, subst, transport}
use lib.ListN.{length}
use Rattle.rules.specs.Lists.{tab}
use Rattle.rules.specs.Mesh.{Rearrangement}
use Rattle.rules.specs.PlanFile.{u16_at}
use Rattle.order.specs.Order.{places_of, ShardsFit}
use Rattle.plan.proofs.Wholes.{bounded}
use Rattle.run.specs.Runs.{RunsOrdered}
use Rattle.run.proofs.Ordered.{as_long, swapped, order_read, rearranged, start_fits, last_fits, start-stands, last-numbered, begins-ordered}
use Rattle.run.proofs.run_by_place.Goals as goal

pub read_order-requires : goal.read_order-requires
read_order-requires c =
    let s = c.requires.0.runs in
    let b = bounded _ (s.plan, s.judged, s.holds) in
    (omega (arith, b.fits.axes), omega (arith, b.devices_few, c.requires.1))

pub invert-requires : goal.invert-requires
invert-requires c =
    let r : c.read_order.new.numbers ≡ order_read c.args.file.now c.args.whole =
    c.read_order.ensures ∙ ap (λ (n : ℕ). tab n (λ i. u16_at c.args.file.now (18 + 2 * c.args.whole.mesh.n + 2 * i))) c.requires.1 in
    subst (λ (n : ℕ). Rearrangement n c.read_order.new.numbers) (sym c.requires.2)
    (subst (Rearrangement c.args.whole.devices) (sym r) (rearranged c.requires.0))

pub place_shards-requires : goal.place_shards-requires
place_shards-requires c =
    let r : c.read_order.new.numbers ≡ order_read c.args.file.now c.args.whole =
    c.read_order.ensures ∙ ap (λ (n : ℕ). tab n (λ i. u16_at c.args.file.now (18 + 2 * c.args.whole.mesh.n + 2 * i))) c.requires.1 in
    transport (λ i. ShardsFit (sym r i) (sym c.words_of-m.ensures i) (length c.args.spare.now) (length c.args.work.now)) (start_fits c.requires.0)

pub number_shards-requires : goal.number_shards-requires
number_shards-requires c =
    let r : c.read_order.new.numbers ≡ order_read c.args.file.now c.args.whole =
    c.read_order.ensures ∙ ap (λ (n : ℕ). tab n (λ i. u16_at c.args.file.now (18 + 2 * c.args.whole.mesh.n + 2 * i))) c.requires.1 in
    let i : c.invert.new.places ≡ places_of (order_read c.args.file.now c.args.whole) = c.invert.ensures ∙ ap places_of r in
    let t = c.run_steps-in_work in
    let works : ℕ = length t.new.work in
    let spares : ℕ = length t.new.spare in
    let h : RunsOrdered c.args.file.now c.args.whole works spares = record {
      runs = as_long c.requires.0.runs t.auto.work (t.auto.spare ∙ c.place_shards.auto.to);
      carried = c.requires.0.carried;
    } in
    let m = sym c.words_of-last.ensures in (
      transport (λ j. ShardsFit (sym i j) (m j) spares works) (last_fits h),
      transport (λ j. ShardsFit (sym i j) (m j) works spares) (last_fits (swapped h)),
    )

pub returns : goal.returns
returns c =
    let r : c.read_order.new.numbers ≡ order_read c.args.file.now c.args.whole =
    c.read_order.ensures ∙ ap (λ (n : ℕ). tab n (λ i. u16_at c.args.file.now (18 + 2 * c.args.whole.mesh.n + 2 * i))) c.requires.1 in
    let i : c.invert.new.places ≡ places_of (order_read c.args.file.now c.args.whole) = c.invert.ensures ∙ ap places_of r in
    begins-ordered _ _ _ _ _ _ c.run_steps-in_work.result
    (start-stands c.requires.0 c.args.work.now _ r c.words_of-m.ensures c.place_shards.ensures)
    c.run_steps-in_work.ensures
    (last-numbered c.requires.0 _ _ i c.words_of-last.ensures c.number_shards.ensures)
