-- Records that are written are those of the plan that their file is read as (`reads_back`). Assumes nothing.
use Prim.Native.Nat.{ℕ}
use mathlib.Core.Path.{◌≡◌, sym, ap, ◌∙◌}
use mathlib.Core.List.{List, [], ◌∷◌, map}
use lib.ListN.{length}
use lib.Dec.{T, leb, leb→le}
use Rattle.rules.specs.Lists.{pick}
use Rattle.rules.specs.Mesh.{devices, plain_order}
use Rattle.rules.specs.Limits.{most_devices, most_steps, most_bytes, every_kind}
use Rattle.rules.specs.Refusals.{accept}
use Rattle.rules.specs.PlanFile.{axes_allowed, rank_allowed, judge_sizes, order_allowed, same, some, outermost_at, Plan}
use Rattle.laws.proofs.Judging.{accept-inj, need-inv, need-true, then-inv, bind_inv}
use Rattle.records.specs.Records.{known, Records, records_of, outermost, steps_bytes, file_length}
use Rattle.records.specs.Writing.{judge_order, order_of, judge_opening, step_numbered, judge_records, write_of}
use Rattle.records.specs.RoundTrip.{Proper, Fits, ReadsBack}
use Rattle.records.proofs.Places.{from_all}
use Rattle.records.proofs.Numbers.{numbered-on}
use Rattle.records.proofs.Given.{all-given}
use Rattle.records.proofs.Written.{length-file, file_judged}
use Rattle.records.proofs.Again.{plain-given, allowed-given}

-- an order that passes 19 is of every device, and is given again
pub order-passed : (n : ℕ) (order : List ℕ) → judge_order n order ≡ accept tt
    → (T (some order) → length order ≡ n) × (pick (same (order_of n order) (plain_order n)) [] (order_of n order) ≡ order)
unfolding judge_order
order-passed n [] e = ((λ t. absurd t), plain-given n)
order-passed n (a ∷ order) e =
    let g = allowed-given n (a ∷ order) (need-true 0 (order_allowed n (a ∷ order)) 19 e) in
    ((λ t. g.1), g.0)

module _ (r : Records) (proper : Proper r) where
  opening-passed : judge_opening r ≡ accept tt → judge_order (devices r.mesh) r.order ≡ accept tt
  unfolding judge_opening
  opening-passed e =
      let a = need-inv 0 (axes_allowed (length r.mesh)) 5 _ tt e in
      let b = need-inv 0 (rank_allowed (length r.sizes)) 5 _ tt a.1 in
      let c = need-inv 0 (leb (outermost r.steps) most_steps) 5 _ tt b.1 in
      let m = then-inv (judge_sizes most_devices 10 11 1 r.mesh) _ tt c.1 in
      let o = then-inv (judge_order (devices r.mesh) r.order) _ tt m.1 in
      o.0.1

  records-same : (p : Plan) → judge_records r ≡ accept p → (T (some r.order) → length r.order ≡ devices r.mesh) × (records_of p ≡ r)
  unfolding judge_records
  records-same p e =
      let w = then-inv (judge_opening r) _ p e in
      let ts = bind_inv (step_numbered (outermost_at every_kind r.mesh r.sizes (steps_bytes r.steps) 0 (outermost r.steps) 1 0 r.start)) _ p w.1 in
      let o = order-passed (devices r.mesh) r.order (opening-passed w.0.1) in
      let g : r.steps ≡ map known ts.0.records =
      (all-given r.mesh r.sizes (steps_bytes r.steps) every_kind 0 1 0 r.start r.steps ts.0 proper.steps_ranked (from_all (steps_bytes r.steps)) (numbered-on _ ts.1)).0 in (
        o.0,
        ap records_of (sym (accept-inj ts.2))
            ∙ (λ i. record { mesh = r.mesh; order = o.1 i; sizes = r.sizes; start = r.start; steps = sym g i }),
      )

-- WHAT IS WRITTEN READS BACK AS THE SAME RECORDS
pub reads_back : ReadsBack
unfolding write_of
reads_back r proper out n e =
    let p = then-inv (judge_records r) _ n e in
    let s = need-inv 0 (leb (file_length r) most_bytes) 2 _ n p.1 in
    let b = need-inv 0 (leb (file_length r) (length out)) 35 _ n s.1 in
    let q = records-same r proper p.0.0 p.0.1 in
    let fits : Fits r = record { proper = proper; short = leb→le (file_length r) most_bytes s.0; order_all = q.0 } in
    (p.0.0, file_judged r fits ∙ p.0.1, q.1, length-file r ∙ accept-inj b.1)
