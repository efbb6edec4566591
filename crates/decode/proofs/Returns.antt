-- What the reading call knows of an accepted file: its records stand up to its end (`steps-stand`), its order is what is read behind the mesh sizes
-- (`order-read`). And the promise at each return (`refused-promise`, `written-promise`). Assumes nothing.
use Prim.Native.Nat.{ℕ, ◌+◌, ◌*◌, ◌≤◌, ◌<◌}
use mathlib.Core.Path.{◌≡◌, refl, sym, ap, ◌∙◌, transport}
use mathlib.Core.Bool.{Bool, true, false}
use mathlib.Core.List.{List, ◌++◌, map, append-nil}
use native.Mathlib.Omega.{arith}
use lib.ListN.{length, drop}
use lib.Seq.{drop-length, sets-eq}
use Rattle.rules.specs.Lists.{tab, pick}
use Rattle.rules.specs.Limits.{most_depth, every_kind}
use Rattle.rules.specs.Refusals.{accept, refuse}
use Rattle.rules.specs.PlanFile.{u16_at, edition, carries_order, Record, item_at, Outermost, Plan, judge}
use Rattle.laws.proofs.Lists.{length-tab}
use Rattle.laws.proofs.Repeats.{read_by, outermost-steps}
use Rattle.laws.proofs.Accepted.{AcceptedPlan, accepted}
use Rattle.reader.specs.Reading.{order_of}
use Rattle.plan.specs.Parts.{HoldsPlan}
use Rattle.plan.specs.declared.Whole.{Whole}
use Rattle.records.specs.Records.{known, steps_bytes}
use Rattle.records.specs.RoundTrip.{Bytes, AllRanked, AllShort}
use Rattle.records.specs.Forms.{record_bytes, records_bytes}
use Rattle.records.specs.Reading.{ReadAnswer, order_read, read_answer, read_of, opened_of}
use Rattle.records.specs.Promises.{ReadPromise}
use Rattle.records.specs.declared.Opened.{Opened}
use Rattle.records.proofs.Spelled.{Spells, steps-spell, item-spells}
use Rattle.records.proofs.Again.{pass-ranked}
use Rattle.records.proofs.Reread.{records-length, records-short}
use Rattle.records.proofs.Reading.{order-carried, order-none, read-passed, short-order, short_steps, left-order, left-steps, left-all, read-promise}
use Rattle.encode.specs.Putting.{Put}
use Rattle.decode.specs.Decoding.{records_in, records_read, StepsStand, answer_of}

pub few-numbers : (b : Bool) {n devices most : ℕ} → n ≡ pick b devices 0 → devices ≤ most → n ≤ most
few-numbers true e h = omega (arith, e, h)
few-numbers false e h = omega (arith, e)

module _ {file : List ℕ} {w : Whole} (h : (p : Plan) × (judge file ≡ accept p) × HoldsPlan file w p) where
  abbrev p : Plan
  p = h.0

  abbrev e : judge file ≡ accept p
  e = h.1

  abbrev g : HoldsPlan file w p
  g = h.2

  pub records-are : records_in file ≡ p.records
  unfolding records_in
  records-are = ap records_read e

  -- ---- the records

  spelled : drop w.at file ≡ steps_bytes (map known p.records)
  spelled =
      let o : Outermost = record { records = p.records; steps = p.steps; runs = p.runs; next = length file } in
      let s : Spells file w.at (length file) (steps_bytes (map known p.records)) =
      steps-spell p.mesh p.sizes file (item_at every_kind p.mesh p.sizes file most_depth) (item-spells p.mesh p.sizes file every_kind most_depth) w.steps 1 w.at
      p.start (read_by p.mesh p.sizes file p.start o) g.inside
      (outermost-steps p.mesh p.sizes file every_kind 0 w.steps 1 w.at p.start o g.begins) in
      s.is ∙ ap (λ (l : List ℕ). steps_bytes (map known p.records) ++ l) (drop-length file) ∙ append-nil (steps_bytes (map known p.records))

  pub steps-stand : StepsStand file w.at w.table.rank
  steps-stand =
      let a : AcceptedPlan p = accepted file p e in
      let ranked : AllRanked (length p.sizes) (map known p.records) =
      pass-ranked p.mesh p.sizes a.within.sizes_pos p.start p.records a.start_is a.pass_fine in
      record {
        is = spelled ∙ ap (λ (l : List Record). steps_bytes (map known l)) (sym records-are);
        inside = g.inside;
        ranked = transport (λ i. AllRanked (g.rank_is i) (map known (sym records-are i))) ranked;
        short = transport (λ i. AllShort (sym records-are i)) (records-short file p e);
        few = omega (arith, a.within.rank_few, g.rank_is);
        limited = g.short;
      }

  -- ---- the order

  abbrev number : ℕ → ℕ
  number i = u16_at file (18 + 2 * w.mesh.n + 2 * i)

  order-read : Bytes file → order_read p ≡ tab (pick (carries_order (edition file)) w.devices 0) number
  order-read bytes = go (carries_order (edition file)) refl
    where
      go : (b : Bool) → carries_order (edition file) ≡ b → order_read p ≡ tab (pick b w.devices 0) number
      go true c = order-carried file p e bytes c ∙ g.order_is ∙ ap (λ (b : Bool). order_of b w.devices file (18 + 2 * w.mesh.n)) c
      go false c = order-none file p e bytes c

  -- ---- the returns

  module _ (bytes : Bytes file) (order steps : List ℕ) {numbers size : ℕ}
      (n_is : numbers ≡ pick (carries_order (edition file)) w.devices 0) (s-is : size ≡ length (records_bytes (records_in file))) where
    numbers-are : numbers ≡ length (order_read p)
    numbers-are = n_is ∙ sym (ap length (order-read bytes) ∙ length-tab _ number)

    size_is : size ≡ record_bytes * length p.records
    size_is = s-is ∙ ap (λ (l : List Record). length (records_bytes l)) records-are ∙ records-length p.records

    pub order-short : length order < numbers → read_of file order steps ≡ refuse 33 0
    order-short l = short-order file order steps p e (omega (arith, l, numbers-are))

    pub steps-short : numbers ≤ length order → length steps < size → read_of file order steps ≡ refuse 33 0
    steps-short k l = short_steps file order steps p e (omega (arith, k, numbers-are)) (omega (arith, l, size_is))

    pub written-promise : {r : Opened} {orderAfter stepsAfter : List ℕ} {q : ℕ} → numbers ≤ length order → size ≤ length steps
        → r ≡ opened_of (accept (answer_of w numbers size)) → orderAfter ≡ tab numbers number ++ drop numbers order
        → Put steps stepsAfter 0 q (records_bytes (records_in file)) → ReadPromise file order steps r orderAfter stepsAfter
    written-promise k l answers o s =
        let passed : read_of file order steps ≡ accept (read_answer p) =
        read-passed file order steps p e (omega (arith, k, numbers-are)) (omega (arith, l, size_is)) in
        let same : answer_of w numbers size ≡ read_answer p =
        (λ i. record { mesh = sym g.mesh_is i; sizes = sym g.sizes_are i; start = sym g.start_is i; order = numbers-are i; steps = size_is i }) in
        let front : tab numbers number ≡ order_read p = ap (λ (m : ℕ). tab m number) n_is ∙ sym (order-read bytes) in
        let B : List ℕ = records_bytes (records_in file) in
        let fits : 0 + length B ≤ length steps = omega (arith, l, s-is) in
        let B-is : B ≡ records_bytes p.records = ap records_bytes records-are in
        let length-is : 0 + length B ≡ record_bytes * length p.records = omega (arith, s-is, size_is) in
        read-promise file order steps bytes (answers ∙ ap (λ (a : ReadAnswer). opened_of (accept a)) same ∙ ap opened_of (sym passed))
        (o ∙ (λ i. front i ++ drop (numbers-are i) order) ∙ sym (left-order file order steps p e passed))
        (s.is ∙ sets-eq B steps 0 fits ∙ (λ i. B-is i ++ drop (length-is i) steps) ∙ sym (left-steps file order steps p e passed))

pub refused-promise : {file order steps : List ℕ} {r : Opened} {n k : ℕ} → Bytes file → read_of file order steps ≡ refuse n k → r ≡ opened_of (refuse n k)
    → ReadPromise file order steps r order steps
refused-promise {file} {order} {steps} bytes e answers =
    let left = left-all file order steps e in
    read-promise file order steps bytes (answers ∙ ap opened_of (sym e)) (sym left.0) (sym left.1)
