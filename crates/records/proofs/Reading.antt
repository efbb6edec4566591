-- Laws of the reading call's definitions: what is read as the order (`order-carried`, `order-none`), each answer of the call, and WHAT ITS EQUATIONS PROMISE
-- (`read-promise`). Assumes nothing.
use Prim.Native.Nat.{ℕ, ◌*◌, ◌≤◌, ◌<◌}
use mathlib.Core.Path.{◌≡◌, refl, sym, ap, ◌∙◌, subst}
use mathlib.Core.Bool.{Bool, true, false}
use mathlib.Core.List.{List, [], ◌∷◌, ◌++◌}
use borrow.Author.Tests.{lt-leb}
use lib.ListN.{length, take, drop}
use lib.Seq.{take_at, drop_at}
use lib.Dec.{T, leb}
use Rattle.rules.specs.Lists.{pick}
use Rattle.rules.specs.Mesh.{devices, plain_order}
use Rattle.rules.specs.Refusals.{accept, refuse}
use Rattle.rules.specs.PlanFile.{edition, carries_order, same, some, Plan, judge}
use Rattle.types.specs.Types.{sharding_from}
use Rattle.laws.proofs.Judging.{accept-inj, need-inv, bind_inv}
use Rattle.records.specs.Records.{records_of, edition_of}
use Rattle.records.specs.Forms.{record_bytes, records_given, records_bytes}
use Rattle.records.specs.RoundTrip.{Bytes}
use Rattle.records.specs.Reading.{ReadAnswer, order_read, read_answer, read_of, read_leaves_order, read_leaves_steps, opened_of}
use Rattle.records.specs.Promises.{ReadAgain, ReadPromise}
use Rattle.records.specs.declared.Opened.{Opened}
use Rattle.records.proofs.Lists.{is_le}
use Rattle.records.proofs.Written.{is-edition}
use Rattle.records.proofs.Reread.{records-length, read_again}
use Rattle.records.proofs.Again.{again-fits, written_again}

-- ---- the order

module _ (file : List ℕ) (p : Plan) (e : judge file ≡ accept p) (bytes : Bytes file) where
  edition_is : edition file ≡ edition_of (records_of p)
  edition_is = ap edition (sym (written_again file bytes p e).0) ∙ is-edition (records_of p) (again-fits file bytes p e)

  carried_some : carries_order (edition file) ≡ some (order_read p)
  carried_some = ap (leb 3) edition_is ∙ third (order_read p) p.start.replicated
    where
      third : (order replicated : List ℕ) → leb 3 (pick (some order) 3 (pick (some replicated) 2 1)) ≡ some order
      third [] [] = refl
      third [] (a ∷ l) = refl
      third (a ∷ o) l = refl

  -- the device numbers that are read are those of the plan where the file carries them, else there are none
  pub order-carried : carries_order (edition file) ≡ true → order_read p ≡ p.order
  order-carried c = go (same p.order (plain_order (devices p.mesh))) (sym carried_some ∙ c)
    where
      go : (b : Bool) → some (pick b [] p.order) ≡ true → pick b [] p.order ≡ p.order
      go true h = absurd (subst T (sym h) tt)
      go false h = refl

  pub order-none : carries_order (edition file) ≡ false → order_read p ≡ []
  order-none c = go (order_read p) (sym carried_some ∙ c)
    where
      go : (l : List ℕ) → some l ≡ false → l ≡ []
      go [] h = refl
      go (a ∷ l) h = absurd (subst T h tt)

-- ---- the call

module _ (file order steps : List ℕ) where
  module _ (p : Plan) (e : judge file ≡ accept p) where
    pub read-passed : length (order_read p) ≤ length order → record_bytes * length p.records ≤ length steps → read_of file order steps ≡ accept (read_answer p)
    unfolding read_of
    read-passed h k = rw (e, is_le (length (order_read p)) (length order) h, is_le (record_bytes * length p.records) (length steps) k) refl

    pub short-order : length order < length (order_read p) → read_of file order steps ≡ refuse 33 0
    unfolding read_of
    short-order h = rw (e, lt-leb (length (order_read p)) (length order) h) refl

    pub short_steps : length (order_read p) ≤ length order → length steps < record_bytes * length p.records → read_of file order steps ≡ refuse 33 0
    unfolding read_of
    short_steps h k = rw (e, is_le (length (order_read p)) (length order) h, lt-leb (record_bytes * length p.records) (length steps) k) refl

    pub left-order : read_of file order steps ≡ accept (read_answer p) → read_leaves_order file order steps ≡ order_read p ++ drop (length (order_read p)) order
    unfolding read_leaves_order
    left-order q = rw (q, e) refl

    pub left-steps : read_of file order steps ≡ accept (read_answer p)
        → read_leaves_steps file order steps ≡ records_bytes p.records ++ drop (record_bytes * length p.records) steps
    unfolding read_leaves_steps
    left-steps q = rw (q, e) refl

  pub read-stopped : {n k : ℕ} → judge file ≡ refuse n k → read_of file order steps ≡ refuse n k
  unfolding read_of
  read-stopped e = rw e refl

  pub left-all : {n k : ℕ} → read_of file order steps ≡ refuse n k → (read_leaves_order file order steps ≡ order) × (read_leaves_steps file order steps ≡ steps)
  unfolding read_leaves_order read_leaves_steps
  left-all q = (rw q refl, rw q refl)

  pub read-inv : (a : ReadAnswer) → read_of file order steps ≡ accept a → (p : Plan) × (judge file ≡ accept p) × (read_answer p ≡ a)
  unfolding read_of
  read-inv a q =
      let p = bind_inv (judge file) _ a q in
      let x = need-inv 0 (leb (length (order_read p.0)) (length order)) 33 _ a p.2 in
      let y = need-inv 0 (leb (record_bytes * length p.0.records) (length steps)) 33 _ a x.1 in
      (p.0, p.1, accept-inj y.1)

  -- WHAT THE DEFINITIONS OF THE READING CALL PROMISE
  pub read-promise : Bytes file → {r : Opened} {orderAfter stepsAfter : List ℕ} → r ≡ opened_of (read_of file order steps)
      → orderAfter ≡ read_leaves_order file order steps → stepsAfter ≡ read_leaves_steps file order steps → ReadPromise file order steps r orderAfter stepsAfter
  read-promise bytes {r} {orderAfter} {stepsAfter} answers o s = record {
    answers = answers;
    leaves_order = o;
    leaves_steps = s;
    refused = λ n k q. (o ∙ (left-all q).0, s ∙ (left-all q).1);
    again = λ a q. (let i = read-inv a q in
        subst (ReadAgain file order steps r orderAfter stepsAfter) i.2 (whole i.0 i.1 (q ∙ ap accept (sym i.2))));
  }
    where
      whole : (p : Plan) → judge file ≡ accept p → read_of file order steps ≡ accept (read_answer p) → ReadAgain file order steps r orderAfter stepsAfter (read_answer p)
      whole p e q =
          let O : List ℕ = order_read p in
          let S : List ℕ = records_bytes p.records in
          let n : ℕ = length O in
          let m : ℕ = record_bytes * length p.records in
          let o' : orderAfter ≡ O ++ drop n order = o ∙ left-order p e q in
          let s' : stepsAfter ≡ S ++ drop m steps = s ∙ left-steps p e q in
          let start : r.start ≡ sharding_from p.start = ap (λ (x : Opened). x.start) (answers ∙ ap opened_of q) in
          let front : take n orderAfter ≡ O = ap (take n) o' ∙ take_at O (drop n order) n refl in
          let records : take m stepsAfter ≡ S = ap (take m) s' ∙ take_at S (drop m steps) m (records-length p.records) in
          record {
            plan = p;
            judged = e;
            written = (written_again file bytes p e).0;
            given = (λ i. records_given p.mesh (front i) p.sizes (start i) (records i)) ∙ read_again file p e;
            order_stays = ap (drop n) o' ∙ drop_at O (drop n order) n refl;
            steps_stay = ap (drop m) s' ∙ drop_at S (drop m steps) m (records-length p.records);
          }
