-- Laws of the boundary: the library's answers in numbers (`check-told`, `place-told`, `read_told`, `plan-told`). Assumes nothing.
use Rattle.std.specs.Prelude.{Result, Ok, Err}
use Prim.Native.Nat.{ℕ, ◌+◌, ◌*◌, ◌≤◌}
use mathlib.Core.Path.{◌≡◌, refl, sym, ap, subst, ◌∙◌}
use mathlib.Core.List.{List, [], ◌∷◌, map}
use mathlib.Core.Bool.{Bool, true, false}
use native.Mathlib.Omega.{arith}
use lib.Dec.{leb}
use lib.ListN.{length}
use Rattle.rules.specs.Limits.{most_axes, most_dims}
use Rattle.rules.specs.Sharding.{Sharding}
use Rattle.rules.specs.Collectives.{Step}
use Rattle.rules.specs.Refusals.{Judged, accept, refuse, ◌>>=◌, ◌>>◌, need}
use Rattle.types.specs.Answers.{number_of, reason_of, refused_with, checked_of, placed_of}
use Rattle.rules.specs.PlanFile.{Plan, plain, judge}
use Rattle.types.specs.Types.{four_places}
use Rattle.rules.specs.Calls.{CheckAnswer, check_of, PlaceAnswer, place_of}
use Rattle.types.specs.Promises.{CheckPromise, PlacePromise}
use Rattle.types.specs.declared.Totals.{Totals}
use Rattle.types.specs.declared.Checked.{Checked}
use Rattle.types.specs.declared.Placed.{Placed}
use Rattle.types.specs.declared.Refusal.{Refusal}
use Rattle.types.specs.declared.Sharding as code
use Rattle.laws.proofs.Judging.{never, accept-inj, then-inv}
use Rattle.laws.proofs.Accepted.{AcceptedPlan, accepted}
use Rattle.types.proofs.Answers.{InPlaces, check-in-places, check-listed, place-in-places, place-listed}
use Rattle.records.specs.Forms.{sharding_given, record_bytes, six_places}
use Rattle.records.specs.RoundTrip.{ShortSharding, AllShort}
use Rattle.records.specs.Planning.{plan_steps, plan_of}
use Rattle.records.specs.PlanAnswer.{steps_from, steps_planned, planned_of}
use Rattle.records.specs.Reading.{ReadAnswer, order_read, read_answer, read_of, opened_of}
use Rattle.records.specs.Promises.{ReadPromise, PlanPromise}
use Rattle.records.specs.declared.ReadCounts.{ReadCounts}
use Rattle.records.specs.declared.Opened.{Opened}
use Rattle.records.specs.declared.Planned.{Planned}
use Rattle.records.proofs.Reread.{sharding-short}
use Rattle.records.proofs.Reading.{read-inv}
use Rattle.records.proofs.Accepting.{plan-few}
use Rattle.records.proofs.Arrives.{plan-short}
use Rattle.placements.specs.PlaceAll.{place_all_of, placed_before, place_beside, placed_all_with, PlaceAllPromise}
use Rattle.placements.specs.declared.PlacedAll.{PlacedAll}
use Rattle.placements.proofs.Promises.{all_listed}
use Rattle.marshal.specs.Structs.{blank_step}
use Rattle.marshal.proofs.Structs.{sharding-of, step-numbers}
use Rattle.capi.specs.Boundary.{check_reply, place_reply, checked_reply, placed_reply, opened_reply, planned_reply, read_reply, made_reply, placed_all_reply, all_reply}

-- each list of an answer has a place for its axes
in-places : {rank : ℕ} (s : Sharding) → InPlaces rank s → ShortSharding s
in-places s f = record { dims = f.lists-few; unreduced = f.unreduced_few; replicated = f.replicated_few }

-- the rank of an answer, 0 beside a refusal
abbrev pub checked_rank : Result Totals Refusal → ℕ
checked_rank (Ok t) = t.rank
checked_rank (Err r) = 0

abbrev pub placed_rank : Result ℕ Refusal → ℕ
placed_rank (Ok rank) = rank
placed_rank (Err r) = 0

module _ (file : List ℕ) where
  checked : (j : Judged CheckAnswer) → check_of file ≡ j
      → (checked_reply (checked_of j).outcome (checked_of j) ≡ check_reply j) × (checked_rank (checked_of j).outcome ≤ most_dims)
  checked (accept a) e =
      let f = check-in-places file a e in (
        (λ i. record {
          refusal = 0;
          room = a.room;
          devices = a.devices;
          steps = a.steps;
          rank = a.rank;
          shard = four_places 0 a.shard;
          sharding = sharding-of a.sharding (in-places a.sharding f) i;
          moved = a.moved;
        }),
        f.rank_few,
      )
  checked (refuse n k) e = (ap (λ (m : ℕ). check_reply (refuse m k)) (check-listed file n k e), omega arith)

  module _ {r : Checked} {o : Result Totals Refusal} (p : CheckPromise file r) (e : r.outcome ≡ o) where
    pub check-told : checked_reply o r ≡ check_reply (check_of file)
    check-told =
        ap (λ (x : Result Totals Refusal). checked_reply x r) (sym e) ∙ ap (λ (c : Checked). checked_reply c.outcome c) p ∙ (checked (check_of file) refl).0

    pub check-rank : checked_rank o ≤ most_dims
    check-rank = subst (λ (x : Result Totals Refusal). checked_rank x ≤ most_dims) (ap (λ (c : Checked). c.outcome) (sym p) ∙ e) (checked (check_of file) refl).1

module _ (file : List ℕ) (state device : ℕ) where
  placed : (j : Judged PlaceAnswer) → place_of file state device ≡ j
      → (placed_reply (placed_of j).outcome (placed_of j) ≡ place_reply j) × (placed_rank (placed_of j).outcome ≤ most_dims)
  placed (accept a) e =
      let f = place-in-places file state device a e in (
        (λ i. record {
          refusal = 0;
          rank = a.rank;
          shard = four_places 0 a.shard;
          first = four_places 0 a.first;
          sharding = sharding-of a.sharding (in-places a.sharding f) i;
        }),
        f.rank_few,
      )
  placed (refuse n k) e = (ap (λ (m : ℕ). place_reply (refuse m k)) (place-listed file state device n k e), omega arith)

  module _ {r : Placed} {o : Result ℕ Refusal} (p : PlacePromise file state device r) (e : r.outcome ≡ o) where
    pub place-told : placed_reply o r ≡ place_reply (place_of file state device)
    place-told =
        ap (λ (x : Result ℕ Refusal). placed_reply x r) (sym e) ∙ ap (λ (c : Placed). placed_reply c.outcome c) p ∙ (placed (place_of file state device) refl).0

    pub place-rank : placed_rank o ≤ most_dims
    place-rank = subst (λ (x : Result ℕ Refusal). placed_rank x ≤ most_dims) (ap (λ (c : Placed). c.outcome) (sym p) ∙ e) (placed (place_of file state device) refl).1

-- ---- a list of devices

module _ (file : List ℕ) (state : ℕ) (devices out : List ℕ) where
  all_placed : (j : Judged (List ℕ)) → place_all_of file state devices out ≡ j → (place : ℕ)
      → all_reply (placed_all_with j (place_beside j place)) ≡ placed_all_reply j place
  all_placed (accept l) e place = refl
  all_placed (refuse n k) e place = λ i. record { refusal = all_listed file state devices out n k e i + 256 * k; place = place_beside (refuse n k) place }

  pub place-all-told : {r : PlacedAll} {outAfter : List ℕ} → PlaceAllPromise file state devices out r outAfter
      → all_reply r ≡ placed_all_reply (place_all_of file state devices out) (placed_before file state devices)
  place-all-told p = ap all_reply p.answers ∙ all_placed (place_all_of file state devices out) refl (placed_before file state devices)

-- ---- the reading call

-- the numbers of axes and dimensions beside an answer
abbrev pub Counted : Result ReadCounts Refusal → Type 0
Counted (Ok c) = (c.n ≤ most_axes) × (c.rank ≤ most_dims)
Counted (Err x) = Unit {0}

module _ (file order steps : List ℕ) where
  abbrev opens : Judged ReadAnswer
  opens = read_of file order steps

  -- each number is a reason's: the check's, or 33
  read-listed : (n k : ℕ) → opens ≡ refuse n k → number_of (reason_of n) ≡ n
  unfolding read_of check_of reason_of
  read-listed n k e = go (judge file) refl e
    where
      after : Plan → Judged ReadAnswer
      after p =
          ◌>>◌ (need (leb (length (order_read p)) (length order)) 33)
          (◌>>◌ (need (leb (record_bytes * length p.records) (length steps)) 33) (accept (read_answer p)))

      first : {A : Type 0} {a b c d : ℕ} → ◌≡◌ {A = Judged A} (refuse a b) (refuse c d) → a ≡ c
      first q = cc

      short : (b c : Bool) (a : ReadAnswer) → ◌>>◌ (need b 33) (◌>>◌ (need c 33) (accept a)) ≡ refuse n k → 33 ≡ n
      short true true a q = absurd (never (sym q))
      short true false a q = first q
      short false c a q = first q

      go : (j : Judged Plan) → judge file ≡ j → ◌>>=◌ j after ≡ refuse n k → number_of (reason_of n) ≡ n
      go (accept p) q r =
          subst (λ (x : ℕ). number_of (reason_of x) ≡ x)
          (short (leb (length (order_read p)) (length order)) (leb (record_bytes * length p.records) (length steps)) (read_answer p) r) refl
      go (refuse a b) q r = subst (λ (x : ℕ). number_of (reason_of x) ≡ x) (first r) (check-listed file a b (rw q refl))

  -- an answer is within the places
  opened : (j : Judged ReadAnswer) → opens ≡ j → (read_reply (opened_of j).outcome (opened_of j) ≡ opened_reply j) × Counted (opened_of j).outcome
  opened (accept a) e =
      let p = read-inv file order steps a e in
      let w : AcceptedPlan p.0 = accepted file p.0 p.1 in
      subst (λ (x : ReadAnswer). (read_reply (opened_of (accept x)).outcome (opened_of (accept x)) ≡ opened_reply (accept x)) × Counted (opened_of (accept x)).outcome) p.2 (
        (let s = sharding-of p.0.start (sharding-short p.0.mesh p.0.sizes p.0.start w.within.axes_few w.start_is) in
            (λ i. record {
              refusal = 0;
              n = length p.0.mesh;
              rank = length p.0.sizes;
              mesh = six_places p.0.mesh;
              table = four_places 0 p.0.sizes;
              start = s i;
              order = length (order_read p.0);
              steps_bytes = record_bytes * length p.0.records;
            })),
        (w.within.axes_few, w.within.rank_few),
      )
  opened (refuse n k) e = (ap (λ (m : ℕ). opened_reply (refuse m k)) (read-listed n k e), tt)

  module _ {r : Opened} {order' steps' : List ℕ} (p : ReadPromise file order steps r order' steps') {o : Result ReadCounts Refusal} (e : r.outcome ≡ o) where
    pub read_told : read_reply o r ≡ opened_reply opens
    read_told = ap (λ (x : Result ReadCounts Refusal). read_reply x r) (sym e) ∙ ap (λ (c : Opened). read_reply c.outcome c) p.answers ∙ (opened opens refl).0

    pub read-counts : Counted o
    read-counts = subst Counted (ap (λ (c : Opened). c.outcome) (sym p.answers) ∙ e) (opened opens refl).1

-- ---- the planner

-- at most three steps, one by one
three-steps : (ts : List Step) → length ts ≤ 3 → AllShort (map plain ts) → made_reply (steps_from ts) ≡ planned_reply (accept ts)
unfolding steps_from
three-steps [] few h = refl
three-steps (a ∷ []) few h = λ i. record { refusal = 0; count = 1; steps = step-numbers a h.0 i ∷ blank_step ∷ blank_step ∷ [] }
three-steps (a ∷ b ∷ []) few h = λ i. record { refusal = 0; count = 2; steps = step-numbers a h.0 i ∷ step-numbers b h.1.0 i ∷ blank_step ∷ [] }
three-steps (a ∷ b ∷ c ∷ []) few h =
    λ i. record { refusal = 0; count = 3; steps = step-numbers a h.0 i ∷ step-numbers b h.1.0 i ∷ step-numbers c h.1.1.0 i ∷ [] }
three-steps (a ∷ b ∷ c ∷ d ∷ l) few h = absurd (omega arith)

made-refused : {x : Refusal} → ◌≡◌ {A = Result (Unit {0}) Refusal} (Ok tt) (Err x) → ⊥
made-refused e = absurd cc

module _ (mesh order sizes : List ℕ) (start goal : code.Sharding) where
  abbrev answer : Judged (List Step)
  answer = steps_planned mesh order sizes start goal

  -- a plan that is made
  made : (ts : List Step) → answer ≡ accept ts → made_reply (steps_from ts) ≡ planned_reply (accept ts)
  made ts e =
      let s = sharding_given (length sizes) start in
      let g = sharding_given (length sizes) goal in
      let j = then-inv (plan_of mesh order sizes s g) _ ts e in
      subst (λ (l : List Step). made_reply (steps_from l) ≡ planned_reply (accept l)) (accept-inj j.1)
      (three-steps (plan_steps s g) (plan-few s g) (plan-short mesh order sizes s g j.0.0 j.0.1))

  module _ {r : Planned} (p : PlanPromise mesh order sizes start goal r) where
    pub plan-refused : {x : Refusal} → r.outcome ≡ Err x → planned_reply (refused_with x) ≡ planned_reply answer
    plan-refused {x} e = ap planned_reply (sym (p.refused x e))

    pub plan-told : r.outcome ≡ Ok tt → made_reply r.plan ≡ planned_reply answer
    plan-told e = go answer refl
      where
        go : (j : Judged (List Step)) → answer ≡ j → made_reply r.plan ≡ planned_reply j
        go (accept ts) q = ap (λ (z : Planned). made_reply z.plan) (p.answers ∙ ap planned_of q) ∙ made ts q
        go (refuse n k) q = absurd (made-refused (sym e ∙ ap (λ (z : Planned). z.outcome) (p.answers ∙ ap planned_of q)))
