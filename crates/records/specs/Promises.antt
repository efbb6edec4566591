-- The promises of the calls on records: what each answers and leaves, on any input, as the `ensures` of its function and of the library's. `mesh`, `order` and
-- `sizes` of the writer and the planner, and the file that is read, are lent with `&`, so no call can change them. Assumes nothing.
use Rattle.std.specs.Prelude.{ℕ, ◌≡◌, List, map, length, take, drop, Result, Err}
use Rattle.rules.specs.Collectives.{Step}
use Rattle.rules.specs.Refusals.{accept, refuse}
use Rattle.types.specs.Answers.{judged, refused_with}
use Rattle.rules.specs.PlanFile.{plain, Plan, judge}
use Rattle.types.specs.declared.Refusal.{Refusal}
use Rattle.types.specs.declared.Sharding as code
use Rattle.records.specs.Records.{known, Records, records_of, file_of}
use Rattle.records.specs.Writing.{write_of, write_leaves}
use Rattle.records.specs.Forms.{sharding_given, records_given, records_bytes}
use Rattle.records.specs.Reading.{ReadAnswer, read_of, read_leaves_order, read_leaves_steps, opened_of}
use Rattle.records.specs.Planning.{plan_of, Reaches}
use Rattle.records.specs.PlanAnswer.{steps_planned, planned_of, step_count}
use Rattle.records.specs.declared.Opened.{Opened}
use Rattle.records.specs.declared.Planned.{Planned}

-- ---- the writer

-- Its answer and what it leaves are the definition's, of the records that its arguments stand for. "Bytes after the file stay." After a refusal "nothing is
-- written". "What is written reads back as the same records"
pub record WritePromise (mesh order sizes : List ℕ) (start : code.Sharding) (steps out : List ℕ) (r : Result ℕ Refusal) (outAfter : List ℕ) : Type 0 where
  pub answers : judged r ≡ write_of (records_given mesh order sizes start steps) out
  pub leaves : outAfter ≡ write_leaves (records_given mesh order sizes start steps) out
  pub stay : (n : ℕ) → judged r ≡ accept n → drop n outAfter ≡ drop n out
  pub refused : (n k : ℕ) → judged r ≡ refuse n k → outAfter ≡ out
  pub reads_back : (n : ℕ) → judged r ≡ accept n
      → (p : Plan) × (judge (take n outAfter) ≡ accept p) × (records_of p ≡ records_given mesh order sizes start steps)

-- ---- the reading call

-- "every accepted file, read and written again, comes out byte for byte": what the call answers and leaves are arguments of the writer that stand for the
-- file's records, and these are written as the file; entries behind them stay
pub record ReadAgain (file order steps : List ℕ) (r : Opened) (orderAfter stepsAfter : List ℕ) (a : ReadAnswer) : Type 0 where
  pub plan : Plan
  pub judged : judge file ≡ accept plan
  pub written : file_of (records_of plan) ≡ file
  pub given : records_given a.mesh (take a.order orderAfter) a.sizes r.start (take a.steps stepsAfter) ≡ records_of plan
  pub order_stays : drop a.order orderAfter ≡ drop a.order order
  pub steps_stay : drop a.steps stepsAfter ≡ drop a.steps steps

-- Its answer and what it leaves are the definition's. After a refusal both lists are as they were.
pub record ReadPromise (file order steps : List ℕ) (r : Opened) (orderAfter stepsAfter : List ℕ) : Type 0 where
  pub answers : r ≡ opened_of (read_of file order steps)
  pub leaves_order : orderAfter ≡ read_leaves_order file order steps
  pub leaves_steps : stepsAfter ≡ read_leaves_steps file order steps
  pub refused : (n k : ℕ) → read_of file order steps ≡ refuse n k → (orderAfter ≡ order) × (stepsAfter ≡ steps)
  pub again : (a : ReadAnswer) → read_of file order steps ≡ accept a → ReadAgain file order steps r orderAfter stepsAfter a

-- ---- the planner

-- Where the definition makes a plan: the steps that are answered are those of its records, all of them and no other; their bytes are what the writer takes
-- ("as the records that the writer takes"); and the check accepts the file that is written of them, which ends at the goal and, run to the end, carries a
-- faithful spread of a table from the start to the goal (`Reaches`)
pub record PlanMade (mesh order sizes : List ℕ) (start goal : code.Sharding) (r : Planned) (rs : Records) : Type 0 where
  pub steps : List Step
  pub answered : r ≡ planned_of (accept steps)
  pub counted : step_count r.plan ≡ length steps
  pub all : rs.steps ≡ map known (map plain steps)
  pub given : records_given mesh order sizes start (records_bytes (map plain steps)) ≡ rs
  pub plan : Plan
  pub reached : Reaches mesh order sizes (sharding_given (length sizes) start) (sharding_given (length sizes) goal) rs plan

-- Its answer is the definition's, in every place, and so is a refusal's number.
pub record PlanPromise (mesh order sizes : List ℕ) (start goal : code.Sharding) (r : Planned) : Type 0 where
  pub answers : r ≡ planned_of (steps_planned mesh order sizes start goal)
  pub refused : (x : Refusal) → r.outcome ≡ Err x → steps_planned mesh order sizes start goal ≡ refused_with x
  pub reaches : (rs : Records) → plan_of mesh order sizes (sharding_given (length sizes) start) (sharding_given (length sizes) goal) ≡ accept rs
      → PlanMade mesh order sizes start goal r rs
