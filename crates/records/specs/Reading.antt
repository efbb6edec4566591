-- Beyond document 02, Ask 2: the way back. The records of an accepted file, which the writer takes again: what the reading call answers, and leaves in the
-- two lists that are lent to it. Assumes nothing.
use Rattle.std.specs.Prelude.{ℕ, ◌*◌, List, [], ◌++◌, length, drop, leb, Ok, Err}
use Rattle.rules.specs.Sharding.{Sharding}
use Rattle.rules.specs.Refusals.{Judged, accept, refuse, ◌>>=◌, ◌>>◌, need}
use Rattle.types.specs.Answers.{refusal_of}
use Rattle.rules.specs.PlanFile.{Plan, judge, judge_by}
use Rattle.types.specs.Types.{four_places, sharding_from, no_lists}
use Rattle.records.specs.Records.{records_of}
use Rattle.records.specs.Forms.{record_bytes, records_bytes, six_places}
use Rattle.records.specs.declared.Opened.{Opened}

-- mesh, table and start; how many device numbers (none of a plan in plain order) and how many bytes of step records are written
pub record ReadAnswer : Type 0 where
  pub mesh : List ℕ
  pub sizes : List ℕ
  pub start : Sharding
  pub order : ℕ
  pub steps : ℕ

abbrev pub order_read : Plan → List ℕ
order_read p = (records_of p).order

abbrev pub read_answer : Plan → ReadAnswer
read_answer p = record {
  mesh = p.mesh;
  sizes = p.sizes;
  start = p.start;
  order = length (order_read p);
  steps = record_bytes * length p.records;
}

-- the check's refusals, then 33 where a lent list is shorter than what it is to hold: the order's, then that of the step records
unfoldable pub read_of : (file order steps : List ℕ) → Judged ReadAnswer
unfolding judge_by
read_of file order steps = do
  p ← judge file
  need (leb (length (order_read p)) (length order)) 33
  need (leb (record_bytes * length p.records) (length steps)) 33
  accept (read_answer p)

-- the numbers and the bytes are written at the front; what stands behind them stays, and on a refusal all does
abbrev pub order_out : Judged ReadAnswer → Judged Plan → (order : List ℕ) → List ℕ
order_out (accept a) (accept p) order = order_read p ++ drop a.order order
order_out (accept a) (refuse n k) order = order
order_out (refuse n k) j order = order

abbrev pub steps_out : Judged ReadAnswer → Judged Plan → (steps : List ℕ) → List ℕ
steps_out (accept a) (accept p) steps = records_bytes p.records ++ drop a.steps steps
steps_out (accept a) (refuse n k) steps = steps
steps_out (refuse n k) j steps = steps

unfoldable pub read_leaves_order : (file order steps : List ℕ) → List ℕ
unfolding read_of
read_leaves_order file order steps = order_out (read_of file order steps) (judge file) order

unfoldable pub read_leaves_steps : (file order steps : List ℕ) → List ℕ
unfolding read_of records_bytes
read_leaves_steps file order steps = steps_out (read_of file order steps) (judge file) steps

-- the answer of the code, every place of it
abbrev pub opened_of : Judged ReadAnswer → Opened
opened_of (accept a) = record {
  outcome = Ok (record { n = length a.mesh; rank = length a.sizes; order = a.order; steps = a.steps });
  mesh = six_places a.mesh;
  table = four_places 0 a.sizes;
  start = sharding_from a.start;
}
opened_of (refuse n k) = record {
  outcome = Err (refusal_of n k);
  mesh = six_places [];
  table = four_places 0 [];
  start = sharding_from no_lists;
}
