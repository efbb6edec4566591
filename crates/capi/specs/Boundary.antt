-- What the calls for C answer: the numbers that stand for an answer of the library (rules/specs/Calls.antt, records/specs), every field of them.
-- marshal/specs/Structs.antt has those of a sharding and of a step. Assumes nothing.
use Rattle.std.specs.Prelude.{ℕ, ◌+◌, ◌*◌, List, map, length, get_or, replicate, Result, Ok, Err}
use Rattle.rules.specs.Lists.{tab}
use Rattle.rules.specs.Limits.{most_axes, most_dims}
use Rattle.rules.specs.Collectives as rules
use Rattle.rules.specs.PlanFile.{plain}
use Rattle.rules.specs.Refusals.{Judged, accept, refuse}
use Rattle.types.specs.Answers.{refused_with, judged}
use Rattle.types.specs.Types.{four_places, sharding_of}
use Rattle.rules.specs.Calls.{CheckAnswer, PlaceAnswer, Ran}
use Rattle.types.specs.declared.Checked.{Checked}
use Rattle.types.specs.declared.Refusal.{Refusal}
use Rattle.types.specs.declared.Totals.{Totals}
use Rattle.types.specs.declared.Placed.{Placed}
use Rattle.records.specs.Forms.{six_places}
use Rattle.records.specs.Reading.{ReadAnswer}
use Rattle.records.specs.PlanAnswer.{step_count}
use Rattle.records.specs.declared.Opened.{Opened}
use Rattle.records.specs.declared.ReadCounts.{ReadCounts}
use Rattle.records.specs.declared.Steps.{Steps}
use Rattle.placements.specs.PlaceAll.{place_beside}
use Rattle.placements.specs.declared.PlacedAll.{PlacedAll}
use Rattle.marshal.specs.Structs.{sharding_reply, blank_sharding, step_reply, blank_step, step_in_place}
use Rattle.capi.specs.declared.CheckReply.{CheckReply}
use Rattle.capi.specs.declared.RunReply.{RunReply}
use Rattle.capi.specs.declared.PlaceReply.{PlaceReply}
use Rattle.capi.specs.declared.PlaceAllReply.{PlaceAllReply}
use Rattle.capi.specs.declared.WriteReply.{WriteReply}
use Rattle.capi.specs.declared.ReadReply.{ReadReply}
use Rattle.capi.specs.declared.PlanReply.{PlanReply}

-- the refusal as one number: 0 for none, else the refusal number and 256 times the step
abbrev pub refusal_code : {A : Type 0} → Judged A → ℕ
refusal_code (accept a) = 0
refusal_code (refuse n k) = n + 256 * k

-- the check's answer; every field but the refusal is 0 where there is one
abbrev pub check_reply : Judged CheckAnswer → CheckReply
check_reply (accept a) = record {
  refusal = 0;
  room = a.room;
  devices = a.devices;
  steps = a.steps;
  rank = a.rank;
  shard = four_places 0 a.shard;
  sharding = sharding_reply a.sharding;
  moved = a.moved;
}
check_reply (refuse n k) = record {
  refusal = n + 256 * k;
  room = 0;
  devices = 0;
  steps = 0;
  rank = 0;
  shard = replicate most_dims 0;
  sharding = blank_sharding;
  moved = 0;
}

-- the run's answer: the words moved are 0 beside a refusal, as the definition has them
abbrev pub ran_reply : Ran → RunReply
ran_reply r = record { refusal = refusal_code r.outcome; moved = r.moved }

-- the placement's answer, in the same way
abbrev pub place_reply : Judged PlaceAnswer → PlaceReply
place_reply (accept a) = record {
  refusal = 0;
  rank = a.rank;
  shard = four_places 0 a.shard;
  first = four_places 0 a.first;
  sharding = sharding_reply a.sharding;
}
place_reply (refuse n k) = record {
  refusal = n + 256 * k;
  rank = 0;
  shard = replicate most_dims 0;
  first = replicate most_dims 0;
  sharding = blank_sharding;
}

-- the answer of the placement of a list of devices: the place beside 32
abbrev pub placed_all_reply : Judged (List ℕ) → (place : ℕ) → PlaceAllReply
placed_all_reply j place = record { refusal = refusal_code j; place = place_beside j place }

-- the writer's answer: the bytes of the file
abbrev pub written_reply : Judged ℕ → WriteReply
written_reply (accept n) = record { refusal = 0; bytes = n }
written_reply (refuse n k) = record { refusal = n + 256 * k; bytes = 0 }

-- the reading call's; mesh and table sizes past the last are 0
abbrev pub opened_reply : Judged ReadAnswer → ReadReply
opened_reply (accept a) = record {
  refusal = 0;
  n = length a.mesh;
  rank = length a.sizes;
  mesh = six_places a.mesh;
  table = four_places 0 a.sizes;
  start = sharding_reply a.start;
  order = a.order;
  steps_bytes = a.steps;
}
opened_reply (refuse n k) = record {
  refusal = n + 256 * k;
  n = 0;
  rank = 0;
  mesh = replicate most_axes 0;
  table = replicate most_dims 0;
  start = blank_sharding;
  order = 0;
  steps_bytes = 0;
}

-- the planner's: at most three steps as records, no step in the places past the last
abbrev pub planned_reply : Judged (List rules.Step) → PlanReply
planned_reply (accept ts) = record { refusal = 0; count = length ts; steps = tab 3 (λ i. get_or (map (λ (t : rules.Step). step_reply (plain t)) ts) i blank_step) }
planned_reply (refuse n k) = record { refusal = n + 256 * k; count = 0; steps = replicate 3 blank_step }

-- ---- the same numbers, from the library's own answers

abbrev pub checked_reply : Result Totals Refusal → Checked → CheckReply
checked_reply (Ok t) c = record {
  refusal = 0;
  room = t.room;
  devices = t.devices;
  steps = t.steps;
  rank = t.rank;
  shard = c.shard;
  sharding = sharding_reply (sharding_of most_dims c.sharding);
  moved = t.moved;
}
checked_reply (Err r) c = check_reply (refused_with r)

abbrev pub placed_reply : Result ℕ Refusal → Placed → PlaceReply
placed_reply (Ok rank) c = record {
  refusal = 0;
  rank = rank;
  shard = c.shard;
  first = c.first;
  sharding = sharding_reply (sharding_of most_dims c.sharding);
}
placed_reply (Err r) c = place_reply (refused_with r)

abbrev pub made_reply : Steps → PlanReply
made_reply p = record { refusal = 0; count = step_count p; steps = map step_in_place p.0 }

abbrev pub all_reply : PlacedAll → PlaceAllReply
all_reply r = record { refusal = refusal_code (judged r.outcome); place = r.place }

abbrev pub read_reply : Result ReadCounts Refusal → Opened → ReadReply
read_reply (Ok c) r = record {
  refusal = 0;
  n = c.n;
  rank = c.rank;
  mesh = r.mesh;
  table = r.table;
  start = sharding_reply (sharding_of most_dims r.start);
  order = c.order;
  steps_bytes = c.steps;
}
read_reply (Err x) r = opened_reply (refused_with x)
