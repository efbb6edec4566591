-- The proofs of what specs/Worked.antt states and of its worked cases. Assumes nothing.
use Rattle.std.specs.Prelude.{◌≡◌, refl, [], ◌∷◌, ◌++◌, replicate}
use Rattle.rules.specs.Calls.{check_of, place_of, groups_of, run_of}
use Rattle.rules.specs.Ledger.{file_in, file_of, w1, w4}
use Rattle.records.specs.Writing.{write_of, write_leaves}
use Rattle.records.specs.Forms.{dims_given, records_given, steps_given}
use Rattle.records.specs.Reading.{read_of, read_leaves_order, read_leaves_steps}
use Rattle.records.specs.Planning.{plan_of, plan_steps}
use Rattle.records.specs.PlanAnswer.{steps_planned}
use Rattle.marshal.specs.Structs.{sharding_in}
use Rattle.capi.specs.Boundary.{refusal_code, check_reply, ran_reply, place_reply, written_reply, opened_reply, planned_reply}
use Rattle.capi.specs.Worked.{zeros, six, six_axes, both, gather, out, from, to}

-- mesh 2x2x2x2x2, table 4x2, sharding [[3, 0], [2]], unreduced [1], replicated [4], no steps
split : check_reply (check_of (file_in 2 (replicate 5 2) [] (4 ∷ 2 ∷ []) ((3 ∷ 0 ∷ []) ∷ (2 ∷ []) ∷ (1 ∷ []) ∷ (4 ∷ []) ∷ []) [])) ≡ record {
  refusal = 0;
  room = 32;
  devices = 32;
  steps = 0;
  rank = 2;
  shard = 1 ∷ 1 ∷ 0 ∷ 0 ∷ [];
  sharding = record { counts = 2 ∷ 1 ∷ 0 ∷ 0 ∷ 1 ∷ 1 ∷ []; axes = (3 ∷ zeros 5) ++ (2 ∷ zeros 17) ++ (1 ∷ zeros 5) ++ (4 ∷ zeros 5) };
  moved = 0;
}
unfolding file_in check_of
split = refl

gathers : check_reply (check_of six) ≡ record {
  refusal = 0;
  room = 768;
  devices = 64;
  steps = 1;
  rank = 2;
  shard = 4 ∷ 3 ∷ 0 ∷ 0 ∷ [];
  sharding = record { counts = 1 ∷ 0 ∷ 0 ∷ 0 ∷ 1 ∷ 3 ∷ []; axes = six_axes };
  moved = 384;
}
unfolding file_in check_of
gathers = refl

-- device 32 at the start
before : place_reply (place_of six 0 32) ≡ record {
  refusal = 0;
  rank = 2;
  shard = 2 ∷ 3 ∷ 0 ∷ 0 ∷ [];
  first = 2 ∷ 0 ∷ 0 ∷ 0 ∷ [];
  sharding = record { counts = 2 ∷ 0 ∷ 0 ∷ 0 ∷ 1 ∷ 3 ∷ []; axes = six_axes };
}
unfolding file_in place_of
before = refl

-- W4: device 1 starts at 2
starts : place_reply (place_of (w4 []) 0 1) ≡ record {
  refusal = 0;
  rank = 1;
  shard = 1 ∷ 0 ∷ 0 ∷ 0 ∷ [];
  first = 2 ∷ 0 ∷ 0 ∷ 0 ∷ [];
  sharding = record { counts = 2 ∷ zeros 5; axes = 1 ∷ zeros 35 };
}
unfolding file_of place_of
starts = refl

-- W6: the gather of [1] is refused, 24 in step 1, by the check, the placement and the run
not-tail : check_reply (check_of (w4 ((2 ∷ 1 ∷ 1 ∷ []) ∷ []))) ≡ record {
  refusal = 280;
  room = 0;
  devices = 0;
  steps = 0;
  rank = 0;
  shard = zeros 4;
  sharding = record { counts = zeros 6; axes = zeros 36 };
  moved = 0;
}
unfolding file_of check_of
not-tail = refl

not-placed : place_reply (place_of (w4 ((2 ∷ 1 ∷ 1 ∷ []) ∷ [])) 0 0) ≡ record {
  refusal = 280;
  rank = 0;
  shard = zeros 4;
  first = zeros 4;
  sharding = record { counts = zeros 6; axes = zeros 36 };
}
unfolding file_of place_of
not-placed = refl

not-run : ran_reply (run_of (w4 ((2 ∷ 1 ∷ 1 ∷ []) ∷ [])) [] []) ≡ record { refusal = 280; moved = 0 }
unfolding file_of run_of
not-run = refl

-- W1, run
runs : ran_reply (run_of w1 (zeros 32) (zeros 32)) ≡ record { refusal = 0; moved = 16 }
unfolding run_of
runs = refl

-- a device and a state that are not there, and an output that is too short
outside : (refusal_code (place_of (w4 []) 0 4) ≡ 32) × (refusal_code (place_of (w4 []) 1 4) ≡ 34) × (refusal_code (groups_of (2 ∷ []) [] []) ≡ 33)
unfolding file_of place_of groups_of
outside = (refl, refl, refl)

written-w1 : (written_reply (write_of (records_given (2 ∷ 2 ∷ []) [] (4 ∷ 4 ∷ []) (sharding_in (both 0)) gather) out) ≡ record { refusal = 0; bytes = 35 })
    × (write_leaves (records_given (2 ∷ 2 ∷ []) [] (4 ∷ 4 ∷ []) (sharding_in (both 0)) gather) out ≡ w1 ++ 9 ∷ 9 ∷ [])
unfolding file_of write_of write_leaves steps_given
written-w1 = (refl, refl)

-- a count of 7 is 8, though there are six places
not_written : (written_reply (write_of (records_given (2 ∷ 2 ∷ []) [] (4 ∷ 4 ∷ []) (sharding_in (both 7)) gather) out) ≡ record { refusal = 8; bytes = 0 })
    × (write_leaves (records_given (2 ∷ 2 ∷ []) [] (4 ∷ 4 ∷ []) (sharding_in (both 7)) gather) out ≡ out)
unfolding write_of write_leaves steps_given
not_written = (refl, refl)

-- and back
read-w1 : (opened_reply (read_of w1 [] (replicate 39 9)) ≡ record {
  refusal = 0;
  n = 2;
  rank = 2;
  mesh = 2 ∷ 2 ∷ zeros 4;
  table = 4 ∷ 4 ∷ zeros 2;
  start = record { counts = 1 ∷ 1 ∷ zeros 4; axes = zeros 6 ++ (1 ∷ zeros 29) };
  order = 0;
  steps_bytes = 38;
})
    × (read_leaves_order w1 [] (replicate 39 9) ≡ []) × (read_leaves_steps w1 [] (replicate 39 9) ≡ gather ++ 9 ∷ [])
unfolding file_of read_of read_leaves_order read_leaves_steps
read-w1 = (refl, refl, refl)

not-read : opened_reply (read_of w1 [] (replicate 37 9)) ≡ record {
  refusal = 33;
  n = 0;
  rank = 0;
  mesh = zeros 6;
  table = zeros 4;
  start = record { counts = zeros 6; axes = zeros 36 };
  order = 0;
  steps_bytes = 0;
}
unfolding file_of read_of
not-read = refl

three : planned_reply (steps_planned (2 ∷ 2 ∷ 2 ∷ []) [] (8 ∷ []) (sharding_in from) (sharding_in to)) ≡ record {
  refusal = 0;
  count = 3;
  steps = record { kind = 3; source = 0; target = 0; counts = 0 ∷ 0 ∷ 0 ∷ 0 ∷ 1 ∷ []; axes = zeros 30 }
      ∷ record { kind = 2; source = 0; target = 0; counts = 1 ∷ zeros 4; axes = 2 ∷ zeros 29 }
      ∷ record { kind = 1; source = 0; target = 0; counts = 1 ∷ zeros 4; axes = zeros 30 }
      ∷ [];
}
unfolding plan_of plan_steps dims_given
three = refl

-- the goal lacks no unreduced axis of the start, but the start one of the goal: 40
not-planned : planned_reply (steps_planned (2 ∷ 2 ∷ 2 ∷ []) [] (8 ∷ []) (sharding_in to) (sharding_in from)) ≡ record {
  refusal = 40;
  count = 0;
  steps = replicate 3 (record { kind = 0; source = 0; target = 0; counts = zeros 5; axes = zeros 30 });
}
unfolding plan_of dims_given
not-planned = refl
