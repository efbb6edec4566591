-- What the parts of the check (src/lib.rt) ask for and answer, in the rules' own judgements: so many outermost steps in turn, the whole file, a state. A
-- mesh is told by its n sizes, a table by the sizes up to its rank, a sharding by the lists up to the rank, a list by the axes up to its count; the
-- places past these are free, and nothing reads them. Assumes nothing.
use Rattle.std.specs.Prelude.{ℕ, ◌*◌, ◌≤◌, ◌≡◌, List, length, take, Result, Ok, Err, IfOk}
use Rattle.rules.specs.Mesh.{devices as devices_of, plain_order}
use Rattle.rules.specs.Sharding.{Sharding, shard_sizes}
use Rattle.rules.specs.Limits.{most_axes, most_devices, most_words, most_dims, most_steps, least_bytes, most_bytes, every_kind}
use Rattle.rules.specs.Refusals.{Judged, accept, ◌>>=◌}
use Rattle.rules.specs.PlanFile.{Read, outermost_at, judge_front, Plan, judge, announced, largest_shard, room, StateAnswer, steps_run, state_of}
use Rattle.types.specs.Types.{dims_of, sharding_of, mesh_of, sizes_of, WithinPlaces}
use Rattle.rules.specs.Moved.{words_moved}
use Rattle.rules.specs.Calls.{CheckAnswer}
use Rattle.types.specs.declared.Mesh.{Mesh}
use Rattle.types.specs.declared.Sharding as code
use Rattle.types.specs.declared.Table.{Table}
use Rattle.types.specs.Answers.{judged_as}
use Rattle.types.specs.declared.Refusal.{Refusal}
use Rattle.reader.specs.Reading.{order_in, Counted}
use Rattle.laws.proofs.Accepted.{Within}
use Rattle.judge.specs.Step.{Sharded}
use Rattle.plan.specs.declared.Walk.{Walk}
use Rattle.plan.specs.declared.Keeping.{Keeping}
use Rattle.plan.specs.declared.Whole.{Whole}
use Rattle.plan.specs.declared.State.{State}

-- ---- outermost steps in turn

-- what is asked before so many of them, which begin at a position with a sharding: they stand behind the header, and in a file within its limit
pub record Begins (file : List ℕ) (at count devices : ℕ) (mesh : Mesh) (table : Table) (s : code.Sharding) : Type 0 where
  pub ready : Sharded mesh table s
  pub within : Within (mesh_of mesh) (sizes_of table)
  pub devices_are : devices ≡ devices_of (mesh_of mesh)
  pub few : count ≤ most_steps
  pub behind : least_bytes ≤ at
  pub inside : at ≤ length file
  pub short : length file ≤ most_bytes

-- the sharding after the steps, the one after those up to a state, the most words that a shard has on the way, start included and inside blocks, and the
-- words moved between devices: the same in any order of the devices, here the plain one
pub record Walked : Type 0 where
  pub sharding : Sharding
  pub kept : Sharding
  pub most : ℕ
  pub moved : ℕ

abbrev pub walked_of : Plan → ℕ → Walked
walked_of p state = record {
  sharding = announced p (length p.steps);
  kept = announced p (steps_run p state);
  most = largest_shard p;
  moved = words_moved p;
}

unfoldable pub walk_at : (mesh sizes : List ℕ) → (state count : ℕ) → List ℕ → ℕ → Sharding → Judged (Read Walked)
unfolding outermost_at
walk_at mesh sizes state count file at s = do
  ts ← outermost_at every_kind mesh sizes file 0 count 1 at s
  accept (record {
    value = walked_of (record {
      mesh = mesh;
      order = plain_order (devices_of mesh);
      sizes = sizes;
      start = s;
      records = ts.records;
      steps = ts.steps;
      runs = ts.runs;
    }) state;
    next = ts.next;
  })

abbrev pub walk_read : ℕ → Walk → Read Walked
walk_read rank r = record {
  value = record { sharding = sharding_of rank r.sharding; kept = sharding_of rank r.kept; most = r.most; moved = r.moved };
  next = r.at;
}

-- ---- the whole file

-- what a plan that passed is told by
pub record WholeAnswer : Type 0 where
  pub mesh : List ℕ
  pub sizes : List ℕ
  pub start : Sharding
  pub steps : ℕ
  pub most : ℕ
  pub moved : ℕ
  pub last : Sharding

abbrev pub plan_answer : Plan → WholeAnswer
plan_answer p = record {
  mesh = p.mesh;
  sizes = p.sizes;
  start = p.start;
  steps = length p.runs;
  most = largest_shard p;
  moved = words_moved p;
  last = announced p (length p.steps);
}

-- the plan, and where its steps begin
unfoldable pub whole_of : List ℕ → Judged (Read WholeAnswer)
whole_of file = do
  f ← judge_front file
  p ← judge file
  accept (record { value = plan_answer p; next = f.next })

abbrev pub whole_answer : Whole → WholeAnswer
whole_answer w = record {
  mesh = mesh_of w.mesh;
  sizes = sizes_of w.table;
  start = sharding_of w.table.rank w.start;
  steps = w.steps;
  most = w.most;
  moved = w.moved;
  last = sharding_of w.table.rank w.last;
}

abbrev pub whole_read : Whole → Read WholeAnswer
whole_read w = record { value = whole_answer w; next = w.at }

-- an answer tells a judgement; what is accepted has as many sizes as it says
pub record WholeTells (j : Judged (Read WholeAnswer)) (r : Result Whole Refusal) : Type 0 where
  pub tells : judged_as whole_read r ≡ j
  pub counted : IfOk r (λ w. Counted w.devices w.mesh w.table)

-- the sharding that the plan announces after so many outermost steps
abbrev pub Keeps : List ℕ → ℕ → ℕ → code.Sharding → Type 0
Keeps file state rank kept = (p : Plan) → judge file ≡ accept p → announced p (steps_run p state) ≡ sharding_of rank kept

-- of a file that was judged with a sharding kept on the way
abbrev pub whole_kept : Result Keeping Refusal → Result Whole Refusal
whole_kept (Ok k) = Ok k.whole
whole_kept (Err x) = Err x

pub record KeepingTells (file : List ℕ) (state : ℕ) (r : Result Keeping Refusal) : Type 0 where
  pub whole : WholeTells (whole_of file) (whole_kept r)
  pub keeps : IfOk r (λ k. Keeps file state k.whole.table.rank k.kept)

-- w holds the plan p: what the code asks of it
pub record HoldsPlan (file : List ℕ) (w : Whole) (p : Plan) : Type 0 where
  pub mesh_is : p.mesh ≡ mesh_of w.mesh
  pub order_is : p.order ≡ order_in file w.mesh.n w.devices
  pub sizes_are : p.sizes ≡ sizes_of w.table
  pub rank_is : length p.sizes ≡ w.table.rank
  pub start_is : p.start ≡ sharding_of w.table.rank w.start
  pub steps_are : length p.runs ≡ w.steps
  pub devices_are : devices_of p.mesh ≡ w.devices
  pub room_is : room p ≡ w.devices * w.most
  pub moved_is : words_moved p ≡ w.moved
  pub last_is : announced p (length p.steps) ≡ sharding_of w.table.rank w.last
  pub opens : judge_front file ≡ accept (record { mesh = p.mesh; order = p.order; sizes = p.sizes; start = p.start; next = w.at })
  pub ready : Sharded w.mesh w.table w.start
  pub begins : outermost_at every_kind p.mesh p.sizes file 0 w.steps 1 w.at p.start
      ≡ accept (record { records = p.records; steps = p.steps; runs = p.runs; next = length file })
  pub behind : least_bytes ≤ w.at
  pub inside : w.at ≤ length file
  pub short : length file ≤ most_bytes

-- what the check answers of it, where its numbers are within their limits
abbrev pub answer_of : Whole → CheckAnswer
answer_of w = record {
  room = w.devices * w.most;
  devices = w.devices;
  steps = w.steps;
  rank = w.table.rank;
  sharding = sharding_of w.table.rank w.last;
  shard = shard_sizes (mesh_of w.mesh) (sizes_of w.table) (take w.table.rank (dims_of w.last.dims));
  moved = w.moved;
}

pub record Bounded (w : Whole) : Type 0 where
  pub fits : WithinPlaces w.mesh w.table
  pub devices_few : w.devices ≤ most_devices
  pub steps_few : w.steps ≤ most_steps
  pub room_few : w.devices * w.most ≤ most_devices * most_words

-- ---- a state

-- the state, and where the plan's steps begin
unfoldable pub state_at : List ℕ → ℕ → Judged (Read StateAnswer)
state_at file k = do
  f ← judge_front file
  s ← state_of file k
  accept (record { value = s; next = f.next })

abbrev pub state_answer : List ℕ → State → StateAnswer
state_answer file r = record {
  mesh = mesh_of r.mesh;
  order = order_in file r.mesh.n r.devices;
  sizes = sizes_of r.table;
  sharding = sharding_of r.table.rank r.sharding;
  shard = sizes_of r.shard;
}

abbrev pub state_read : List ℕ → State → Read StateAnswer
state_read file r = record { value = state_answer file r; next = r.at }

abbrev pub StateTells : List ℕ → Judged (Read StateAnswer) → Result State Refusal → Type 0
StateTells file j r = judged_as (state_read file) r ≡ j

-- the counts of a state
pub record Shaped (r : State) : Type 0 where
  pub counted : Counted r.devices r.mesh r.table
  pub rank_is : r.shard.rank ≡ r.table.rank
  pub rank_few : r.shard.rank ≤ most_dims
  pub axes_few : r.mesh.n ≤ most_axes
