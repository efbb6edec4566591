-- What the parts (src/lib.rt) ask for and leave, of no plan: one step by itself; and whatever was accepted from a sharding on, a plain step, a repeat,
-- or so many steps in turn, with both buffers whole. Assumes nothing.
use Rattle.std.specs.Prelude.{ℕ, ◌+◌, ◌*◌, ◌≤◌, ◌<◌, ◌≡◌, Bool, not, List, length, take, Ok}
use Rattle.rules.specs.Lists.{pick, in_turn, product}
use Rattle.rules.specs.Mesh.{devices, OnMesh}
use Rattle.rules.specs.Sharding.{Sharding, shard_sizes}
use Rattle.rules.specs.Spread.{add_words}
use Rattle.rules.specs.Collectives.{Step, Shards, stepped, Stands, with_shards}
use Rattle.rules.specs.Limits.{most_dims, most_words, most_bytes, every_kind}
use Rattle.rules.specs.Refusals.{Judged, accept}
use Rattle.rules.specs.PlanFile.{Read, StepsRead, JudgesStep, steps_at, repeat_at, item_at}
use Rattle.laws.specs.Demands.{largest_on}
use Rattle.types.specs.Types.{dims_of, sharding_of, step_of, mesh_of, sizes_of}
use Rattle.types.specs.declared.Sharding as code
use Rattle.types.specs.declared.Table.{Table}
use Rattle.types.specs.declared.Mesh.{Mesh}
use Rattle.judge.specs.Step.{Sharded}
use Rattle.reader.specs.Reading.{reading}
use Rattle.reader.specs.declared.Read as code-read
use Rattle.taking.specs.Taking.{StepTaken, take_step, taken_of}
use Rattle.taking.specs.declared.Taken.{Taken}
use Rattle.step.specs.Stepping.{Stepping, in_place, spent_shards}
use Rattle.rounds.specs.declared.Progress.{Progress}

-- ---- one step

-- the shard sizes of a sharding
abbrev pub shape_of : Mesh → Table → code.Sharding → List ℕ
shape_of mesh table s = shard_sizes (mesh_of mesh) (sizes_of table) (take table.rank (dims_of s.dims))

-- step k, which is read at `at` and accepted of the sharding s, and what it asks of a buffer of `old` words with the state before it and of another one
-- of `new` words
pub record Turning (file : List ℕ) (at k : ℕ) (mesh : Mesh) (table : Table) (s : code.Sharding) (old new : ℕ) : Type 0 where
  pub ready : Sharded mesh table s
  pub move : Read StepTaken
  pub taken : take_step (mesh_of mesh) (sizes_of table) k file at (sharding_of table.rank s) ≡ accept move
  pub stepping : Stepping (mesh_of mesh) (shape_of mesh table s) move.value.step
      (product (shard_sizes (mesh_of mesh) (sizes_of table) move.value.sharding.dims)) old new

-- what the step leaves, from the state in here: of any shards of that sharding's shape that stood there, those after the step, in here where it is done
-- in place, else in there, with the words behind them as they were; and in the other buffer what the step has spent of it
pub record Turned (file : List ℕ) (at k : ℕ) (mesh : Mesh) (table : Table) (s : code.Sharding) (here there here' there' : List ℕ) (r : code-read.Read Taken) : Type 0 where
  pub taken : reading (taken_of table.rank) (Ok r) ≡ take_step (mesh_of mesh) (sizes_of table) k file at (sharding_of table.rank s)
  pub leaves : (v : Shards ℕ) → v.shape ≡ shape_of mesh table s → Stands (mesh_of mesh) v here
      → pick (in_place (step_of table.rank r.value.step)) here' there'
      ≡ with_shards (mesh_of mesh) (stepped add_words (mesh_of mesh) (step_of table.rank r.value.step) v) (pick (in_place (step_of table.rank r.value.step)) here there)
  pub keeps : (v : Shards ℕ) → v.shape ≡ shape_of mesh table s → Stands (mesh_of mesh) v here
      → pick (in_place (step_of table.rank r.value.step)) there' here'
      ≡ pick (in_place (step_of table.rank r.value.step)) there (spent_shards add_words (mesh_of mesh) (step_of table.rank r.value.step) v here)

-- whether the state stands in work after a step: one that is not done in place leaves it in the other buffer
abbrev pub stands_after : Step → Bool → Bool
stands_after t in_work = pick (in_place t) in_work (not in_work)

-- ---- the memory of a run

-- shards, whether they stand at the front of work, else at that of spare, and both buffers whole
pub record Memory : Type 0 where
  pub shards : Shards ℕ
  pub in_work : Bool
  pub work : List ℕ
  pub spare : List ℕ

-- shards put at the front of one of the buffers: its other words stay, and so does the other buffer
abbrev pub put_in : (mesh : List ℕ) → Shards ℕ → Bool → Memory → Memory
put_in mesh v in_work m = record {
  shards = v;
  in_work = in_work;
  work = pick in_work (with_shards mesh v m.work) m.work;
  spare = pick in_work m.spare (with_shards mesh v m.spare);
}

-- what a step spends of the buffer in which the shards stood
abbrev pub spent_in : (mesh : List ℕ) → Step → Memory → Memory
spent_in mesh t m = record {
  shards = m.shards;
  in_work = m.in_work;
  work = pick m.in_work (spent_shards add_words mesh t m.shards m.work) m.work;
  spare = pick m.in_work m.spare (spent_shards add_words mesh t m.shards m.spare);
}

-- one step on it
unfoldable pub memory_after : (mesh : List ℕ) → Step → Memory → Memory
memory_after mesh t m = put_in mesh (stepped add_words mesh t m.shards) (stands_after t m.in_work) (spent_in mesh t m)

-- What steps leave of two buffers, of any shards of a shape that stood in the one that is named; the words that it holds are such shards (`held-stands`,
-- laws/proofs/Stands). So every word of both buffers is fixed, and in which of them the shards after the steps stand.
abbrev pub Leaves : (mesh shape : List ℕ) → List Step → (in_work : Bool) → (work spare : List ℕ) → (in-work' : Bool) → (work' spare' : List ℕ) → Type 0
Leaves mesh shape ts in_work work spare in-work' work' spare' =
    (v : Shards ℕ) → v.shape ≡ shape → Stands mesh v (pick in_work work spare)
    → record { shards = in_turn (stepped add_words mesh) ts v; in_work = in-work'; work = work'; spare = spare' }
    ≡ in_turn (memory_after mesh) ts (record { shards = v; in_work = in_work; work = work; spare = spare })

-- ---- whatever was accepted

-- a repeat at its kind byte, its inner steps nested at most so deep
abbrev pub block_at : (mesh sizes : List ℕ) → List ℕ → (depth : ℕ) → JudgesStep
block_at mesh sizes file depth k at s = repeat_at (steps_at (item_at every_kind mesh sizes file depth)) file k (at + 1) s

-- a mesh and a table within the limits
pub record WithinLimits (mesh sizes : List ℕ) : Type 0 where
  pub on : OnMesh mesh
  pub rank_some : 1 ≤ length sizes
  pub rank_few : length sizes ≤ most_dims
  pub words_pos : 0 < product sizes
  pub words_few : product sizes ≤ most_words

-- the sharding where a run is, and what is judged from there on
abbrev pub sharding_on : Table → Progress → Sharding
sharding_on table p = sharding_of table.rank p.sharding

abbrev pub judged_from : JudgesStep → Table → Progress → Judged StepsRead
judged_from judges table p = judges p.number p.at (sharding_on table p)

-- the words that steps need, from a sharding on: D times the largest m on their way
abbrev pub room_for : (mesh sizes : List ℕ) → Sharding → List Step → ℕ
room_for mesh sizes s ts = devices mesh * largest_on (λ r. product (shard_sizes mesh sizes r.dims)) s ts

-- what is judged from there on was accepted, and both buffers have room for every state on its way. A step number is no larger than the place of its
-- kind byte, since each kind byte before it is a byte.
pub record CanRun (judges : JudgesStep) (file : List ℕ) (mesh : Mesh) (table : Table) (from : Progress) (work spare : ℕ) : Type 0 where
  pub ready : Sharded mesh table from.sharding
  pub limits : WithinLimits (mesh_of mesh) (sizes_of table)
  pub number_few : from.number ≤ from.at
  pub short : length file ≤ most_bytes
  pub read : StepsRead
  pub accepted : judged_from judges table from ≡ accept read
  pub work_room : room_for (mesh_of mesh) (sizes_of table) (sharding_on table from) read.steps ≤ work
  pub spare_room : room_for (mesh_of mesh) (sizes_of table) (sharding_on table from) read.steps ≤ spare

-- where the run is after the steps w, and what they leave, in running order, of both buffers
pub record HasTaken (w : StepsRead) (mesh : Mesh) (table : Table) (from : Progress) (work spare work' spare' : List ℕ) (end : Progress) : Type 0 where
  pub at_is : end.at ≡ w.next
  pub number_is : end.number ≡ from.number + length w.records
  pub sharding_is : sharding_on table end ≡ w.sharding
  pub leaves : Leaves (mesh_of mesh) (shape_of mesh table from.sharding) w.steps from.in_work work spare end.in_work work' spare'

abbrev pub HasRun : JudgesStep → Mesh → Table → (from : Progress) → (work spare work' spare' : List ℕ) → (end : Progress) → Type 0
HasRun judges mesh table from work spare work' spare' end =
    (w : StepsRead) → judged_from judges table from ≡ accept w → HasTaken w mesh table from work spare work' spare' end
