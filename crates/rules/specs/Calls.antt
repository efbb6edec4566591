-- Document 01, "Calls": what each of the calls answers, and leaves in the memory lent to it, on any input.
-- Assumes nothing.
use Rattle.std.specs.Prelude.{ℕ, ◌-◌, false, List, [], ◌++◌, length, take, drop, replicate, ltb, leb}
use Rattle.rules.specs.Lists.{in_turn}
use Rattle.rules.specs.Mesh.{devices, plain_order, device_coords, listing}
use Rattle.rules.specs.Sharding.{Sharding, first_indexes}
use Rattle.rules.specs.Spread.{tabulate_by, held_by, add_words}
use Rattle.rules.specs.Collectives.{Shards, stepped}
use Rattle.rules.specs.Limits.{most_devices}
use Rattle.rules.specs.Refusals.{Judged, accept, refuse, ◌>>=◌, ◌>>◌, need}
use Rattle.rules.specs.Moved.{words_moved}
use Rattle.rules.specs.PlanFile.{Plan, judge, judge_by, axes_allowed, judge_sizes, order_allowed, judge_axes, announced, announced_shape, room, state_of}

-- ---- the check

-- "The check returns the room, D, the final sharding and shard sizes, or a refusal." Beside them, the number of outermost steps, the rank, and the words
-- that a run moves between devices.
pub record CheckAnswer : Type 0 where
  pub room : ℕ
  pub devices : ℕ
  pub steps : ℕ
  pub rank : ℕ
  pub sharding : Sharding
  pub shard : List ℕ
  pub moved : ℕ

unfoldable pub check_of : List ℕ → Judged CheckAnswer
unfolding judge_by announced announced_shape room words_moved
check_of file = do
  p ← judge file
  accept (record {
    room = room p;
    devices = devices p.mesh;
    steps = length p.runs;
    rank = length p.sizes;
    sharding = announced p (length p.steps);
    shard = announced_shape p (length p.steps);
    moved = words_moved p;
  })

-- ---- the placement

-- "The placement call takes a file, a state number (0 is the start) and a device, and returns that state's sharding and shard sizes, and the device's
-- first indexes." "Then 34, 32"
pub record PlaceAnswer : Type 0 where
  pub rank : ℕ
  pub sharding : Sharding
  pub shard : List ℕ
  pub first : List ℕ

unfoldable pub place_of : List ℕ → ℕ → ℕ → Judged PlaceAnswer
unfolding state_of
place_of file state device = do
  s ← state_of file state
  need (ltb device (devices s.mesh)) 32
  accept (record {
    rank = length s.sizes;
    sharding = s.sharding;
    shard = s.shard;
    first = first_indexes s.mesh s.sharding.dims s.shard (device_coords s.order s.mesh device);
  })

-- ---- the group listing

-- "The group listing uses 5, 10, 11, 14, 15, 33 in that order, sizes and axes in turn as above." It answers D. `ordered` is the test of an order.
unfoldable pub groups_by : (ordered : Judged (Unit {0})) → (mesh axes out : List ℕ) → Judged ℕ
unfolding judge_sizes judge_axes
groups_by ordered mesh axes out = do
  need (axes_allowed (length mesh)) 5
  judge_sizes most_devices 10 11 1 mesh
  ordered
  judge_axes (length mesh) false 0 [] axes
  need (leb (devices mesh) (length out)) 33
  accept (devices mesh)

-- "It writes D device numbers .. Entries after the first D stay."
abbrev pub groups_out : Judged ℕ → (order mesh axes out : List ℕ) → List ℕ
groups_out (accept d) order mesh axes out = listing order mesh axes ++ drop d out
groups_out (refuse n k) order mesh axes out = out

unfoldable pub groups_of : (mesh axes out : List ℕ) → Judged ℕ
unfolding groups_by
groups_of mesh axes out = groups_by (accept tt) mesh axes out

unfoldable pub groups_leave : (mesh axes out : List ℕ) → List ℕ
unfolding groups_of listing
groups_leave mesh axes out = groups_out (groups_of mesh axes out) (plain_order (devices mesh)) mesh axes out

-- Document 02, Ask 9: "The group listing gets a second call that takes an order; there .. 19 comes after 11, also where the order's length is not D."
unfoldable pub groups_ordered_of : (mesh order axes out : List ℕ) → Judged ℕ
unfolding groups_by order_allowed
groups_ordered_of mesh order axes out = groups_by (need (order_allowed (devices mesh) order) 19) mesh axes out

unfoldable pub groups_ordered_leave : (mesh order axes out : List ℕ) → List ℕ
unfolding groups_ordered_of listing
groups_ordered_leave mesh order axes out = groups_out (groups_ordered_of mesh order axes out) order mesh axes out

-- ---- the run

-- "Before the first step each device has its shard from work, in the start's shard sizes. Each later step is given the shards that the step before it
-- left.": the shards after k plain steps run.
unfoldable pub shards_after : Plan → List ℕ → ℕ → Shards ℕ
unfolding announced_shape held_by stepped add_words
shards_after p work k =
    in_turn (stepped add_words p.mesh) (take k p.steps) (record { shape = announced_shape p 0; words = held_by 0 p.order p.mesh (announced_shape p 0) work })

-- the buffer of the shards that the last step left
unfoldable pub last_state : Plan → List ℕ → List ℕ
unfolding shards_after tabulate_by
last_state p work = tabulate_by p.order p.mesh (shards_after p work (length p.steps)).shape (shards_after p work (length p.steps)).words

-- "The run takes a file and two lent buffers, work and spare." "Then .. 30, 31."
unfoldable pub runnable : List ℕ → (work spare : List ℕ) → Judged Plan
unfolding judge_by room
runnable file work spare = do
  p ← judge file
  need (leb (room p) (length work)) 30
  need (leb (room p) (length spare)) 31
  accept p

-- What a run answers, and what the two buffers hold after it.
pub record Ran : Type 0 where
  pub outcome : Judged (Unit {0})
  pub moved : ℕ
  pub work : List ℕ
  pub spare : List ℕ

-- "Afterwards the first D times m words of work are the last state; the rest of work and all of spare are 0."
-- "All lent memory is then as it was.": of a refusal. "The run's answer gains one number. .. A refused run moves nothing and says 0." (document 02, Ask 7)
abbrev pub run_leaves : Judged Plan → (work spare : List ℕ) → Ran
run_leaves (accept p) work spare = record {
  outcome = accept tt;
  moved = words_moved p;
  work = last_state p work ++ replicate (length work - length (last_state p work)) 0;
  spare = replicate (length spare) 0;
}
run_leaves (refuse n k) work spare = record { outcome = refuse n k; moved = 0; work = work; spare = spare }

unfoldable pub run_of : List ℕ → (work spare : List ℕ) → Ran
unfolding runnable last_state words_moved
run_of file work spare = run_leaves (runnable file work spare) work spare
