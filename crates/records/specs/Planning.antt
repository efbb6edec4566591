-- Document 02, Ask 10: the plan from one sharding to another, as the records that the writer takes. Assumes nothing.
use Rattle.std.specs.Prelude.{ℕ, suc, ◌≤◌, ◌≡◌, ◌&&◌, List, [], ◌∷◌, map, length, drop, eqb}
use Rattle.rules.specs.Lists.{pick, each, without}
use Rattle.rules.specs.Mesh.{devices}
use Rattle.rules.specs.Sharding.{Sharding, shard_sizes}
use Rattle.rules.specs.Spread.{Faithful, add_words, held_by}
use Rattle.rules.specs.Collectives.{Step, all_slice, all_gather, all_reduce, step_axes}
use Rattle.rules.specs.Limits.{most_devices, most_words}
use Rattle.rules.specs.Refusals.{Judged, accept, ◌>>◌, need}
use Rattle.rules.specs.PlanFile.{axes_allowed, rank_allowed, judge_sizes, same, some, all_in, plain, Plan, judge, announced}
use Rattle.rules.specs.Factor.{factor_after}
use Rattle.rules.specs.Calls.{run_of}
use Rattle.laws.specs.Demands.{Words, Fits as RoomIn}
use Rattle.records.specs.Records.{known, Records, file_of}
use Rattle.records.specs.Writing.{judge_sharding, judge_order, order_of, judge_records}
use Rattle.records.specs.RoundTrip.{Shorts}

-- how many axes two lists have in common from their beginning on
abbrev pub common : List ℕ → List ℕ → ℕ
common [] g = 0
common (a ∷ s) [] = 0
common (a ∷ s) (b ∷ g) = pick (eqb a b) (suc (common s g)) 0

-- what stands behind "its longest common beginning with the goal's", in the start's list and in the goal's
abbrev pub rest_of_start : List ℕ → List ℕ → List ℕ
rest_of_start s g = drop (common s g) s

abbrev pub rest_of_goal : List ℕ → List ℕ → List ℕ
rest_of_goal s g = drop (common s g) g

-- "the start's unreduced axes that the goal lacks"
unfoldable pub to_reduce : Sharding → Sharding → List ℕ
unfolding without
to_reduce s g = without s.unreduced g.unreduced

unfoldable pub to_gather : Sharding → Sharding → List (List ℕ)
to_gather s g = each rest_of_start s.dims g.dims

unfoldable pub to_slice : Sharding → Sharding → List (List ℕ)
to_slice s g = each rest_of_goal s.dims g.dims

-- "each step left out if it names no axis"
abbrev pub if_naming : Step → List Step → List Step
if_naming t ts = pick (some (step_axes t)) (t ∷ ts) ts

-- "one all-reduce of the start's unreduced axes that the goal lacks, one all-gather that cuts each dimension's list back to its longest common beginning
-- with the goal's, one all-slice of the goal's rest"
unfoldable pub plan_steps : Sharding → Sharding → List Step
unfolding to_reduce to_gather to_slice
plan_steps s g = if_naming (all_reduce (to_reduce s g)) (if_naming (all_gather (to_gather s g)) (if_naming (all_slice (to_slice s g)) []))

-- 40: the goal has an unreduced axis that the start lacks, or another replicated list
unfoldable pub reachable : (start goal : Sharding) → Judged (Unit {0})
unfolding all_in same
reachable start goal = need (all_in goal.unreduced start.unreduced && same start.replicated goal.replicated) 40

-- "a bad mesh (order as in the writer) or table gets 5, 10, 11, 19, 12, 13, then bad shardings 8 and 14 to 17, start first, all before 40."
unfoldable pub plan_of : (mesh order sizes : List ℕ) → (start goal : Sharding) → Judged Records
unfolding judge_sizes judge_order judge_sharding reachable plan_steps
plan_of mesh order sizes start goal = do
  need (axes_allowed (length mesh)) 5
  need (rank_allowed (length sizes)) 5
  judge_sizes most_devices 10 11 1 mesh
  judge_order (devices mesh) order
  judge_sizes most_words 12 13 1 sizes
  judge_sharding mesh sizes start
  judge_sharding mesh sizes goal
  reachable start goal
  accept (record { mesh = mesh; order = order; sizes = sizes; start = start; steps = map known (map plain (plan_steps start goal)) })

-- ---- what the planner promises of itself

-- Of the records that it makes. "Prove that the check accepts every such plan and that it ends at the goal sharding. Run to the end, it turns a faithful
-- spread of a table under the start into one of that table under the goal.": of any two buffers with the room that the check names, the words of the table
-- before the run under the start, and after it under the goal, each as the plan's devices are numbered. It reduces unreduced axes alone, so its factor is 1.
pub record Reaches (mesh order sizes : List ℕ) (start goal : Sharding) (r : Records) (p : Plan) : Type 0 where
  pub few : length p.steps ≤ 3
  pub as_given : (p.mesh ≡ mesh) × (p.order ≡ order_of (devices mesh) order) × (p.sizes ≡ sizes) × (p.start ≡ start)
  pub taken : judge_records r ≡ accept p
  pub accepted : judge (file_of r) ≡ accept p
  pub ends : announced p (length p.steps) ≡ goal
  pub factor : factor_after p (length p.steps) ≡ 1
  pub arrives : (table : List ℕ → ℕ) (work spare : List ℕ) → Words work → RoomIn p work spare
      → Faithful add_words mesh start (shard_sizes mesh sizes start.dims) table (held_by 0 p.order mesh (shard_sizes mesh sizes start.dims) work)
      → Faithful add_words mesh goal (shard_sizes mesh sizes goal.dims) table
      (held_by 0 p.order mesh (shard_sizes mesh sizes goal.dims) (run_of (file_of r) work spare).work)

abbrev pub PlannerPromise : Type 0
PlannerPromise =
    (mesh order sizes : List ℕ) → Shorts mesh → Shorts order → Shorts sizes → (start goal : Sharding) (r : Records) → plan_of mesh order sizes start goal ≡ accept r
    → (p : Plan) × Reaches mesh order sizes start goal r p
