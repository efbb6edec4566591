-- The tests of the planner's call. Assumes nothing.
use Rattle.std.specs.Prelude.{ℕ, List, length}
use Rattle.rules.specs.Refusals.{Judged, ◌>>◌}
use Rattle.types.specs.declared.Sharding as code
use Rattle.records.specs.Writing.{judge_sharding}
use Rattle.records.specs.Forms.{sharding_given}
use Rattle.records.specs.Planning.{reachable}
use Rattle.given.specs.Given.{judge_shape}

-- the tests of `plan_of`, in its order
abbrev pub judge_route : (mesh order sizes : List ℕ) → (start goal : code.Sharding) → Judged (Unit {0})
judge_route mesh order sizes start goal = do
  judge_shape mesh order sizes 0
  judge_sharding mesh sizes (sharding_given (length sizes) start)
  judge_sharding mesh sizes (sharding_given (length sizes) goal)
  reachable (sharding_given (length sizes) start) (sharding_given (length sizes) goal)
