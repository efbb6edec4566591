-- One step taken: its bytes read and judged, in the rules' own judgements, with the sharding after it. Assumes nothing.
use Rattle.std.specs.Prelude.{ℕ, List, length}
use Rattle.rules.specs.Sharding.{Sharding}
use Rattle.rules.specs.Collectives.{Step}
use Rattle.rules.specs.Refusals.{Judged, accept, ◌>>=◌}
use Rattle.rules.specs.PlanFile.{Read, step_at, judge_step}
use Rattle.types.specs.Types.{sharding_of, step_of}
use Rattle.taking.specs.declared.Taken.{Taken}

-- a step that was read and judged, and the sharding after it
pub record StepTaken : Type 0 where
  pub step : Step
  pub sharding : Sharding

unfoldable pub take_step : (mesh sizes : List ℕ) → ℕ → List ℕ → ℕ → Sharding → Judged (Read StepTaken)
unfolding step_at judge_step
take_step mesh sizes k file at s = do
  t ← step_at (length mesh) (length sizes) k file at
  a ← judge_step mesh sizes k t.value s
  accept (record { value = record { step = t.value; sharding = a }; next = t.next })

abbrev pub taken_of : ℕ → Taken → StepTaken
taken_of rank t = record { step = step_of rank t.step; sharding = sharding_of rank t.sharding }
