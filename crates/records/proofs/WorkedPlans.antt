-- The proofs of what specs/WorkedPlans.antt states and of its worked cases. Assumes nothing.
use Rattle.std.specs.Prelude.{◌≡◌, refl, [], ◌∷◌, Some, None, Ok, Err}
use Rattle.types.specs.Types.{list_from, lists_from}
use Rattle.types.specs.Answers.{reason_of}
use Rattle.types.specs.declared.Step.TheVariants.{AllSlice, AllGather, AllReduce}
use Rattle.types.specs.declared.Reason.TheVariants.{GoalOutOfReach}
use Rattle.records.specs.Forms.{list_given, dims_given}
use Rattle.records.specs.Planning.{plan_steps, plan_of}
use Rattle.records.specs.PlanAnswer.{steps_from, steps_planned, planned_of}
use Rattle.records.specs.WorkedPlans.{list, none, single, lists, sharded}

-- mesh 2x2, table 4x4
pub answers :
    -- rows split over axis 0, parts of a sum along axis 1; the goal has columns split over both
    (planned_of (steps_planned (2 ∷ 2 ∷ []) [] (4 ∷ 4 ∷ []) (sharded (single 0) none (single 1) none)
    (sharded none (list 2 (0 ∷ 1 ∷ 0 ∷ 0 ∷ 0 ∷ 0 ∷ [])) none none)) ≡ record {
      outcome = Ok tt;
      plan = record {
        0 = Some (AllReduce (single 1))
            ∷ Some (AllGather (lists (single 0) none))
            ∷ Some (AllSlice (lists none (list 2 (0 ∷ 1 ∷ 0 ∷ 0 ∷ 0 ∷ 0 ∷ []))))
            ∷ [];
      };
    })
    -- from the start to the goal: a gather alone one way, a slice alone the other
    × (planned_of (steps_planned (2 ∷ 2 ∷ []) [] (4 ∷ 4 ∷ []) (sharded none (single 1) none none) (sharded none none none none))
    ≡ record { outcome = Ok tt; plan = record { 0 = Some (AllGather (lists none (single 1))) ∷ None ∷ None ∷ [] } })
    × (planned_of (steps_planned (2 ∷ 2 ∷ []) [] (4 ∷ 4 ∷ []) (sharded none none none none) (sharded none (single 1) none none))
    ≡ record { outcome = Ok tt; plan = record { 0 = Some (AllSlice (lists none (single 1))) ∷ None ∷ None ∷ [] } })
    -- start equal to goal
    × (planned_of (steps_planned (2 ∷ 2 ∷ []) [] (4 ∷ 4 ∷ []) (sharded (single 0) none none none) (sharded (single 0) none none none))
    ≡ record { outcome = Ok tt; plan = record { 0 = None ∷ None ∷ None ∷ [] } })
    -- 40, with no step in any place
    × (planned_of (steps_planned (2 ∷ 2 ∷ []) [] (4 ∷ 4 ∷ []) (sharded (single 0) none none none) (sharded none none (single 1) none)) ≡ record {
      outcome = Err (record { reason = GoalOutOfReach; step = 0 });
      plan = record { 0 = None ∷ None ∷ None ∷ [] };
    })
unfolding plan_of plan_steps list_given dims_given list_from lists_from steps_from reason_of
answers = (refl, refl, refl, refl, refl)
