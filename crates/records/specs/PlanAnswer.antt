-- The planner's answer as the code has it: every place is fixed, and those that are not used hold no axes, no step. Assumes nothing.
use Rattle.std.specs.Prelude.{ℕ, List, [], map, length, get_or, count_by, is_some, Some, None, Ok, Err}
use Rattle.rules.specs.Lists.{tab}
use Rattle.rules.specs.Collectives.{all_slice, all_gather, all_reduce, all_to_all, reduce_scatter}
use Rattle.rules.specs.Collectives as rules
use Rattle.types.specs.Types.{list_from, lists_from}
use Rattle.types.specs.declared.Step.{Step}
use Rattle.types.specs.declared.Step.TheVariants as step
use Rattle.rules.specs.Refusals.{Judged, accept, refuse, ◌>>◌}
use Rattle.types.specs.Answers.{refusal_of}
use Rattle.types.specs.declared.Sharding as code
use Rattle.records.specs.Forms.{sharding_given}
use Rattle.records.specs.Planning.{plan_steps, plan_of}
use Rattle.records.specs.declared.Steps.{Steps}
use Rattle.records.specs.declared.Planned.{Planned}

abbrev pub step_record_of : rules.Step → Step
step_record_of (all_slice Ss) = step.AllSlice (lists_from Ss)
step_record_of (all_gather Gs) = step.AllGather (lists_from Gs)
step_record_of (all_reduce L) = step.AllReduce (list_from L)
step_record_of (all_to_all source target L) = step.AllToAll (record { 0 = source }) (record { 0 = target }) (list_from L)
step_record_of (reduce_scatter Ss) = step.ReduceScatter (lists_from Ss)

-- at most three of them
unfoldable pub steps_from : List rules.Step → Steps
steps_from ts = record { 0 = tab 3 (λ i. get_or (map Some (map step_record_of ts)) i None) }

-- how many there are
abbrev pub step_count : Steps → ℕ
step_count s = count_by is_some s.0

-- ---- the call

-- the steps of the records that the definition makes of the arguments, or its refusal
abbrev pub steps_planned : (mesh order sizes : List ℕ) → (start goal : code.Sharding) → Judged (List rules.Step)
steps_planned mesh order sizes start goal = do
  plan_of mesh order sizes (sharding_given (length sizes) start) (sharding_given (length sizes) goal)
  accept (plan_steps (sharding_given (length sizes) start) (sharding_given (length sizes) goal))

-- the answer of the code, every place of it
abbrev pub planned_of : Judged (List rules.Step) → Planned
planned_of (accept ts) = record { outcome = Ok tt; plan = steps_from ts }
planned_of (refuse n k) = record { outcome = Err (refusal_of n k); plan = steps_from [] }
