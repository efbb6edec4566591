-- Document 02, Ask 7, as statements: of every accepted plan, what each of its steps moves is the closed form, and the plan's number is their sum; a block
-- moves as much in each of its rounds; the check and the run answer one number. proofs/Moved.antt proves them. Assumes nothing.
use Rattle.std.specs.Prelude.{ℕ, ◌+◌, ◌-◌, ◌*◌, ◌%◌, ◌≤◌, ◌≡◌, Bool, List, ◌∷◌, length, get_or, drop}
use Rattle.rules.specs.Lists.{product}
use Rattle.rules.specs.Mesh.{devices, span}
use Rattle.rules.specs.Sharding.{Sharding}
use Rattle.rules.specs.Collectives.{Step, all_slice, all_gather, all_reduce, all_to_all, reduce_scatter, step_axes}
use Rattle.rules.specs.Refusals.{accept, refuse}
use Rattle.rules.specs.PlanFile.{StepsRead, steps_at, repeat_at, item_at, Plan, judge, announced_shape}
use Rattle.rules.specs.Calls.{CheckAnswer, check_of, run_of}
use Rattle.rules.specs.Moved.{moved_by, added_on, moved_from, words_moved, charge_of, charge_from, most_moved}

-- "D·m·(g-1)/g for all-to-all and reduce-scatter": this division leaves no remainder
abbrev pub DividesExactly : (mesh : List ℕ) → Step → (shape : List ℕ) → Type 0
DividesExactly mesh (all_slice Ss) shape = Unit {0}
DividesExactly mesh (all_gather Gs) shape = Unit {0}
DividesExactly mesh (all_reduce L) shape = Unit {0}
DividesExactly mesh (all_to_all source target L) shape = devices mesh * product shape * (span mesh L - 1) % span mesh L ≡ 0
DividesExactly mesh (reduce_scatter Ss) shape =
    devices mesh * product shape * (span mesh (step_axes (reduce_scatter Ss)) - 1) % span mesh (step_axes (reduce_scatter Ss)) ≡ 0

-- of a step that is given shards of this shape: "Prove that it equals, with g the group size along all axes of the step and m the shard before it: .."; "the
-- per-step bound of Ask 7 becomes 1,023 times that" (Ask 12)
pub record StepCharged (mesh : List ℕ) (t : Step) (shape : List ℕ) : Type 0 where
  pub closed : moved_by mesh t shape ≡ charge_of mesh t shape
  pub exact : DividesExactly mesh t shape
  pub most : moved_by mesh t shape ≤ 1023 * 67_108_864

-- every plain step that an accepted plan runs, at the state before it; and all of them
pub record PlanCharged (p : Plan) : Type 0 where
  pub each_step : (k : ℕ) (t : Step) (rest : List Step) → drop k p.steps ≡ t ∷ rest → StepCharged p.mesh t (announced_shape p k)
  pub added : words_moved p ≡ added_on (charge_from p.mesh p.sizes) p.start p.steps
  pub most : words_moved p ≤ length p.steps * most_moved

abbrev pub PlansCharged : Type 0
PlansCharged = (file : List ℕ) (p : Plan) → judge file ≡ accept p → PlanCharged p

-- "The total of Ask 7 adds over them", the plain steps in running order: the block of an accepted repeat, as it is judged once, moves as much in each of
-- so many rounds
abbrev pub BlocksCharged : Type 0
BlocksCharged =
    (known : ℕ → Bool) (mesh sizes file : List ℕ) (depth k at : ℕ) (s : Sharding) (w block : StepsRead)
    → repeat_at (steps_at (item_at known mesh sizes file depth)) file k at s ≡ accept w
    → steps_at (item_at known mesh sizes file depth) (get_or file (at + 1) 0) (k + 1) (at + 2) s ≡ accept block
    → added_on (moved_from mesh sizes) s w.steps ≡ get_or file at 0 * added_on (moved_from mesh sizes) s block.steps

-- "The run's answer gains one number.": the check's, of every run that reaches the end; "A refused run moves nothing and says 0."
pub record OneNumber : Type 0 where
  pub finished : (file work spare : List ℕ) (c : CheckAnswer) → check_of file ≡ accept c → (run_of file work spare).outcome ≡ accept tt
      → (run_of file work spare).moved ≡ c.moved
  pub refused : (file work spare : List ℕ) (n k : ℕ) → (run_of file work spare).outcome ≡ refuse n k → (run_of file work spare).moved ≡ 0
