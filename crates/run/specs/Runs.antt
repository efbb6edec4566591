-- What the parts of the run (src/lib.rt) ask for and leave, of a plan that passed. What they ask of its steps and what these leave speaks of no plan:
-- rounds/specs/Rounds.antt. Assumes nothing.
use Rattle.std.specs.Prelude.{ℕ, ◌≤◌, ◌≡◌, true, List, length, take}
use Rattle.rules.specs.Lists.{in_turn}
use Rattle.rules.specs.Spread.{add_words}
use Rattle.rules.specs.Collectives.{Shards, stepped, Stands}
use Rattle.rules.specs.Refusals.{accept}
use Rattle.rules.specs.PlanFile.{edition, carries_order, Plan, judge, announced_shape, room}
use Rattle.rules.specs.Calls.{shards_after, last_state}
use Rattle.plan.specs.Parts.{HoldsPlan}
use Rattle.plan.specs.declared.Whole.{Whole}

-- a plan that passed, and buffers with room for it
pub record Runs (file : List ℕ) (w : Whole) (work spare : ℕ) : Type 0 where
  pub plan : Plan
  pub judged : judge file ≡ accept plan
  pub holds : HoldsPlan file w plan
  pub work_room : room plan ≤ work
  pub spare_room : room plan ≤ spare

-- the same where the file carries an order of its devices
pub record RunsOrdered (file : List ℕ) (w : Whole) (work spare : ℕ) : Type 0 where
  pub runs : Runs file w work spare
  pub carried : carries_order (edition file) ≡ true

-- the shards that a plan starts with, from the words given, stand in a buffer, by place
abbrev pub StartStands : (file given buffer : List ℕ) → Type 0
StartStands file given buffer = (p : Plan) → judge file ≡ accept p → Stands p.mesh (shards_after p given 0) buffer

-- where the shards that a plan's last step leaves stand in `before` by place, `after` begins with the last state
abbrev pub LastNumbered : (file before after : List ℕ) → Type 0
LastNumbered file before after =
    (p : Plan) → judge file ≡ accept p → (given : List ℕ) → Stands p.mesh (shards_after p given (length p.steps)) before
    → take (length (last_state p given)) after ≡ last_state p given

-- of any shards in the shape of a plan's start that stood in the buffer `before`, those after all its steps stand in `after`: by place, whatever the order
abbrev pub StepsTaken : (file before after : List ℕ) → Type 0
StepsTaken file before after =
    (p : Plan) → judge file ≡ accept p → (v : Shards ℕ) → v.shape ≡ announced_shape p 0 → Stands p.mesh v before
    → Stands p.mesh (in_turn (stepped add_words p.mesh) p.steps v) after

-- the buffer begins with the state that the plan's last step leaves, from the words given
abbrev pub BeginsWithLast : (file given buffer : List ℕ) → Type 0
BeginsWithLast file given buffer = (p : Plan) → judge file ≡ accept p → take (length (last_state p given)) buffer ≡ last_state p given
