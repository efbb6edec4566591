-- What the types of the check in pieces (src/lib.rt) stand for in the definitions of crate units, and what its functions ask for. Assumes nothing.
use Rattle.std.specs.Prelude.{ℕ, ◌+◌, ◌*◌, ◌≤◌, ◌≡◌, Bool, List, [], ◌∷◌, length, map, get_or, eqb, Option, Some, None, Result, Ok, Err}
use Rattle.rules.specs.Lists.{pick, product}
use Rattle.rules.specs.Limits.{most_dims, most_run, most_bytes}
use Rattle.rules.specs.Refusals.{Judged, accept}
use Rattle.types.specs.Answers.{number_of, refused_with}
use Rattle.types.specs.Types.{sharding_of, mesh_of, sizes_of}
use Rattle.types.specs.declared.Mesh.{Mesh}
use Rattle.types.specs.declared.Table.{Table}
use Rattle.judge.specs.Step.{Sharded}
use Rattle.units.specs.Units as units
use Rattle.units.specs.Sound.{Framed}
use Rattle.pieces.specs.declared.Frame.{Frame}
use Rattle.pieces.specs.declared.Frames.{Frames}
use Rattle.pieces.specs.declared.Standing.{Standing}
use Rattle.pieces.specs.declared.Turn.{Turn}
use Rattle.pieces.specs.declared.Turn.TheVariants as turn
use Rattle.pieces.specs.declared.Numbers.{Numbers}
use Rattle.types.specs.declared.Refusal.{Refusal}

-- a repeat that is open; those that are, innermost first: the places before the first that is empty
abbrev pub frame_of : (rank : ℕ) → Frame → units.Frame
frame_of rank f = record { number = f.number; count = f.count; behind = f.behind; ran = f.ran; sharding = sharding_of rank f.sharding }

abbrev pub leading : List (Option Frame) → List Frame
leading [] = []
leading (None ∷ places) = []
leading (Some f ∷ places) = f ∷ leading places

abbrev pub open_of : Frames → List Frame
open_of fs = leading fs.0

abbrev pub first_of : Frames → Option Frame
first_of fs = get_or fs.0 0 None

abbrev pub frames_of : (rank : ℕ) → Frames → List units.Frame
frames_of rank fs = map (frame_of rank) (open_of fs)

-- where the steps stand
abbrev pub standing_of : (rank : ℕ) → Standing → units.Standing
standing_of rank q = record {
  frames = frames_of rank q.frames;
  behind = q.behind;
  ran = q.ran;
  number = q.number;
  largest = q.largest;
  sharding = sharding_of rank q.sharding;
}

-- what comes after a step
abbrev pub turn_as : (mesh sizes : List ℕ) → (rank : ℕ) → Turn → units.Phase
turn_as mesh sizes rank (turn.Steps q) = units.in_steps mesh sizes (standing_of rank q)
turn_as mesh sizes rank (turn.End largest s) = units.at_end mesh sizes largest (sharding_of rank s)

-- what is asked before blocks are closed: counts do not overflow
pub record Closes (rank : ℕ) (q : Standing) : Type 0 where
  pub rank_few : rank ≤ most_dims
  pub ran_few : q.ran ≤ q.number * most_run
  pub framed : Framed q.number (frames_of rank q.frames)

-- the step with number k is done, and so many are left in its list
abbrev pub step_done : (mesh sizes : List ℕ) → (rank : ℕ) → Standing → (k left : ℕ) → Judged units.Phase
step_done mesh sizes rank q k left =
    units.after_step mesh sizes q.number q.largest (sharding_of rank q.sharding) (frames_of rank q.frames) k left q.ran

-- the innermost block of q, that of the repeat f, is closed: its repeat is done, and where the steps stand then; or the refusal
abbrev pub ClosedTo : (rank : ℕ) → Standing → Frame → Result Standing Refusal → Type 0
ClosedTo rank q f (Ok r) = ((mesh sizes : List ℕ) (k : ℕ) → step_done mesh sizes rank q k 0 ≡ step_done mesh sizes rank r f.number f.behind)
    × (length (open_of q.frames) ≡ length (open_of r.frames) + 1) × Closes rank r
ClosedTo rank q f (Err x) = (mesh sizes : List ℕ) (k : ℕ) → step_done mesh sizes rank q k 0 ≡ refused_with x

-- What is asked before a plain step: the sharding is one, and one number more does not overflow.
pub record Goes (mesh : Mesh) (table : Table) (total : ℕ) (q : Standing) : Type 0 where
  pub ready : Sharded mesh table q.sharding
  pub n_is : length (mesh_of mesh) ≡ mesh.n
  pub rank_is : length (sizes_of table) ≡ table.rank
  pub total_is : total ≡ product (sizes_of table)
  pub number_few : q.number ≤ most_bytes + 1
  pub ran_few : q.ran ≤ q.number * most_run
  pub framed : Framed q.number (frames_of table.rank q.frames)

-- ---- the bytes of a unit

-- what follows the bytes of a unit that may be a step, or that more of them are awaited
abbrev pub waiting_as : (mesh sizes : List ℕ) → (rank : ℕ) → (unit : List ℕ) → Standing → Result (Option Turn) Refusal → units.Waiting
waiting_as mesh sizes rank unit q (Ok None) = record { unit = unit; phase = units.in_steps mesh sizes (standing_of rank q) }
waiting_as mesh sizes rank unit q (Ok (Some t)) = units.turned (accept (turn_as mesh sizes rank t))
waiting_as mesh sizes rank unit q (Err x) = units.turned (refused_with x)

-- of the refusal of a unit's reader: "7" waits
abbrev pub awaited_as : Refusal → Result (Option Turn) Refusal
awaited_as x = pick (eqb (number_of x.reason) 7) (Ok None) (Err x)

-- ---- an order

abbrev pub numbers_of : Numbers → (marks : List Bool) → units.Numbers
numbers_of t marks = record { count = t.count; marks = marks; fine = t.fine; plain = t.plain }
