-- The promises: what each call answers and leaves, on any input, as the `ensures` of its function and of the library's.
-- `file`, `mesh`, `order` and `axes` are lent with `&`, so no call can change them. Assumes nothing.
use Rattle.std.specs.Prelude.{ℕ, ◌≤◌, ◌≡◌, ◌↔◌, List, length, take, drop, Result, Ok, Err}
use Rattle.rules.specs.Mesh.{devices, Rearrangement}
use Rattle.rules.specs.Refusals.{Judged, accept, refuse}
use Rattle.rules.specs.PlanFile.{Plan, judge}
use Rattle.rules.specs.Moved.{added_on, words_moved, charge_from}
use Rattle.rules.specs.Calls.{CheckAnswer, check_of, place_of, groups_of, groups_leave, groups_ordered_of, groups_ordered_leave, run_of}
use Rattle.types.specs.Answers.{checked_of, placed_of, judged}
use Rattle.laws.specs.Demands.{Demand3}
use Rattle.types.specs.declared.Refusal.{Refusal}
use Rattle.types.specs.declared.Checked.{Checked}
use Rattle.types.specs.declared.Placed.{Placed}
use Rattle.types.specs.declared.Ran.{Ran}

-- ---- the check

-- Its answer is the definition's, in every place.
abbrev pub CheckPromise : List ℕ → Checked → Type 0
CheckPromise file r = r ≡ checked_of (check_of file)

-- ---- the placement

-- Its answer is the definition's, in every place.
abbrev pub PlacePromise : List ℕ → (state device : ℕ) → Placed → Type 0
PlacePromise file state device r = r ≡ placed_of (place_of file state device)

-- ---- the group listing

-- Its answer and what it leaves are the definition's. "The D numbers are a rearrangement of 0 to D-1." "Entries after the first D stay." After a
-- refusal all entries are as they were. Of both calls, without an order and with one.
pub record ListingPromise (answer : Judged ℕ) (left mesh out : List ℕ) (r : Result ℕ Refusal) (outAfter : List ℕ) : Type 0 where
  pub answers : judged r ≡ answer
  pub leaves : outAfter ≡ left
  pub all : (d : ℕ) → judged r ≡ accept d → d ≡ devices mesh
  pub rearranged : (d : ℕ) → judged r ≡ accept d → Rearrangement d (take d outAfter)
  pub stay : (d : ℕ) → judged r ≡ accept d → drop d outAfter ≡ drop d out
  pub refused : (n k : ℕ) → judged r ≡ refuse n k → outAfter ≡ out

abbrev pub GroupsPromise : (mesh axes out : List ℕ) → Result ℕ Refusal → (outAfter : List ℕ) → Type 0
GroupsPromise mesh axes out r outAfter = ListingPromise (groups_of mesh axes out) (groups_leave mesh axes out) mesh out r outAfter

abbrev pub GroupsOrderedPromise : (mesh order axes out : List ℕ) → Result ℕ Refusal → (outAfter : List ℕ) → Type 0
GroupsOrderedPromise mesh order axes out r outAfter =
    ListingPromise (groups_ordered_of mesh order axes out) (groups_ordered_leave mesh order axes out) mesh out r outAfter

-- ---- the run

-- Of any file and any two buffers of words: what the run answers, and what the buffers hold after it.
pub record RunPromise (file work spare : List ℕ) (r : Ran) (workAfter spareAfter : List ℕ) : Type 0 where
  -- "a bad plan gets the refusal number and step number that the rules name": the outcome is the definition's
  pub answers : judged r.outcome ≡ (run_of file work spare).outcome
  -- "The run's answer gains one number.": it is the definition's
  pub moved_is : r.moved ≡ (run_of file work spare).moved
  -- "the words are fixed for unfaithful buffers as well": both buffers at the return are the definition's
  pub work_is : workAfter ≡ (run_of file work spare).work
  pub spare_is : spareAfter ≡ (run_of file work spare).spare
  -- "and no word of a borrowed buffer is changed"; "A refused run moves nothing and says 0."
  pub refused : (why : Refusal) → r.outcome ≡ Err why → (r.moved ≡ 0) × (workAfter ≡ work) × (spareAfter ≡ spare)
  -- a run that reaches the end says the plan's number, which is the check's and the sum of the steps' closed forms
  pub moves : r.outcome ≡ Ok tt → (p : Plan) → judge file ≡ accept p
      → (r.moved ≡ words_moved p) × (r.moved ≡ added_on (charge_from p.mesh p.sizes) p.start p.steps)
  -- "the run reaches the end exactly when" the check passes the file and "neither buffer is shorter than the room the check named"
  pub ends : (r.outcome ≡ Ok tt) ↔ ((c : CheckAnswer) × (check_of file ≡ accept c) × (c.room ≤ length work) × (c.room ≤ length spare))
  -- demand 3, of what the run answered and left
  pub demand_3 : (p : Plan) → judge file ≡ accept p
      → Demand3 p work spare (record { outcome = judged r.outcome; moved = r.moved; work = workAfter; spare = spareAfter })
