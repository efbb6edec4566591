-- What the parts of the judgement of arguments (src/lib.rt) ask for and answer. The judgement itself is that of records/specs/Writing.antt, of what the
-- arguments stand for in records/specs/Forms.antt. Assumes nothing.
use Rattle.std.specs.Prelude.{ℕ, ◌+◌, ◌*◌, ◌≤◌, ◌≡◌, Bool, ◌&&◌, List, [], ◌∷◌, length, get_or, take, ltb, leb, eqb}
use Rattle.rules.specs.Limits.{most_dims, most_devices, most_words, most_steps, most_run, every_kind}
use Rattle.rules.specs.Mesh.{devices}
use Rattle.rules.specs.Refusals.{Judged, accept, refuse, ◌>>◌, need, need_at}
use Rattle.rules.specs.Sharding.{Sharding, IsSharding}
use Rattle.rules.specs.Collectives as rules
use Rattle.rules.specs.PlanFile.{axes_allowed, rank_allowed, judge_sizes, Read, plain, repeat, StepsRead, plain_at, same_sharding, repeat_at, item_at, outermost_at}
use Rattle.types.specs.Types.{sharding_of, mesh_of, sizes_of, WithinPlaces}
use Rattle.types.specs.declared.Mesh.{Mesh}
use Rattle.types.specs.declared.Sharding as code
use Rattle.types.specs.declared.Table.{Table}
use Rattle.blocks.specs.Blocks.{inner_at}
use Rattle.records.specs.Records.{Given, known, unknown, steps_bytes}
use Rattle.records.specs.Writing.{judge_counts, judge_sharding, judge_order, step_numbered}
use Rattle.records.specs.Forms.{sharding_given, record_bytes, record_count, steps_given}
use Rattle.given.specs.declared.RecordsJudged.{RecordsJudged}

-- ---- what stands before the steps

-- 5: "n, rank or step count outside its limits"
abbrev pub judge_limits : (n rank steps : ℕ) → Judged (Unit {0})
judge_limits n rank steps = do
  need (axes_allowed n) 5
  need (rank_allowed rank) 5
  need (leb steps most_steps) 5

-- the mesh and the table of so many sizes; a place past the last holds 1
abbrev pub mesh_from : List ℕ → Mesh
mesh_from l = record { n = length l; sizes = get_or l 0 1 ∷ get_or l 1 1 ∷ get_or l 2 1 ∷ get_or l 3 1 ∷ get_or l 4 1 ∷ get_or l 5 1 ∷ [] }

abbrev pub table_from : List ℕ → Table
table_from l = record { rank = length l; sizes = get_or l 0 1 ∷ get_or l 1 1 ∷ get_or l 2 1 ∷ get_or l 3 1 ∷ [] }

-- a mesh and a table within their places, with as many sizes as they say
pub record Shaped (mesh : Mesh) (table : Table) : Type 0 where
  pub fits : WithinPlaces mesh table
  pub n_is : length (mesh_of mesh) ≡ mesh.n
  pub rank_is : length (sizes_of table) ≡ table.rank

-- ---- records

-- the lists of a step, in file order
abbrev pub lists_in : rules.Step → List (List ℕ)
lists_in (rules.all_slice Ss) = Ss
lists_in (rules.all_gather Gs) = Gs
lists_in (rules.all_reduce L) = L ∷ []
lists_in (rules.all_to_all source target L) = L ∷ []
lists_in (rules.reduce_scatter Ss) = Ss

-- what is judged of a record with number k before its step is: 20, and 8 over its lists
abbrev pub judge_form : (n k : ℕ) → Given → Judged (Unit {0})
judge_form n k (known (plain t)) = judge_counts n (lists_in t)
judge_form n k (known (repeat count number)) = accept tt
judge_form n k unknown = refuse 20 k

-- record i is there and is a repeat
abbrev pub repeat_here : List ℕ → ℕ → Bool
repeat_here steps i = ltb i (record_count steps) && eqb (get_or steps (record_bytes * i) 0) 9

-- the bytes that the records stand for, and where record i begins there
abbrev pub bytes_given : (rank : ℕ) → List ℕ → List ℕ
bytes_given rank steps = steps_bytes (steps_given rank steps)

abbrev pub place_of : List Given → ℕ → ℕ
place_of gs i = length (steps_bytes (take i gs))

abbrev pub place_given : (rank : ℕ) → List ℕ → ℕ → ℕ
place_given rank steps i = place_of (steps_given rank steps) i

-- ---- records that were judged

-- how many plain steps are run, and the sharding after them
pub record Summary : Type 0 where
  pub runs : ℕ
  pub sharding : Sharding

-- of what is read from record i on; the next is a record's number
abbrev pub summary_of : ℕ → StepsRead → Read Summary
summary_of i w = record { value = record { runs = length w.steps; sharding = w.sharding }; next = i + length w.records }

abbrev pub summarized : ℕ → Judged StepsRead → Judged (Read Summary)
summarized i (accept w) = accept (summary_of i w)
summarized i (refuse a b) = refuse a b

-- record i by itself: of a plain step, of a repeat with all steps inside it, and of whichever it is
abbrev pub plain_given : (mesh sizes : List ℕ) → (rank : ℕ) → List ℕ → ℕ → Sharding → Judged (Read Summary)
plain_given mesh sizes rank steps i s = step_numbered (summarized i (plain_at mesh sizes (bytes_given rank steps) (i + 1) (place_given rank steps i) s))

abbrev pub repeat_given : (mesh sizes : List ℕ) → (rank : ℕ) → List ℕ → (depth i : ℕ) → Sharding → Judged (Read Summary)
repeat_given mesh sizes rank steps depth i s =
    step_numbered (summarized i (repeat_at (inner_at mesh sizes (bytes_given rank steps) depth (i + 1)) (bytes_given rank steps) (i + 1) (place_given rank steps i + 1) s))

abbrev pub item_given : (mesh sizes : List ℕ) → (rank : ℕ) → List ℕ → (depth i : ℕ) → Sharding → Judged (Read Summary)
item_given mesh sizes rank steps depth i s =
    step_numbered (summarized i (item_at every_kind mesh sizes (bytes_given rank steps) depth (i + 1) (place_given rank steps i) s))

-- what the code's answer stands for
abbrev pub summary_in : ℕ → RecordsJudged → Read Summary
summary_in rank r = record { value = record { runs = r.runs; sharding = sharding_of rank r.sharding }; next = r.at }

-- What is asked before a record: the sharding is one.
pub record Judging (steps : List ℕ) (i : ℕ) (mesh : Mesh) (table : Table) (s : code.Sharding) : Type 0 where
  pub shaped : Shaped mesh table
  pub sound : IsSharding (mesh_of mesh) (sizes_of table) (sharding_of table.rank s)
  pub inside : i ≤ record_count steps

-- ---- the end of a block

-- the inner steps are accepted; they are a byte's number at most, and each runs no more than the limit
pub record Closing (block : RecordsJudged) (rank : ℕ) : Type 0 where
  pub rank_few : rank ≤ most_dims
  pub runs_few : block.runs ≤ 255 * most_run

-- 41, then 43 for the repeat alone
abbrev pub closed : (k count rank : ℕ) → code.Sharding → RecordsJudged → Judged (Read Summary)
closed k count rank before block = step_numbered (do
  need_at k (same_sharding (sharding_of rank block.sharding) (sharding_of rank before)) 41
  need_at k (leb (count * block.runs) most_run) 43
  accept (record { value = record { runs = count * block.runs; sharding = sharding_of rank block.sharding }; next = block.at }))

-- ---- the whole

-- the verdict alone
abbrev pub verdict_of : {A : Type 0} → Judged A → Judged (Unit {0})
verdict_of (accept a) = accept tt
verdict_of (refuse n k) = refuse n k

-- mesh, order and table, with so many outermost steps: 5, 10, 11, 19, 12, 13
abbrev pub judge_shape : (mesh order sizes : List ℕ) → (steps : ℕ) → Judged (Unit {0})
judge_shape mesh order sizes steps = do
  judge_limits (length mesh) (length sizes) steps
  judge_sizes most_devices 10 11 1 mesh
  judge_order (devices mesh) order
  judge_sizes most_words 12 13 1 sizes

-- so many outermost steps, from the first record on
abbrev pub outermost_given : (mesh sizes : List ℕ) → (rank : ℕ) → List ℕ → (count : ℕ) → Sharding → Judged (Unit {0})
outermost_given mesh sizes rank steps count s = verdict_of (outermost_at every_kind mesh sizes (bytes_given rank steps) 0 count 1 0 s)

-- the sharding, then the records
abbrev pub judge_rest : (mesh sizes : List ℕ) → (rank : ℕ) → code.Sharding → List ℕ → (count : ℕ) → Judged (Unit {0})
judge_rest mesh sizes rank start steps count = do
  judge_sharding mesh sizes (sharding_given rank start)
  step_numbered (outermost_given mesh sizes rank steps count (sharding_given rank start))
