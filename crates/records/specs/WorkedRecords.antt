-- Document 02, Asks 2 and 10: what is written of records, what the arguments of the calls stand for, and the plans from one sharding to another, as
-- tables in the form of the ledger. Every refused write but 35 is into a buffer that is too short as well. Assumes nothing.
use Rattle.std.specs.Prelude.{ℕ, zero, suc, ◌+◌, ◌<◌, ◌≡◌, List, [], ◌∷◌, ◌++◌, map, length, take, replicate}
use Rattle.rules.specs.Lists.{flat, All}
use Rattle.rules.specs.Sharding.{Sharding}
use Rattle.rules.specs.Collectives.{Step, all_slice, all_gather, all_reduce, all_to_all, reduce_scatter}
use Rattle.rules.specs.Refusals.{Judged, accept, refuse}
use Rattle.rules.specs.PlanFile.{plain, repeat, Plan}
use Rattle.rules.specs.Ledger.{w1, nines}
use Rattle.types.specs.declared.AxisList.{AxisList}
use Rattle.types.specs.declared.Sharding as code
use Rattle.records.specs.Records.{Given, known, unknown, Records, file_length}
use Rattle.records.specs.Writing.{step_numbered, judge_records, write_of, write_leaves}
use Rattle.records.specs.Forms.{steps_given, records_given}
use Rattle.records.specs.Planning.{plan_of}
use Rattle.records.specs.WorkedReading as reading

-- ---- cases

-- What a write answers, and what its lent buffer holds after it.
pub record Wrote : Type 0 where
  pub outcome : Judged ℕ
  pub out : List ℕ

abbrev pub wrote_of : Records → (out : List ℕ) → Wrote
wrote_of r out = record { outcome = write_of r out; out = write_leaves r out }

-- A worked write of records, and of a call's arguments; the steps that record bytes stand for; a worked plan.
pub data Case : Type 0 where
  wrote : Records → (out : List ℕ) → Wrote → Case
  called : (mesh order sizes : List ℕ) → code.Sharding → (steps out : List ℕ) → Wrote → Case
  given : (rank : ℕ) → (steps : List ℕ) → List Given → Case
  planned : (mesh order sizes : List ℕ) → (start goal : Sharding) → Judged Records → Case

abbrev pub Holds : Case → Type 0
Holds (wrote r out w) = wrote_of r out ≡ w
Holds (called mesh order sizes start steps out w) = wrote_of (records_given mesh order sizes start steps) out ≡ w
Holds (given rank steps gs) = steps_given rank steps ≡ gs
Holds (planned mesh order sizes start goal a) = plan_of mesh order sizes start goal ≡ a

-- the file is these bytes, and the two bytes behind it stay; the write is refused, and the buffer is as it was
abbrev pub filled : List ℕ → Wrote
filled bytes = record { outcome = accept (length bytes); out = bytes ++ nines 2 }

abbrev pub untouched : (room number step : ℕ) → Wrote
untouched room number step = record { outcome = refuse number step; out = nines room }

abbrev pub writes_as : Records → List ℕ → Case
writes_as r bytes = wrote r (nines (length bytes + 2)) (filled bytes)

abbrev pub refused : Records → (number step : ℕ) → Case
refused r number step = wrote r (nines 17) (untouched 17 number step)

-- nothing but the room stands against the records
abbrev pub passes : Records → Case
passes r = refused r 35 0

-- ---- records

abbrev pub sharding : (dims : List (List ℕ)) → (unreduced replicated : List ℕ) → Sharding
sharding dims unreduced replicated = record { dims = dims; unreduced = unreduced; replicated = replicated }

abbrev pub records_for : (mesh order sizes : List ℕ) → Sharding → List Given → Records
records_for mesh order sizes start steps = record { mesh = mesh; order = order; sizes = sizes; start = start; steps = steps }

abbrev pub step : Step → Given
step t = known (plain t)

abbrev pub times : (count number : ℕ) → Given
times count number = known (repeat count number)

-- W1
abbrev pub first : Records
first = records_for (2 ∷ 2 ∷ []) [] (4 ∷ 4 ∷ []) (sharding ((0 ∷ []) ∷ (1 ∷ []) ∷ []) [] []) (step (all_gather ([] ∷ (1 ∷ []) ∷ [])) ∷ [])

-- mesh 2x2, table 4x3, with the lists of dimension 0, of unreduced and of replicated axes, and steps; with steps alone; with the lists alone
abbrev pub small : (dim unreduced replicated : List ℕ) → List Given → Records
small dim unreduced replicated steps = records_for (2 ∷ 2 ∷ []) [] (4 ∷ 3 ∷ []) (sharding (dim ∷ [] ∷ []) unreduced replicated) steps

abbrev pub whole : List Given → Records
whole steps = small [] [] [] steps

abbrev pub start : (dim unreduced replicated : List ℕ) → Records
start dim unreduced replicated = small dim unreduced replicated []

-- a mesh, an order and a table, nothing split, no steps
abbrev pub on : (mesh order sizes : List ℕ) → Records
on mesh order sizes = records_for mesh order sizes (sharding (map (λ (n : ℕ). []) sizes) [] []) []

-- slice and gather of dimension 0 along axis 0, and both in turn, so many times
abbrev pub slice : Given
slice = step (all_slice ((0 ∷ []) ∷ [] ∷ []))

abbrev pub gather : Given
gather = step (all_gather ((0 ∷ []) ∷ [] ∷ []))

abbrev pub swings : ℕ → List Given
swings n = flat (replicate n (slice ∷ gather ∷ []))

-- ---- what is written

abbrev pub writes : List Case
writes =
    -- W1, byte for byte; "Bytes after the file stay."
    writes_as first w1
    ∷ wrote first (nines 35) (record { outcome = accept 35; out = w1 })
    -- "A buffer shorter than the file gets a new number 35, .. and then nothing is written."
    ∷ wrote first (nines 34) (untouched 34 35 0)
    ∷ wrote first [] (untouched 0 35 0)
    -- "The writer makes edition 1 for an empty list and 2 otherwise.": an all-reduce; an axis that must stay replicated
    ∷ writes_as (records_for (3 ∷ 2 ∷ []) [] (1 ∷ []) (sharding ([] ∷ []) (0 ∷ []) []) (step (all_reduce (0 ∷ [])) ∷ [])) (
    0x01 ∷ 0 ∷ 0x02 ∷ 0 ∷ 0x01 ∷ 0 ∷ 0x01 ∷ 0 ∷ 0x12 ∷ 0 ∷ 0x16 ∷ 0 ∷ 0x18 ∷ 0 ∷ 0x1b ∷ 0 ∷ 0x1e ∷ 0 ∷ 3 ∷ 0 ∷ 2 ∷ 0 ∷ 1 ∷ 0
    ∷ 0 ∷ 1 ∷ 0 ∷ 3 ∷ 1 ∷ 0 ∷ []
    )
    ∷ writes_as (records_for (4 ∷ 2 ∷ []) [] (2 ∷ []) (sharding ([] ∷ []) [] (1 ∷ [])) []) (
    0x02 ∷ 0 ∷ 0x02 ∷ 0 ∷ 0x01 ∷ 0 ∷ 0x00 ∷ 0 ∷ 0x12 ∷ 0 ∷ 0x16 ∷ 0 ∷ 0x18 ∷ 0 ∷ 0x1c ∷ 0 ∷ 0x1c ∷ 0 ∷ 4 ∷ 0 ∷ 2 ∷ 0 ∷ 2 ∷ 0
    ∷ 0 ∷ 0 ∷ 1 ∷ 1 ∷ []
    )
    -- "The writer makes edition 3 exactly when an order is given": with an empty replicated list, and with axes in it, and an all-to-all
    ∷ writes_as (records_for (2 ∷ []) (1 ∷ 0 ∷ []) (8 ∷ []) (sharding ((0 ∷ []) ∷ []) [] []) []) (
    0x03 ∷ 0 ∷ 0x01 ∷ 0 ∷ 0x01 ∷ 0 ∷ 0x00 ∷ 0 ∷ 0x12 ∷ 0 ∷ 0x18 ∷ 0 ∷ 0x1a ∷ 0 ∷ 0x1e ∷ 0 ∷ 0x1e ∷ 0 ∷ 2 ∷ 0 ∷ 1 ∷ 0 ∷ 0 ∷ 0 ∷ 8 ∷ 0
    ∷ 1 ∷ 0 ∷ 0 ∷ 0 ∷ []
    )
    ∷ writes_as (records_for (3 ∷ 2 ∷ 1 ∷ []) (2 ∷ 4 ∷ 3 ∷ 0 ∷ 5 ∷ 1 ∷ []) (1 ∷ 4 ∷ 6 ∷ []) (sharding ([] ∷ (1 ∷ []) ∷ [] ∷ []) [] (2 ∷ []))
    (step (all_to_all 1 2 (1 ∷ [])) ∷ [])) (
    0x03 ∷ 0 ∷ 0x03 ∷ 0 ∷ 0x03 ∷ 0 ∷ 0x01 ∷ 0 ∷ 0x12 ∷ 0 ∷ 0x24 ∷ 0 ∷ 0x2a ∷ 0 ∷ 0x31 ∷ 0 ∷ 0x36 ∷ 0 ∷ 3 ∷ 0 ∷ 2 ∷ 0 ∷ 1 ∷ 0
    ∷ 2 ∷ 0 ∷ 4 ∷ 0 ∷ 3 ∷ 0 ∷ 0 ∷ 0 ∷ 5 ∷ 0 ∷ 1 ∷ 0 ∷ 1 ∷ 0 ∷ 4 ∷ 0 ∷ 6 ∷ 0 ∷ 0 ∷ 1 ∷ 1 ∷ 0 ∷ 0 ∷ 1 ∷ 2 ∷ 4 ∷ 1 ∷ 2 ∷ 1 ∷ 1 ∷ []
    )
    -- a reduce-scatter
    ∷ writes_as (records_for (2 ∷ []) [] (4 ∷ []) (sharding ([] ∷ []) (0 ∷ []) []) (step (reduce_scatter ((0 ∷ []) ∷ [])) ∷ [])) (
    0x01 ∷ 0 ∷ 0x01 ∷ 0 ∷ 0x01 ∷ 0 ∷ 0x01 ∷ 0 ∷ 0x12 ∷ 0 ∷ 0x14 ∷ 0 ∷ 0x16 ∷ 0 ∷ 0x19 ∷ 0 ∷ 0x1c ∷ 0 ∷ 2 ∷ 0 ∷ 4 ∷ 0
    ∷ 0 ∷ 1 ∷ 0 ∷ 5 ∷ 1 ∷ 0 ∷ []
    )
    -- sizes past 255, low byte first
    ∷ writes_as (on (0x0102 ∷ []) [] (0x0304 ∷ [])) (
    0x01 ∷ 0 ∷ 0x01 ∷ 0 ∷ 0x01 ∷ 0 ∷ 0x00 ∷ 0 ∷ 0x12 ∷ 0 ∷ 0x14 ∷ 0 ∷ 0x16 ∷ 0 ∷ 0x18 ∷ 0 ∷ 0x18 ∷ 0 ∷ 0x02 ∷ 0x01 ∷ 0x04 ∷ 0x03
    ∷ 0 ∷ 0 ∷ []
    )
    -- "Step kind 9 is a repeat: a count byte .., a byte with the number of inner steps, then those steps": a block in a block in a block. "State numbers
    -- and the header's step count still count outermost steps."
    ∷ writes_as (records_for (2 ∷ 1 ∷ 2 ∷ []) [] (8 ∷ []) (sharding ((0 ∷ 2 ∷ 1 ∷ []) ∷ []) [] []) (
    step (all_gather ((0 ∷ 2 ∷ 1 ∷ []) ∷ []))
    ∷ times 3 3 ∷ times 1 1 ∷ times 3 2 ∷ step (all_slice ((0 ∷ 1 ∷ 2 ∷ []) ∷ [])) ∷ step (all_gather ((0 ∷ 1 ∷ 2 ∷ []) ∷ []))
    ∷ step (all_slice ((2 ∷ 0 ∷ []) ∷ [])) ∷ step (all_gather ((2 ∷ 0 ∷ []) ∷ [])) ∷ []
    )) (
    0x01 ∷ 0 ∷ 0x03 ∷ 0 ∷ 0x01 ∷ 0 ∷ 0x02 ∷ 0 ∷ 0x12 ∷ 0 ∷ 0x18 ∷ 0 ∷ 0x1a ∷ 0 ∷ 0x1f ∷ 0 ∷ 0x3f ∷ 0 ∷ 2 ∷ 0 ∷ 1 ∷ 0 ∷ 2 ∷ 0 ∷ 8 ∷ 0
    ∷ 3 ∷ 0 ∷ 2 ∷ 1 ∷ 0 ∷ 2 ∷ 3 ∷ 0 ∷ 2 ∷ 1 ∷ 9 ∷ 3 ∷ 3 ∷ 9 ∷ 1 ∷ 1 ∷ 9 ∷ 3 ∷ 2 ∷ 1 ∷ 3 ∷ 0 ∷ 1 ∷ 2 ∷ 2 ∷ 3 ∷ 0 ∷ 1 ∷ 2
    ∷ 1 ∷ 2 ∷ 2 ∷ 0 ∷ 2 ∷ 2 ∷ 2 ∷ 0 ∷ []
    )
    ∷ []

-- ---- "Records that the check would refuse get that refusal .., in 01's order."

-- so many repeats, each the whole block of the one before
abbrev pub nested : ℕ → List Given → List Given
nested zero steps = steps
nested (suc n) steps = times 1 1 ∷ nested n steps

abbrev pub refusals : List Case
refusals =
    -- 5: n from 1 to 6, rank from 1 to 4, 0 to 64 outermost steps; before 10, also of a step that no file holds
    refused (on [] [] (4 ∷ [])) 5 0
    ∷ passes (on (replicate 6 1) [] (4 ∷ []))
    ∷ refused (on (replicate 7 0) [] (4 ∷ [])) 5 0
    ∷ refused (on (0 ∷ []) [] []) 5 0
    ∷ passes (on (1 ∷ []) [] (replicate 4 1))
    ∷ refused (on (0 ∷ []) [] (replicate 5 1)) 5 0
    ∷ passes (whole (swings 32))
    ∷ refused (whole (swings 32 ++ slice ∷ [])) 5 0
    ∷ refused (records_for (0 ∷ []) [] (4 ∷ []) (sharding ([] ∷ []) [] []) (replicate 65 unknown)) 5 0
    -- what stands in a block is no outermost step; a block that the records end in is one
    ∷ passes (whole (flat (replicate 33 (times 1 2 ∷ slice ∷ gather ∷ []))))
    ∷ refused (whole (swings 32 ++ times 1 3 ∷ swings 1)) 5 0
    ∷ refused (whole (swings 31 ++ slice ∷ times 1 3 ∷ gather ∷ slice ∷ [])) 7 0
    -- a repeat of 0 steps is closed at once, one too deep is open like any other, an unknown kind is one step
    ∷ refused (whole (replicate 65 (times 1 0))) 5 0
    ∷ refused (whole (replicate 64 (times 1 0))) 44 1
    ∷ refused (whole (nested 65 [])) 42 5
    ∷ refused (whole (replicate 64 unknown)) 20 1
    -- 10, 11: "each size in turn (zero, then running product)"; "mesh 1,025 gives 11"
    ∷ refused (on (2 ∷ 0 ∷ []) (0 ∷ []) (4 ∷ [])) 10 0
    ∷ refused (on (1025 ∷ 0 ∷ []) [] (4 ∷ [])) 11 0
    ∷ passes (on (1024 ∷ []) [] (4 ∷ []))
    -- "in the writer 19 comes after 11, also where the order's length is not D": too short, too long; the plain order; a number twice, and one not
    -- below D; before 12. "there an order of no numbers counts as none"
    ∷ refused (on (1025 ∷ []) (0 ∷ []) (4 ∷ [])) 11 0
    ∷ refused (on (2 ∷ 2 ∷ []) (1 ∷ 0 ∷ []) (0 ∷ [])) 19 0
    ∷ refused (on (2 ∷ []) (1 ∷ 0 ∷ 2 ∷ []) (4 ∷ [])) 19 0
    ∷ refused (on (2 ∷ []) (0 ∷ 1 ∷ []) (4 ∷ [])) 19 0
    ∷ refused (on (2 ∷ 2 ∷ []) (0 ∷ 2 ∷ 2 ∷ 3 ∷ []) (4 ∷ [])) 19 0
    ∷ refused (on (2 ∷ 2 ∷ []) (0 ∷ 2 ∷ 1 ∷ 4 ∷ []) (4 ∷ [])) 19 0
    ∷ passes (on (2 ∷ 2 ∷ []) (0 ∷ 2 ∷ 1 ∷ 3 ∷ []) (4 ∷ []))
    ∷ passes (on (2 ∷ 2 ∷ []) [] (4 ∷ []))
    -- 12, 13: "table 256x257 gives 13"; before 8
    ∷ refused (on (2 ∷ []) [] (4 ∷ 0 ∷ [])) 12 0
    ∷ refused (records_for (1 ∷ []) [] (256 ∷ 257 ∷ []) (sharding ((0 ∷ 0 ∷ []) ∷ [] ∷ []) [] []) []) 13 0
    ∷ passes (on (1 ∷ []) [] (256 ∷ 256 ∷ []))
    -- 8 of each list, over all counts of the sharding before 14 in any
    ∷ refused (records_for (2 ∷ []) [] (4 ∷ 4 ∷ []) (sharding ((7 ∷ []) ∷ (0 ∷ 1 ∷ []) ∷ []) [] []) []) 8 0
    ∷ refused (start (7 ∷ []) (0 ∷ 1 ∷ 0 ∷ []) []) 8 0
    ∷ refused (start (7 ∷ []) [] (0 ∷ 1 ∷ 0 ∷ [])) 8 0
    -- "axis by axis in file order 14, 15, 16 (all three at one axis before the next), then 17"; the replicated list "strictly increasing (16), naming no
    -- axis named before (15)"
    ∷ refused (start (2 ∷ []) (1 ∷ 0 ∷ []) []) 14 0
    ∷ refused (start [] (2 ∷ []) []) 14 0
    ∷ refused (start [] [] (2 ∷ [])) 14 0
    ∷ refused (start (0 ∷ 0 ∷ []) (2 ∷ []) []) 15 0
    ∷ refused (start (0 ∷ []) (0 ∷ []) []) 15 0
    ∷ refused (start [] (0 ∷ []) (0 ∷ [])) 15 0
    ∷ refused (start [] (1 ∷ 0 ∷ []) (2 ∷ [])) 16 0
    ∷ refused (start [] [] (1 ∷ 0 ∷ [])) 16 0
    ∷ refused (records_for (2 ∷ 2 ∷ []) [] (4 ∷ 3 ∷ []) (sharding ([] ∷ (0 ∷ []) ∷ []) (1 ∷ 0 ∷ []) []) []) 15 0
    ∷ refused (records_for (2 ∷ 2 ∷ []) [] (4 ∷ 3 ∷ []) (sharding ([] ∷ (0 ∷ []) ∷ []) [] []) (unknown ∷ [])) 17 0
    -- 20 to 28, in a first step or in a second one; 8 in a step has step number 0 and comes before 21 and 22
    ∷ refused (whole (unknown ∷ [])) 20 1
    ∷ refused (whole (slice ∷ unknown ∷ [])) 20 2
    ∷ refused (whole (step (all_reduce (7 ∷ 7 ∷ 7 ∷ [])) ∷ [])) 8 0
    ∷ refused (whole (step (all_slice ([] ∷ (0 ∷ 1 ∷ 0 ∷ []) ∷ [])) ∷ [])) 8 0
    ∷ refused (whole (step (all_to_all 0 1 (0 ∷ 1 ∷ 0 ∷ [])) ∷ [])) 8 0
    ∷ refused (whole (step (all_slice ([] ∷ [] ∷ [])) ∷ [])) 21 1
    ∷ refused (whole (slice ∷ step (all_reduce []) ∷ [])) 21 2
    ∷ refused (whole (step (all_to_all 0 0 (2 ∷ [])) ∷ [])) 22 1
    ∷ refused (whole (slice ∷ slice ∷ [])) 23 2
    ∷ refused (small [] (0 ∷ []) [] (slice ∷ [])) 23 1
    ∷ refused (small [] [] (0 ∷ []) (slice ∷ [])) 23 1
    ∷ refused (small (1 ∷ 0 ∷ []) [] [] (step (all_gather ((1 ∷ []) ∷ [] ∷ [])) ∷ [])) 24 1
    ∷ refused (small (0 ∷ []) [] [] (step (all_to_all 0 1 (1 ∷ [])) ∷ [])) 24 1
    ∷ refused (whole (step (all_slice ([] ∷ (0 ∷ []) ∷ [])) ∷ [])) 25 1
    ∷ refused (small (0 ∷ []) [] [] (step (all_to_all 0 1 (0 ∷ [])) ∷ [])) 25 1
    ∷ refused (whole (step (all_reduce (1 ∷ 0 ∷ [])) ∷ [])) 26 1
    ∷ refused (small (0 ∷ []) (1 ∷ []) [] (step (all_reduce (0 ∷ 1 ∷ [])) ∷ [])) 27 1
    ∷ refused (small [] (1 ∷ []) (0 ∷ []) (step (all_reduce (0 ∷ 1 ∷ [])) ∷ [])) 27 1
    ∷ refused (whole (step (all_to_all 0 0 (0 ∷ [])) ∷ [])) 28 1
    ∷ refused (whole (step (all_to_all 0 2 (0 ∷ [])) ∷ [])) 28 1
    -- of a reduce-scatter (Ask 5)
    ∷ refused (small [] (0 ∷ []) [] (step (reduce_scatter ((0 ∷ []) ∷ (0 ∷ []) ∷ [])) ∷ [])) 23 1
    ∷ refused (whole (step (reduce_scatter ((0 ∷ []) ∷ [] ∷ [])) ∷ [])) 27 1
    ∷ refused (small [] (0 ∷ []) [] (step (reduce_scatter ([] ∷ (0 ∷ []) ∷ [])) ∷ [])) 25 1
    -- a step is judged before the next is looked at
    ∷ refused (whole (gather ∷ step (all_reduce (0 ∷ 1 ∷ 0 ∷ [])) ∷ [])) 24 1
    -- 41 to 44 at the repeat's number, or at the outermost step's; "Inner steps are then read and judged in order."
    ∷ refused (whole (slice ∷ times 2 1 ∷ gather ∷ [])) 41 2
    ∷ refused (whole (nested 5 (swings 1))) 42 5
    ∷ refused (whole (times 1 1 ∷ times 64 1 ∷ times 33 2 ∷ swings 1)) 43 2
    ∷ refused (whole (times 64 1 ∷ times 32 2 ∷ slice ∷ gather ∷ slice ∷ [])) 43 5
    ∷ refused (whole (times 0 0 ∷ [])) 44 1
    ∷ refused (whole (slice ∷ times 2 0 ∷ [])) 44 2
    ∷ refused (whole (times 1 2 ∷ slice ∷ slice ∷ [])) 23 3
    -- "7 for records that end inside a block": of an outer block, and of one inside; after what stands there, and before 41
    ∷ refused (whole (times 1 2 ∷ slice ∷ [])) 7 0
    ∷ refused (whole (times 1 1 ∷ [])) 7 0
    ∷ refused (whole (times 1 2 ∷ times 2 3 ∷ swings 1)) 7 0
    ∷ refused (whole (times 1 2 ∷ times 2 2 ∷ swings 1)) 7 0
    ∷ refused (whole (times 1 3 ∷ gather ∷ [])) 24 2
    -- more records than have numbers, which no file could hold: each is judged as it comes
    ∷ refused (whole (nested 65536 [])) 42 5
    ∷ refused (records_for (0 ∷ []) [] (4 ∷ []) (sharding ([] ∷ []) [] []) (nested 65536 [])) 10 0
    ∷ []

-- ---- what the calls' arguments stand for

-- six places with a list's axes, no axis in those that are not used; and a list of so many axes
abbrev pub places : List ℕ → List ℕ
places l = take 6 (l ++ replicate 6 77)

abbrev pub list_of : (count : ℕ) → List ℕ → AxisList
list_of count l = record { count = count; axes = map (λ (a : ℕ). record { 0 = a }) (places l); align = [] }

-- "unused places aside": a step record of a kind, with source, target, and the lists by dimension and the one list; no list of the record is longer than
-- six
abbrev pub record_of : (kind source target : ℕ) → (lists : List (List ℕ)) → List ℕ
record_of kind source target lists = kind ∷ source ∷ target ∷ (map length lists ++ flat (map places lists))

-- the arguments of a write of W1, and the same with another count of dimension 0, of unreduced or of replicated axes
abbrev pub start_of : (dim unreduced replicated : ℕ) → code.Sharding
start_of dim unreduced replicated = record {
  dims = record { 0 = list_of dim (0 ∷ []) ∷ list_of 1 (1 ∷ []) ∷ list_of 5 [] ∷ list_of 9 [] ∷ [] };
  unreduced = list_of unreduced [];
  replicated = list_of replicated [];
}

abbrev pub gather_of : (count : ℕ) → List ℕ
gather_of count =
    2 ∷ 77 ∷ 77 ∷ 0 ∷ count ∷ 77 ∷ 77 ∷ 77 ∷ (places [] ++ (places (1 ∷ []) ++ (places [] ++ (places [] ++ places []))))

-- mesh of six axes of size 1, table of 1, not split
abbrev pub six_axes : (steps out : List ℕ) → Wrote → Case
six_axes steps out w =
    called (replicate 6 1) [] (1 ∷ []) (record {
      dims = record { 0 = list_of 0 [] ∷ list_of 0 [] ∷ list_of 0 [] ∷ list_of 0 [] ∷ [] };
      unreduced = list_of 0 [];
      replicated = list_of 0 [];
    }) steps out w

abbrev pub forms : List Case
forms =
    -- a record of each kind, in a table of two dimensions: its lists are the first two, or the fifth
    given 2 (record_of 1 77 77 ((0 ∷ 1 ∷ []) ∷ [] ∷ (3 ∷ []) ∷ (4 ∷ []) ∷ (5 ∷ []) ∷ [])) (step (all_slice ((0 ∷ 1 ∷ []) ∷ [] ∷ [])) ∷ [])
    ∷ given 2 (record_of 2 77 77 ([] ∷ (5 ∷ 4 ∷ 3 ∷ 2 ∷ 1 ∷ 0 ∷ []) ∷ [] ∷ [] ∷ (5 ∷ []) ∷ [])) (
    step (all_gather ([] ∷ (5 ∷ 4 ∷ 3 ∷ 2 ∷ 1 ∷ 0 ∷ []) ∷ [])) ∷ []
    )
    ∷ given 2 (record_of 3 77 77 ((0 ∷ []) ∷ (1 ∷ []) ∷ (2 ∷ []) ∷ (3 ∷ []) ∷ (4 ∷ 5 ∷ []) ∷ [])) (step (all_reduce (4 ∷ 5 ∷ [])) ∷ [])
    ∷ given 2 (record_of 4 1 0 ((0 ∷ []) ∷ [] ∷ [] ∷ [] ∷ (4 ∷ 5 ∷ []) ∷ [])) (step (all_to_all 1 0 (4 ∷ 5 ∷ [])) ∷ [])
    ∷ given 2 (record_of 5 77 77 ((1 ∷ 0 ∷ []) ∷ [] ∷ (3 ∷ []) ∷ (4 ∷ []) ∷ (5 ∷ []) ∷ [])) (step (reduce_scatter ((1 ∷ 0 ∷ []) ∷ [] ∷ [])) ∷ [])
    ∷ given 2 (record_of 9 3 2 ((0 ∷ []) ∷ [] ∷ [] ∷ [] ∷ (4 ∷ 5 ∷ []) ∷ [])) (times 3 2 ∷ [])
    ∷ given 4 (record_of 1 0 0 ((0 ∷ []) ∷ (1 ∷ []) ∷ (2 ∷ []) ∷ (3 ∷ []) ∷ (4 ∷ []) ∷ [])) (
    step (all_slice ((0 ∷ []) ∷ (1 ∷ []) ∷ (2 ∷ []) ∷ (3 ∷ []) ∷ [])) ∷ []
    )
    -- the kinds that there are: 1 to 5, and 9
    ∷ given 1 (record_of 0 0 0 (replicate 5 [])) (unknown ∷ [])
    ∷ given 1 (record_of 6 0 0 (replicate 5 [])) (unknown ∷ [])
    ∷ given 1 (record_of 8 0 0 (replicate 5 [])) (unknown ∷ [])
    ∷ given 1 (record_of 10 0 0 (replicate 5 [])) (unknown ∷ [])
    -- records in their order; bytes after the last whole one count for nothing
    ∷ given 1 (record_of 9 1 2 (replicate 5 []) ++ (record_of 3 0 0 ([] ∷ [] ∷ [] ∷ [] ∷ (0 ∷ []) ∷ []) ++ nines 37)) (times 1 2 ∷ step (all_reduce (0 ∷ [])) ∷ [])
    ∷ given 1 (nines 37) []
    ∷ given 1 [] []
    -- "unused places aside": W1
    ∷ called (2 ∷ 2 ∷ []) [] (4 ∷ 4 ∷ []) (start_of 1 0 0) (gather_of 1) (nines 37) (filled w1)
    -- an order, and a start with unreduced and replicated axes
    ∷ called (2 ∷ 2 ∷ 1 ∷ []) (1 ∷ 0 ∷ 3 ∷ 2 ∷ []) (4 ∷ []) (record {
      dims = record { 0 = list_of 1 (0 ∷ []) ∷ list_of 1 [] ∷ list_of 5 [] ∷ list_of 9 [] ∷ [] };
      unreduced = list_of 1 (1 ∷ []);
      replicated = list_of 1 (2 ∷ []);
    }) [] (nines 42) (filled (
    0x03 ∷ 0 ∷ 0x03 ∷ 0 ∷ 0x01 ∷ 0 ∷ 0x00 ∷ 0 ∷ 0x12 ∷ 0 ∷ 0x20 ∷ 0 ∷ 0x22 ∷ 0 ∷ 0x28 ∷ 0 ∷ 0x28 ∷ 0 ∷ 2 ∷ 0 ∷ 2 ∷ 0 ∷ 1 ∷ 0
    ∷ 1 ∷ 0 ∷ 0 ∷ 0 ∷ 3 ∷ 0 ∷ 2 ∷ 0 ∷ 4 ∷ 0 ∷ 1 ∷ 0 ∷ 1 ∷ 1 ∷ 1 ∷ 2 ∷ []
    ))
    -- 8 where a count is above n, also where there are fewer places than that: of the start, of a step
    ∷ called (2 ∷ 2 ∷ []) [] (4 ∷ 4 ∷ []) (start_of 3 0 0) (gather_of 1) (nines 17) (untouched 17 8 0)
    ∷ called (2 ∷ 2 ∷ []) [] (4 ∷ 4 ∷ []) (start_of 1 7 0) (gather_of 1) (nines 17) (untouched 17 8 0)
    ∷ called (2 ∷ 2 ∷ []) [] (4 ∷ 4 ∷ []) (start_of 1 0 255) (gather_of 1) (nines 17) (untouched 17 8 0)
    ∷ called (2 ∷ 2 ∷ []) [] (4 ∷ 4 ∷ []) (start_of 1 0 0) (gather_of 3) (nines 17) (untouched 17 8 0)
    ∷ called (2 ∷ 2 ∷ []) [] (4 ∷ 4 ∷ []) (start_of 1 0 0) (gather_of 255) (nines 17) (untouched 17 8 0)
    ∷ six_axes (record_of 1 0 0 ((0 ∷ 1 ∷ 2 ∷ 3 ∷ 4 ∷ 5 ∷ []) ∷ [] ∷ [] ∷ [] ∷ [] ∷ [])) (nines 17) (untouched 17 35 0)
    ∷ six_axes (3 ∷ 0 ∷ 0 ∷ 0 ∷ 0 ∷ 0 ∷ 0 ∷ 7 ∷ replicate 30 0) (nines 17) (untouched 17 8 0)
    ∷ []

-- ---- plans

-- the plan is these steps; it is refused
abbrev pub plans_on : (mesh order sizes : List ℕ) → (start goal : Sharding) → List Step → Case
plans_on mesh order sizes start goal steps = planned mesh order sizes start goal (accept (records_for mesh order sizes start (map step steps)))

abbrev pub no_plan : (mesh order sizes : List ℕ) → (start goal : Sharding) → (number : ℕ) → Case
no_plan mesh order sizes start goal number = planned mesh order sizes start goal (refuse number 0)

-- mesh of five axes of size 2, table 8x4x4
abbrev pub plans : (start goal : Sharding) → List Step → Case
plans start goal steps = plans_on (replicate 5 2) [] (8 ∷ 4 ∷ 4 ∷ []) start goal steps

-- dimension 0 of a table 4x3, on a mesh 2x2
abbrev pub flat_of : (dim unreduced replicated : List ℕ) → Sharding
flat_of dim unreduced replicated = sharding (dim ∷ [] ∷ []) unreduced replicated

abbrev pub no_plan2x2 : (start goal : Sharding) → (number : ℕ) → Case
no_plan2x2 start goal number = no_plan (2 ∷ 2 ∷ []) [] (4 ∷ 3 ∷ []) start goal number

abbrev pub plannings : List Case
plannings =
    -- "each step left out if it names no axis": none, where start and goal are the same
    plans (sharding ((0 ∷ 1 ∷ []) ∷ [] ∷ (2 ∷ []) ∷ []) (3 ∷ []) (4 ∷ [])) (sharding ((0 ∷ 1 ∷ []) ∷ [] ∷ (2 ∷ []) ∷ []) (3 ∷ []) (4 ∷ [])) []
    -- one of each alone
    ∷ plans (sharding ([] ∷ [] ∷ [] ∷ []) (0 ∷ 1 ∷ 2 ∷ []) []) (sharding ([] ∷ [] ∷ [] ∷ []) (1 ∷ []) []) (all_reduce (0 ∷ 2 ∷ []) ∷ [])
    ∷ plans (sharding ((0 ∷ 1 ∷ []) ∷ [] ∷ (2 ∷ []) ∷ []) [] []) (sharding ((0 ∷ []) ∷ [] ∷ [] ∷ []) [] []) (all_gather ((1 ∷ []) ∷ [] ∷ (2 ∷ []) ∷ []) ∷ [])
    ∷ plans (sharding ((0 ∷ []) ∷ [] ∷ [] ∷ []) [] []) (sharding ((0 ∷ 1 ∷ []) ∷ [] ∷ (2 ∷ []) ∷ []) [] []) (all_slice ((1 ∷ []) ∷ [] ∷ (2 ∷ []) ∷ []) ∷ [])
    -- an axis that goes from one dimension to another
    ∷ plans (sharding ((0 ∷ []) ∷ [] ∷ [] ∷ []) [] []) (sharding ([] ∷ (0 ∷ []) ∷ [] ∷ []) [] []) (
    all_gather ((0 ∷ []) ∷ [] ∷ [] ∷ []) ∷ all_slice ([] ∷ (0 ∷ []) ∷ [] ∷ []) ∷ []
    )
    -- one that goes from the unreduced axes into a dimension
    ∷ plans (sharding ([] ∷ [] ∷ [] ∷ []) (0 ∷ 1 ∷ []) []) (sharding ([] ∷ (0 ∷ []) ∷ [] ∷ []) (1 ∷ []) []) (
    all_reduce (0 ∷ []) ∷ all_slice ([] ∷ (0 ∷ []) ∷ [] ∷ []) ∷ []
    )
    -- "one all-gather that cuts each dimension's list back to its longest common beginning with the goal's, one all-slice of the goal's rest": of two
    -- axes, of one, and of none, though the lists end alike; the same axes in another order; an axis before the common ones
    ∷ plans (sharding ((0 ∷ 1 ∷ 2 ∷ []) ∷ (3 ∷ []) ∷ (4 ∷ []) ∷ []) [] []) (sharding ((0 ∷ 1 ∷ []) ∷ (3 ∷ 4 ∷ []) ∷ (2 ∷ []) ∷ []) [] []) (
    all_gather ((2 ∷ []) ∷ [] ∷ (4 ∷ []) ∷ []) ∷ all_slice ([] ∷ (4 ∷ []) ∷ (2 ∷ []) ∷ []) ∷ []
    )
    ∷ plans (sharding ((0 ∷ 1 ∷ 2 ∷ []) ∷ [] ∷ [] ∷ []) [] []) (sharding ((0 ∷ 3 ∷ 2 ∷ []) ∷ [] ∷ [] ∷ []) [] []) (
    all_gather ((1 ∷ 2 ∷ []) ∷ [] ∷ [] ∷ []) ∷ all_slice ((3 ∷ 2 ∷ []) ∷ [] ∷ [] ∷ []) ∷ []
    )
    ∷ plans (sharding ((0 ∷ 1 ∷ []) ∷ [] ∷ [] ∷ []) [] []) (sharding ((1 ∷ 0 ∷ []) ∷ [] ∷ [] ∷ []) [] []) (
    all_gather ((0 ∷ 1 ∷ []) ∷ [] ∷ [] ∷ []) ∷ all_slice ((1 ∷ 0 ∷ []) ∷ [] ∷ [] ∷ []) ∷ []
    )
    ∷ plans (sharding ((0 ∷ []) ∷ [] ∷ [] ∷ []) [] []) (sharding ((1 ∷ 0 ∷ []) ∷ [] ∷ [] ∷ []) [] []) (
    all_gather ((0 ∷ []) ∷ [] ∷ [] ∷ []) ∷ all_slice ((1 ∷ 0 ∷ []) ∷ [] ∷ [] ∷ []) ∷ []
    )
    -- all three steps, on a mesh with an order
    ∷ plans_on (2 ∷ 2 ∷ 2 ∷ []) (0 ∷ 2 ∷ 1 ∷ 3 ∷ 4 ∷ 5 ∷ 6 ∷ 7 ∷ []) (8 ∷ []) (sharding ((2 ∷ []) ∷ []) (0 ∷ 1 ∷ []) []) (sharding ((0 ∷ []) ∷ []) (1 ∷ []) [])
    (all_reduce (0 ∷ []) ∷ all_gather ((2 ∷ []) ∷ []) ∷ all_slice ((0 ∷ []) ∷ []) ∷ [])
    -- "a bad mesh (order as in the writer) or table gets 5, 10, 11, 19, 12, 13": each before the next
    ∷ no_plan [] [] [] (sharding [] [] []) (sharding [] [] []) 5
    ∷ no_plan (replicate 7 0) [] (4 ∷ []) (sharding ([] ∷ []) [] []) (sharding ([] ∷ []) [] []) 5
    ∷ no_plan (0 ∷ []) [] [] (sharding [] [] []) (sharding [] [] []) 5
    ∷ no_plan (0 ∷ []) [] (replicate 5 1) (sharding [] [] []) (sharding [] [] []) 5
    ∷ no_plan (2 ∷ 0 ∷ []) (0 ∷ []) (0 ∷ []) (sharding ([] ∷ []) [] []) (sharding ([] ∷ []) [] []) 10
    ∷ no_plan (1025 ∷ []) (0 ∷ []) (0 ∷ []) (sharding ([] ∷ []) [] []) (sharding ([] ∷ []) [] []) 11
    ∷ no_plan (2 ∷ []) (0 ∷ 1 ∷ []) (0 ∷ []) (sharding ([] ∷ []) [] []) (sharding ([] ∷ []) [] []) 19
    ∷ no_plan (2 ∷ []) (1 ∷ 0 ∷ 2 ∷ []) (0 ∷ []) (sharding ([] ∷ []) [] []) (sharding ([] ∷ []) [] []) 19
    ∷ no_plan (2 ∷ []) (1 ∷ 0 ∷ []) (0 ∷ []) (sharding ((0 ∷ 0 ∷ []) ∷ []) [] []) (sharding ([] ∷ []) [] []) 12
    ∷ no_plan (1 ∷ []) [] (256 ∷ 257 ∷ []) (sharding ((0 ∷ 0 ∷ []) ∷ [] ∷ []) [] []) (sharding ([] ∷ [] ∷ []) [] []) 13
    -- "then bad shardings 8 and 14 to 17, start first": all of the start before the goal's 8
    ∷ no_plan2x2 (flat_of (7 ∷ []) [] (0 ∷ 1 ∷ 0 ∷ [])) (flat_of [] [] []) 8
    ∷ no_plan2x2 (flat_of (2 ∷ []) [] []) (flat_of (0 ∷ 1 ∷ 0 ∷ []) [] []) 14
    ∷ no_plan2x2 (flat_of (0 ∷ []) (0 ∷ []) []) (flat_of (0 ∷ 1 ∷ 0 ∷ []) [] []) 15
    ∷ no_plan2x2 (flat_of [] (1 ∷ 0 ∷ []) []) (flat_of (0 ∷ 1 ∷ 0 ∷ []) [] []) 16
    ∷ no_plan2x2 (sharding ([] ∷ (0 ∷ []) ∷ []) [] []) (flat_of (0 ∷ 1 ∷ 0 ∷ []) [] []) 17
    ∷ no_plan2x2 (flat_of [] [] []) (flat_of (7 ∷ []) (0 ∷ 1 ∷ 0 ∷ []) []) 8
    -- "all before 40": the goal's own, where its unreduced or its replicated list would be 40
    ∷ no_plan2x2 (flat_of [] [] []) (flat_of (2 ∷ []) (0 ∷ []) []) 14
    ∷ no_plan2x2 (flat_of [] [] []) (flat_of (0 ∷ []) (0 ∷ []) []) 15
    ∷ no_plan2x2 (flat_of [] [] []) (flat_of [] [] (1 ∷ 0 ∷ [])) 16
    ∷ no_plan2x2 (flat_of [] [] []) (sharding ([] ∷ (1 ∷ []) ∷ []) (0 ∷ []) []) 17
    -- "If the goal has an unreduced axis the start lacks, refuse with 40; if the replicated lists differ, also 40": one that splits a dimension of the
    -- start is lacked too; lists that differ either way
    ∷ no_plan2x2 (flat_of [] (0 ∷ []) []) (flat_of [] (0 ∷ 1 ∷ []) []) 40
    ∷ no_plan2x2 (flat_of (0 ∷ []) [] []) (flat_of [] (0 ∷ []) []) 40
    ∷ no_plan2x2 (flat_of [] [] (0 ∷ [])) (flat_of [] [] []) 40
    ∷ no_plan2x2 (flat_of [] [] []) (flat_of [] [] (0 ∷ [])) 40
    ∷ no_plan2x2 (flat_of [] [] (0 ∷ 1 ∷ [])) (flat_of [] [] (0 ∷ [])) 40
    ∷ []

-- ---- what is promised

-- "a file that would pass the byte limit gets the writer's 2, just before 35": of every buffer. Such records are too many to be worked.
abbrev pub PastLimit : Type 0
PastLimit = (r : Records) (out : List ℕ) (p : Plan) → judge_records r ≡ accept p → 8192 < file_length r → write_of r out ≡ refuse 2 0

-- the last step number, the first past it, and a refusal without one
abbrev pub Numbering : Type 0
Numbering =
    (step_numbered {A = ℕ} (refuse 20 65535) ≡ refuse 20 65535) × (step_numbered {A = ℕ} (refuse 20 65536) ≡ refuse 2 0)
    × (step_numbered {A = ℕ} (refuse 7 0) ≡ refuse 7 0)

pub record WorkedPromise : Type 0 where
  pub writing : All Holds writes
  pub refusing : All Holds refusals
  pub past_limit : PastLimit
  pub numbering : Numbering
  pub given : All Holds forms
  pub planning : All Holds plannings
  pub reading : All reading.Holds reading.reads
