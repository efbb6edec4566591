-- Document 02, Ask 11: files with repeats, as one table in the form of the ledger; and what such a file is read as, what its plain steps come to at the
-- limit, and what the reader just before repeats answers. Assumes nothing.
use Rattle.std.specs.Prelude.{ℕ, zero, suc, ◌+◌, ◌≡◌, true, false, List, [], ◌∷◌, ◌++◌, length, set, replicate}
use Rattle.rules.specs.Lists.{tab, flat}
use Rattle.rules.specs.Collectives.{Step, all_slice, all_gather}
use Rattle.rules.specs.Refusals.{Judged, accept, refuse, ◌>>=◌}
use Rattle.rules.specs.PlanFile.{plain, repeat, same_sharding, repeat_at, judge, judge_by}
use Rattle.rules.specs.Calls.{check_of}
use Rattle.rules.specs.Limits.{without_repeats, original}
use Rattle.rules.specs.Ledger.{Case, checked, placed, file_of, on2x2, passed, found, leaves}
use Rattle.rules.specs.WorkedRefusals.{refused_run}
use Rattle.rules.specs.WorkedEditions.{second, sharding_of, passed as passed2x2}
use Rattle.rules.specs.WorkedOrders.{third}

-- ---- files

-- mesh 2, table of 2: whole on both devices; split along axis 0; of parts, axis 0 unreduced
abbrev pub whole : List (List ℕ) → List ℕ
whole steps = file_of (2 ∷ []) (2 ∷ []) ([] ∷ [] ∷ []) steps

abbrev pub halves : List (List ℕ) → List ℕ
halves steps = file_of (2 ∷ []) (2 ∷ []) ((0 ∷ []) ∷ [] ∷ []) steps

abbrev pub parts : List (List ℕ) → List ℕ
parts steps = file_of (2 ∷ []) (2 ∷ []) ([] ∷ (0 ∷ []) ∷ []) steps

-- mesh 2, table 2x2, whole on both devices; mesh 2x2, table of 4, split along axis 0 and then 1
abbrev pub square : List (List ℕ) → List ℕ
square steps = file_of (2 ∷ []) (2 ∷ 2 ∷ []) ([] ∷ [] ∷ [] ∷ []) steps

abbrev pub quarters : List (List ℕ) → List ℕ
quarters steps = file_of (2 ∷ 2 ∷ []) (4 ∷ []) ((0 ∷ 1 ∷ []) ∷ [] ∷ []) steps

-- all-slice, all-gather and all-reduce along axis 0, of a table of one dimension; slice and gather in turn, so many times
abbrev pub slice : List ℕ
slice = 1 ∷ 1 ∷ 0 ∷ []

abbrev pub gather : List ℕ
gather = 2 ∷ 1 ∷ 0 ∷ []

abbrev pub reduce : List ℕ
reduce = 3 ∷ 1 ∷ 0 ∷ []

abbrev pub swings : ℕ → List (List ℕ)
swings n = flat (replicate n (slice ∷ gather ∷ []))

-- along axis 0, of the table 2x2: all-slice of dimension 0 and of 1, all-gather of each, all-to-all from 0 to 1 and back
abbrev pub slice_rows : List ℕ
slice_rows = 1 ∷ 1 ∷ 0 ∷ 0 ∷ []

abbrev pub slice_columns : List ℕ
slice_columns = 1 ∷ 0 ∷ 1 ∷ 0 ∷ []

abbrev pub gather_rows : List ℕ
gather_rows = 2 ∷ 1 ∷ 0 ∷ 0 ∷ []

abbrev pub gather_columns : List ℕ
gather_columns = 2 ∷ 0 ∷ 1 ∷ 0 ∷ []

abbrev pub to_columns : List ℕ
to_columns = 4 ∷ 0 ∷ 1 ∷ 1 ∷ 0 ∷ []

abbrev pub to_rows : List ℕ
to_rows = 4 ∷ 1 ∷ 0 ∷ 1 ∷ 0 ∷ []

-- the bytes of a repeat; and so many repeats, each the whole block of the one before
abbrev pub times : ℕ → List (List ℕ) → List ℕ
times count steps = 9 ∷ count ∷ length steps ∷ flat steps

abbrev pub nested : ℕ → List (List ℕ) → List (List ℕ)
nested zero steps = steps
nested (suc n) steps = times 1 (nested n steps) ∷ []

-- a plain step, a repeat with a repeat inside, a plain step
abbrev pub mixed : List ℕ
mixed = whole (slice ∷ times 2 (gather ∷ times 3 (swings 1) ∷ slice ∷ []) ∷ gather ∷ [])

-- repeats of 4,096 plain steps in all, of 4,080, and of 16
abbrev pub full : List ℕ
full = times 64 (times 32 (swings 1) ∷ [])

abbrev pub nearly_full : List ℕ
nearly_full = times 255 (swings 8)

abbrev pub sixteen : List ℕ
sixteen = times 8 (swings 1)

abbrev pub repeats : List Case
repeats =
    -- "a count byte (the block is run that many times), a byte with the number of inner steps, then those steps"; the check's count is that of
    -- outermost steps, and "0 to 64 steps" is a limit of theirs
    checked (whole (times 2 (swings 1) ∷ [])) (passed 4 2 1 4 ([] ∷ []) [] (2 ∷ []))
    ∷ checked mixed (passed 4 2 3 18 ([] ∷ []) [] (2 ∷ []))
    ∷ checked (whole (times 1 (swings 33) ∷ slice ∷ [])) (passed 4 2 2 66 ((0 ∷ []) ∷ []) [] (1 ∷ []))
    -- "which may be repeats themselves down to depth 4 (an outermost one is 1)": also one after another
    ∷ checked (whole (nested 4 (swings 1))) (passed 4 2 1 2 ([] ∷ []) [] (2 ∷ []))
    ∷ checked (whole (nested 4 (swings 1) ++ nested 4 (swings 1))) (passed 4 2 2 4 ([] ∷ []) [] (2 ∷ []))
    ∷ checked (whole (times 2 (nested 3 (swings 1) ++ nested 3 (swings 1)) ∷ [])) (passed 4 2 1 8 ([] ∷ []) [] (2 ∷ []))
    -- "depth above 4 is 42": at the repeat's own number, before what stands in it
    ∷ checked (whole (nested 5 (swings 1))) (refuse 42 5)
    ∷ checked (whole (times 2 (nested 3 (swings 1) ++ nested 4 (swings 1)) ∷ [])) (refuse 42 10)
    ∷ checked (whole (nested 5 ((7 ∷ []) ∷ []))) (refuse 42 5)
    ∷ checked (whole (nested 4 ((9 ∷ 1 ∷ 1 ∷ []) ∷ []))) (refuse 42 5)
    -- "tested after both": the 44, and the 7, of each of its two bytes
    ∷ checked (whole (nested 4 ((9 ∷ []) ∷ []))) (refuse 7 0)
    ∷ checked (whole (nested 4 ((9 ∷ 0 ∷ []) ∷ []))) (refuse 44 5)
    ∷ checked (whole (nested 4 ((9 ∷ 1 ∷ []) ∷ []))) (refuse 7 0)
    ∷ checked (whole (nested 4 ((9 ∷ 1 ∷ 0 ∷ []) ∷ []))) (refuse 44 5)
    -- "A count or number of 0 is 44, judged when its byte is read": a byte that is not there is 7, and 44 of the count comes before 7 of the number
    ∷ checked (whole ((9 ∷ []) ∷ [])) (refuse 7 0)
    ∷ checked (whole ((9 ∷ 0 ∷ []) ∷ [])) (refuse 44 1)
    ∷ checked (whole ((9 ∷ 1 ∷ []) ∷ [])) (refuse 7 0)
    ∷ checked (whole ((9 ∷ 1 ∷ 0 ∷ []) ∷ [])) (refuse 44 1)
    ∷ checked (whole (times 1 (slice ∷ (9 ∷ 0 ∷ []) ∷ []) ∷ [])) (refuse 44 3)
    -- "a byte with the number of inner steps": 7 where there are fewer, and those after them are not inside
    ∷ checked (whole ((9 ∷ 1 ∷ 1 ∷ []) ∷ [])) (refuse 7 0)
    ∷ checked (whole ((9 ∷ 1 ∷ 3 ∷ slice ++ gather) ∷ [])) (refuse 7 0)
    ∷ checked (whole ((9 ∷ 2 ∷ 1 ∷ slice ++ gather) ∷ [])) (refuse 41 1)
    -- "Step kind 9 is a repeat": no other is
    ∷ checked (whole ((8 ∷ 2 ∷ 2 ∷ slice ++ gather) ∷ [])) (refuse 20 1)
    ∷ checked (whole ((10 ∷ 2 ∷ 2 ∷ slice ++ gather) ∷ [])) (refuse 20 1)
    -- "Inner steps are then read and judged in order.": each at its own number, from the sharding that the one before it left, before the next is
    -- read, and before 41
    ∷ checked (whole (times 1 (slice ∷ (6 ∷ []) ∷ []) ∷ [])) (refuse 20 3)
    ∷ checked (whole (times 1 (slice ∷ (1 ∷ 0 ∷ []) ∷ []) ∷ [])) (refuse 21 3)
    ∷ checked (whole (times 1 (slice ∷ (1 ∷ 1 ∷ 1 ∷ []) ∷ []) ∷ [])) (refuse 22 3)
    ∷ checked (whole (times 1 (slice ∷ slice ∷ []) ∷ [])) (refuse 23 3)
    ∷ checked (whole (times 1 (gather ∷ (6 ∷ []) ∷ []) ∷ [])) (refuse 24 2)
    ∷ checked (on2x2 (2 ∷ []) ([] ∷ [] ∷ []) (times 1 (slice ∷ (1 ∷ 1 ∷ 1 ∷ []) ∷ []))) (refuse 25 3)
    ∷ checked (on2x2 (2 ∷ []) ([] ∷ (0 ∷ 1 ∷ []) ∷ []) (times 1 (reduce ∷ (3 ∷ 2 ∷ 1 ∷ 0 ∷ []) ∷ []))) (refuse 26 3)
    ∷ checked (whole (times 1 (slice ∷ reduce ∷ []) ∷ [])) (refuse 27 3)
    ∷ checked (whole (times 1 (slice ∷ (4 ∷ 0 ∷ 0 ∷ 1 ∷ 0 ∷ []) ∷ []) ∷ [])) (refuse 28 3)
    ∷ checked (whole (times 1 (slice ∷ (2 ∷ 2 ∷ []) ∷ []) ∷ [])) (refuse 8 0)
    -- "The sharding after the block must equal the one before it, list for list, else 41": a dimension's list; the order of one; the unreduced list
    -- alone; the second dimension's list
    ∷ checked (whole (times 1 (slice ∷ []) ∷ [])) (refuse 41 1)
    ∷ checked (quarters (times 1 ((2 ∷ 2 ∷ 0 ∷ 1 ∷ []) ∷ (1 ∷ 2 ∷ 1 ∷ 0 ∷ []) ∷ []) ∷ [])) (refuse 41 1)
    ∷ checked (parts (times 1 (reduce ∷ []) ∷ [])) (refuse 41 1)
    ∷ checked (square (times 1 (slice_rows ∷ gather_rows ∷ slice_columns ∷ []) ∷ [])) (refuse 41 1)
    -- "41 at the repeat's number": of an inner one, though the outer block comes back; of a later one
    ∷ checked (whole (times 1 (times 1 (slice ∷ []) ∷ gather ∷ []) ∷ [])) (refuse 41 2)
    ∷ checked (whole (slice ∷ times 1 (gather ∷ slice ∷ []) ∷ times 1 (gather ∷ []) ∷ [])) (refuse 41 5)
    -- "More than 4,096 plain steps run in all is 43, tested after 41 for the repeat alone": at the number of an inner one that runs 4,097; for what it
    -- runs itself, not for its count or its number; 41 first
    ∷ checked (square (times 1 (times 241 (slice_rows ∷ to_columns ∷ gather_columns ∷ flat (replicate 7 (slice_rows ∷ gather_rows ∷ []))) ∷ []) ∷ [])) (refuse 43 2)
    ∷ checked (whole (times 1 (times 255 (times 9 (swings 1) ∷ []) ∷ []) ∷ [])) (refuse 43 2)
    ∷ checked (whole (times 2 (full ∷ []) ∷ [])) (refuse 43 1)
    ∷ checked (whole (times 255 (swings 8 ++ slice ∷ []) ∷ [])) (refuse 41 1)
    -- "and after each outermost step for the plan so far", where 43 has "the outermost step's" number: of a plain step; of a repeat, also where one
    -- inside it goes past 4,096; after the step's own refusals, and before the next step's
    ∷ checked (whole (nearly_full ∷ sixteen ∷ slice ∷ [])) (refuse 43 21)
    ∷ checked (whole (full ∷ times 1 (swings 1) ∷ [])) (refuse 43 5)
    ∷ checked (whole (nearly_full ∷ times 1 (times 9 (swings 1) ∷ []) ∷ [])) (refuse 43 18)
    ∷ checked (whole (full ∷ (1 ∷ 0 ∷ []) ∷ [])) (refuse 21 5)
    ∷ checked (whole (full ∷ times 1 (slice ∷ []) ∷ [])) (refuse 41 5)
    ∷ checked (whole (full ∷ slice ∷ (6 ∷ []) ∷ [])) (refuse 43 5)
    -- "Step numbers count kind bytes in file order": after a repeat with another inside, outermost and inside a block
    ∷ checked (whole (times 2 (slice ∷ times 2 (gather ∷ slice ∷ []) ∷ gather ∷ []) ∷ (1 ∷ 0 ∷ []) ∷ [])) (refuse 21 7)
    ∷ checked (whole (times 1 (times 3 (swings 1) ∷ (1 ∷ 0 ∷ []) ∷ []) ∷ [])) (refuse 21 5)
    ∷ checked (whole (slice ∷ (9 ∷ 2 ∷ 0 ∷ []) ∷ [])) (refuse 44 2)
    -- "State numbers and the header's step count still count outermost steps."
    ∷ placed (whole (times 2 (swings 1) ∷ slice ∷ [])) 0 1 (found ([] ∷ []) [] (2 ∷ []) (0 ∷ []))
    ∷ placed (whole (times 2 (swings 1) ∷ slice ∷ [])) 1 1 (found ([] ∷ []) [] (2 ∷ []) (0 ∷ []))
    ∷ placed (whole (times 2 (swings 1) ∷ slice ∷ [])) 2 1 (found ((0 ∷ []) ∷ []) [] (1 ∷ []) (1 ∷ []))
    ∷ placed (whole (times 2 (swings 1) ∷ slice ∷ [])) 3 1 (refuse 34 0)
    ∷ placed mixed 1 1 (found ((0 ∷ []) ∷ []) [] (1 ∷ []) (1 ∷ []))
    ∷ placed mixed 2 1 (found ((0 ∷ []) ∷ []) [] (1 ∷ []) (1 ∷ []))
    ∷ placed mixed 3 1 (found ([] ∷ []) [] (2 ∷ []) (0 ∷ []))
    ∷ placed mixed 4 1 (refuse 34 0)
    ∷ placed (whole (times 1 (slice ∷ []) ∷ [])) 9 9 (refuse 41 1)
    ∷ checked (set (whole (times 2 (swings 1) ∷ slice ∷ [])) 6 1) (refuse 9 0)
    ∷ checked (set (whole (times 2 (swings 1) ∷ slice ∷ [])) 6 4) (refuse 7 0)
    -- "The room counts states inside blocks.": none outside has as many words; of an inner block; the third state of a block, where the plan has two
    ∷ checked (halves (times 1 (gather ∷ slice ∷ []) ∷ [])) (passed 4 2 1 2 ((0 ∷ []) ∷ []) [] (1 ∷ []))
    ∷ checked (halves (times 3 (times 2 (gather ∷ slice ∷ []) ∷ []) ∷ [])) (passed 4 2 1 12 ((0 ∷ []) ∷ []) [] (1 ∷ []))
    ∷ checked (quarters (times 2 ((2 ∷ 1 ∷ 1 ∷ []) ∷ (1 ∷ 1 ∷ 1 ∷ []) ∷ (2 ∷ 2 ∷ 0 ∷ 1 ∷ []) ∷ (1 ∷ 2 ∷ 0 ∷ 1 ∷ []) ∷ []) ∷ []))
    (passed 16 4 1 32 ((0 ∷ 1 ∷ []) ∷ []) [] (1 ∷ []))
    ∷ refused_run (halves (times 1 (gather ∷ slice ∷ []) ∷ [])) 3 4 30 0
    ∷ refused_run (halves (times 1 (gather ∷ slice ∷ []) ∷ [])) 4 3 31 0
    ∷ refused_run (whole (times 1 (slice ∷ []) ∷ [])) 4 4 41 1
    ∷ leaves (halves (times 1 (gather ∷ slice ∷ []) ∷ [])) 4 2 (5 ∷ 6 ∷ []) (5 ∷ 6 ∷ [])
    -- "Demand 3 holds after every plain step run", and the words are fixed for unfaithful buffers as well. Each device begins with words of its own: a
    -- block of three steps, run once, twice and three times
    ∷ leaves (square (times 1 (slice_rows ∷ to_columns ∷ gather_columns ∷ []) ∷ [])) 8 6 (tab 8 (λ k. k + 1)) (1 ∷ 2 ∷ 7 ∷ 8 ∷ 1 ∷ 2 ∷ 7 ∷ 8 ∷ [])
    ∷ leaves (square (times 2 (slice_rows ∷ to_columns ∷ gather_columns ∷ []) ∷ [])) 8 12 (tab 8 (λ k. k + 1)) (1 ∷ 2 ∷ 7 ∷ 8 ∷ 1 ∷ 2 ∷ 7 ∷ 8 ∷ [])
    ∷ leaves (square (times 3 (slice_rows ∷ to_columns ∷ gather_columns ∷ []) ∷ [])) 8 18 (tab 8 (λ k. k + 1)) (1 ∷ 2 ∷ 7 ∷ 8 ∷ 1 ∷ 2 ∷ 7 ∷ 8 ∷ [])
    -- "its list is these steps in running order": the first to slice decides on the words, inside a repeat or after it; steps before and after a block
    ∷ leaves (square (times 2 (times 3 (slice_rows ∷ gather_rows ∷ []) ∷ slice_columns ∷ gather_columns ∷ []) ∷ [])) 8 32 (tab 8 (λ k. k + 1))
    (1 ∷ 2 ∷ 7 ∷ 8 ∷ 1 ∷ 2 ∷ 7 ∷ 8 ∷ [])
    ∷ leaves (square (times 2 (slice_columns ∷ gather_columns ∷ times 3 (slice_rows ∷ gather_rows ∷ []) ∷ []) ∷ [])) 8 32 (tab 8 (λ k. k + 1))
    (1 ∷ 6 ∷ 3 ∷ 8 ∷ 1 ∷ 6 ∷ 3 ∷ 8 ∷ [])
    ∷ leaves (square (slice_rows ∷ times 3 (to_columns ∷ to_rows ∷ []) ∷ to_columns ∷ [])) 8 14 (tab 8 (λ k. k + 1)) (1 ∷ 7 ∷ 2 ∷ 8 ∷ [])
    ∷ leaves mixed 4 18 (1 ∷ 2 ∷ 3 ∷ 4 ∷ []) (1 ∷ 4 ∷ 1 ∷ 4 ∷ [])
    ∷ leaves (file_of (2 ∷ 2 ∷ []) (2 ∷ []) ([] ∷ (0 ∷ []) ∷ []) (times 3 ((1 ∷ 1 ∷ 1 ∷ []) ∷ (2 ∷ 1 ∷ 1 ∷ []) ∷ []) ∷ reduce ∷ [])) 8 20
    (tab 8 (λ k. k + 1)) (6 ∷ 12 ∷ 6 ∷ 12 ∷ 6 ∷ 12 ∷ 6 ∷ 12 ∷ [])
    -- in files of editions 2 and 3: no step changes the replicated list, so a block comes back under one; 23 of its axis and 41 of the unreduced list
    -- stay; shards lie by device number
    ∷ checked (second [] (0 ∷ []) (1 ∷ []) (reduce ∷ times 2 (swings 1) ∷ [])) (passed2x2 16 2 32 (sharding_of [] [] (1 ∷ [])) 4)
    ∷ checked (second [] (0 ∷ []) (1 ∷ []) (reduce ∷ times 2 (slice ∷ (1 ∷ 1 ∷ 1 ∷ []) ∷ []) ∷ [])) (refuse 23 4)
    ∷ checked (second [] (0 ∷ []) (1 ∷ []) (times 1 (reduce ∷ []) ∷ [])) (refuse 41 1)
    ∷ checked (third [] [] (times 2 (swings 1) ∷ [])) (passed 16 4 1 16 ([] ∷ []) [] (4 ∷ []))
    ∷ leaves (third [] [] (times 2 (slice ∷ (1 ∷ 1 ∷ 1 ∷ []) ∷ (2 ∷ 2 ∷ 0 ∷ 1 ∷ []) ∷ []) ∷ [])) 16 24 (tab 16 (λ k. k + 1)) (
    9 ∷ 2 ∷ 15 ∷ 8 ∷ 9 ∷ 2 ∷ 15 ∷ 8 ∷ 9 ∷ 2 ∷ 15 ∷ 8 ∷ 9 ∷ 2 ∷ 15 ∷ 8 ∷ []
    )
    ∷ []

-- ---- what is read

-- slice and gather along axis 0
abbrev pub slices : Step
slices = all_slice ((0 ∷ []) ∷ [])

abbrev pub gathers : Step
gathers = all_gather ((0 ∷ []) ∷ [])

-- how many plain steps each outermost step of a file runs
abbrev pub runs_of : (file : List ℕ) → Judged (List ℕ)
runs_of file = ◌>>=◌ (judge file) (λ p. accept p.runs)

pub record RepeatsRead : Type 0 where
  -- "Step kind 9 is a repeat": no byte above it is one
  pub unknown : tab 246 (λ i. check_of (whole (((i + 10) ∷ 2 ∷ 2 ∷ slice ++ gather) ∷ []))) ≡ replicate 246 (refuse 20 1)
  -- a byte's most inner steps are judged, from the number after the repeat's on
  pub most_inner : repeat_at (λ number k at s. refuse number k) (1 ∷ 255 ∷ []) 1 0 (sharding_of [] [] []) ≡ refuse 255 2
  -- the reader with document 01's limits knows repeats and orders
  pub original_reads : judge_by original mixed ≡ judge mixed
  pub original_orders : judge_by original (third [] [] (times 2 (swings 1) ∷ [])) ≡ judge (third [] [] (times 2 (swings 1) ∷ []))
  -- a record for each kind byte, in file order; the plain steps in running order; how many of them each outermost step runs
  pub mixed_read : judge mixed ≡ accept (record {
    mesh = 2 ∷ [];
    order = 0 ∷ 1 ∷ [];
    sizes = 2 ∷ [];
    start = sharding_of [] [] [];
    records = plain slices
        ∷ repeat 2 3 ∷ plain gathers ∷ repeat 3 2 ∷ plain slices ∷ plain gathers ∷ plain slices
        ∷ plain gathers ∷ [];
    steps = slices
        ∷ gathers ∷ slices ∷ gathers ∷ slices ∷ gathers ∷ slices ∷ gathers ∷ slices
        ∷ gathers ∷ slices ∷ gathers ∷ slices ∷ gathers ∷ slices ∷ gathers ∷ slices
        ∷ gathers ∷ [];
    runs = 1 ∷ 16 ∷ 1 ∷ [];
  })
  -- 4,096 plain steps pass, of one repeat alone and of the plan; what a repeat runs has no kind bytes of repeats in it
  pub alone : runs_of (whole (full ∷ [])) ≡ accept (4096 ∷ [])
  pub so_far : runs_of (whole (nearly_full ∷ sixteen ∷ [])) ≡ accept (4080 ∷ 16 ∷ [])
  pub plain_ones : runs_of (whole (times 255 (times 1 (swings 8) ∷ []) ∷ [])) ≡ accept (4080 ∷ [])
  -- "list for list": each of the three; no accepted step changes the last
  pub of_dims : same_sharding (sharding_of (0 ∷ []) [] []) (sharding_of [] [] []) ≡ false
  pub of_unreduced : same_sharding (sharding_of [] (0 ∷ []) []) (sharding_of [] [] []) ≡ false
  pub of_replicated : same_sharding (sharding_of [] [] (0 ∷ [])) (sharding_of [] [] []) ≡ false
  pub of_none : same_sharding (sharding_of (0 ∷ []) (1 ∷ []) (2 ∷ [])) (sharding_of (0 ∷ []) (1 ∷ []) (2 ∷ [])) ≡ true
  -- "On an accepted file with a repeat, the reader just before this answers 20 at the first one."
  pub before : judge_by without_repeats mixed ≡ refuse 20 2
  pub without : judge_by without_repeats (whole (slice ∷ [])) ≡ accept (record {
    mesh = 2 ∷ [];
    order = 0 ∷ 1 ∷ [];
    sizes = 2 ∷ [];
    start = sharding_of [] [] [];
    records = plain slices ∷ [];
    steps = slices ∷ [];
    runs = 1 ∷ [];
  })
