-- Document 02, Ask 5: files with reduce-scatters, as one table in the form of the ledger; and what such a file is read as, in which order its words are
-- added, and what the reader just before kind 5 answers. Assumes nothing.
use Rattle.std.specs.Prelude.{ℕ, ◌+◌, ◌≡◌, List, [], ◌∷◌, map, replicate}
use Rattle.rules.specs.Lists.{tab}
use Rattle.rules.specs.Collectives.{Place, reduce_scatter, sources}
use Rattle.rules.specs.Refusals.{accept, refuse}
use Rattle.rules.specs.PlanFile.{plain, judge, judge_by}
use Rattle.rules.specs.Calls.{check_of}
use Rattle.rules.specs.Limits.{without_repeats, without_scatters}
use Rattle.rules.specs.Ledger.{Case, checked, placed, file_of, on2x2, passed, found, leaves}
use Rattle.rules.specs.WorkedRefusals.{one, whole, parts, half, refused_run}
use Rattle.rules.specs.WorkedEditions.{second, sharding_of}
use Rattle.rules.specs.WorkedOrders.{third}
use Rattle.rules.specs.WorkedRepeats.{times, mixed, gather, parts as two_parts}

-- ---- files

-- reduce-scatter along axis 0, of a table of one dimension; mesh 2, table of 4, unreduced [0], with the steps given: the picture of 000
abbrev pub scatter : List ℕ
scatter = 5 ∷ 1 ∷ 0 ∷ []

abbrev pub picture : List (List ℕ) → List ℕ
picture steps = file_of (2 ∷ []) (4 ∷ []) ([] ∷ (0 ∷ []) ∷ []) steps

-- mesh 2x2, table 4x3, axis 0 unreduced; and all unreduced, with a step after a reduction of axis 0
abbrev pub first_owed : List (List ℕ)
first_owed = [] ∷ [] ∷ (0 ∷ []) ∷ []

abbrev pub after : List ℕ → List ℕ
after step = file_of (2 ∷ 2 ∷ []) (4 ∷ 3 ∷ []) parts ((3 ∷ 1 ∷ 0 ∷ []) ∷ step ∷ [])

abbrev pub scatters : List Case
scatters =
    -- "we go by the picture, where 1 2 3 4 and 5 6 7 8 become 6 8 and 10 12"; "the room doesn't count the state between"
    leaves (picture (scatter ∷ [])) 8 4 (tab 8 (λ k. k + 1)) (6 ∷ 8 ∷ 10 ∷ 12 ∷ [])
    ∷ checked (picture (scatter ∷ [])) (passed 8 2 1 4 ((0 ∷ []) ∷ []) [] (2 ∷ []))
    ∷ placed (picture (scatter ∷ [])) 1 1 (found ((0 ∷ []) ∷ []) [] (2 ∷ []) (2 ∷ []))
    ∷ refused_run (picture (scatter ∷ [])) 7 8 30 0
    ∷ refused_run (picture (scatter ∷ [])) 8 7 31 0
    -- a sum past 2^32; gathered again, it is an all-reduce
    ∷ leaves (two_parts (scatter ∷ [])) 4 2 (4294967295 ∷ 1 ∷ 2 ∷ 3 ∷ []) (1 ∷ 4 ∷ [])
    ∷ leaves (picture (scatter ∷ gather ∷ [])) 8 8 (tab 8 (λ k. k + 1)) (6 ∷ 8 ∷ 10 ∷ 12 ∷ 6 ∷ 8 ∷ 10 ∷ 12 ∷ [])
    -- 000's own: mesh 2x2, a table of rank 2 split along axis 0
    ∷ leaves (on2x2 (4 ∷ 2 ∷ []) ((0 ∷ []) ∷ [] ∷ (1 ∷ []) ∷ []) (5 ∷ 1 ∷ 1 ∷ 0 ∷ [])) 16 8 (tab 16 (λ k. k + 1)) (6 ∷ 8 ∷ 10 ∷ 12 ∷ 22 ∷ 24 ∷ 26 ∷ 28 ∷ [])
    -- the words are fixed for unfaithful buffers as well: axis 1 is replicated, and devices along it hold unequal words
    ∷ leaves (on2x2 (2 ∷ []) ([] ∷ (0 ∷ []) ∷ []) scatter) 8 4 (tab 8 (λ k. k + 1)) (6 ∷ 10 ∷ 8 ∷ 12 ∷ [])
    -- "then the all-slice with the step's lists": in their order, one per dimension
    ∷ leaves (on2x2 (4 ∷ []) ([] ∷ (0 ∷ 1 ∷ []) ∷ []) (5 ∷ 2 ∷ 1 ∷ 0 ∷ [])) 16 12 (tab 16 (λ k. k + 1)) (28 ∷ 36 ∷ 32 ∷ 40 ∷ [])
    ∷ leaves (on2x2 (2 ∷ 2 ∷ []) ([] ∷ [] ∷ (0 ∷ 1 ∷ []) ∷ []) (5 ∷ 1 ∷ 1 ∷ 1 ∷ 0 ∷ [])) 16 12 (tab 16 (λ k. k + 1)) (28 ∷ 36 ∷ 32 ∷ 40 ∷ [])
    -- "It leaves the unreduced list and joins the end of its dimension's list.": in the step's order, behind what is there, and the others stay
    ∷ checked (on2x2 (4 ∷ []) ([] ∷ (0 ∷ 1 ∷ []) ∷ []) (5 ∷ 2 ∷ 1 ∷ 0 ∷ [])) (passed 16 4 1 12 ((1 ∷ 0 ∷ []) ∷ []) [] (1 ∷ []))
    ∷ checked (on2x2 (4 ∷ []) ((1 ∷ []) ∷ (0 ∷ []) ∷ []) scatter) (passed 8 4 1 4 ((1 ∷ 0 ∷ []) ∷ []) [] (1 ∷ []))
    ∷ leaves (on2x2 (4 ∷ []) ((1 ∷ []) ∷ (0 ∷ []) ∷ []) scatter) 8 4 (tab 8 (λ k. k + 1)) (6 ∷ 10 ∷ 8 ∷ 12 ∷ [])
    ∷ checked (file_of (2 ∷ 2 ∷ 2 ∷ []) (2 ∷ []) ([] ∷ (0 ∷ 1 ∷ 2 ∷ []) ∷ []) ((5 ∷ 1 ∷ 1 ∷ []) ∷ [])) (passed 16 8 1 8 ((1 ∷ []) ∷ []) (0 ∷ 2 ∷ []) (1 ∷ []))
    -- what is left for the next step: another unreduced axis, the end of the list, the replicated list
    ∷ checked (file_of (2 ∷ 2 ∷ []) (4 ∷ []) ([] ∷ (0 ∷ 1 ∷ []) ∷ []) ((5 ∷ 1 ∷ 1 ∷ []) ∷ scatter ∷ [])) (passed 16 4 2 12 ((1 ∷ 0 ∷ []) ∷ []) [] (1 ∷ []))
    ∷ checked (file_of (2 ∷ 2 ∷ []) (4 ∷ []) ((1 ∷ []) ∷ (0 ∷ []) ∷ []) (scatter ∷ (2 ∷ 1 ∷ 0 ∷ []) ∷ [])) (passed 8 4 2 8 ((1 ∷ []) ∷ []) [] (2 ∷ []))
    ∷ checked (second [] (0 ∷ []) (1 ∷ []) (scatter ∷ (1 ∷ 1 ∷ 1 ∷ []) ∷ [])) (refuse 23 2)
    -- a table of rank 4: every list counts, in the words, in 23 and in 27
    ∷ leaves (on2x2 (1 ∷ 1 ∷ 2 ∷ 2 ∷ []) ([] ∷ [] ∷ [] ∷ [] ∷ (0 ∷ 1 ∷ []) ∷ []) (5 ∷ 0 ∷ 0 ∷ 1 ∷ 1 ∷ 1 ∷ 0 ∷ [])) 16 12 (tab 16 (λ k. k + 1))
    (28 ∷ 36 ∷ 32 ∷ 40 ∷ [])
    ∷ checked (on2x2 (1 ∷ 1 ∷ 2 ∷ 2 ∷ []) ([] ∷ [] ∷ [] ∷ [] ∷ (0 ∷ 1 ∷ []) ∷ []) (5 ∷ 0 ∷ 0 ∷ 1 ∷ 0 ∷ 1 ∷ 0 ∷ [])) (refuse 23 1)
    ∷ checked (on2x2 (1 ∷ 1 ∷ 2 ∷ 2 ∷ []) ([] ∷ [] ∷ [] ∷ [] ∷ (0 ∷ []) ∷ []) (5 ∷ 0 ∷ 0 ∷ 1 ∷ 0 ∷ 1 ∷ 1 ∷ [])) (refuse 27 1)
    -- an axis of size 1 is an axis like any other
    ∷ checked (file_of (1 ∷ 2 ∷ []) (4 ∷ []) ([] ∷ (1 ∷ []) ∷ []) (scatter ∷ [])) (refuse 27 1)
    ∷ checked (file_of (1 ∷ 2 ∷ []) (4 ∷ []) ([] ∷ (0 ∷ 1 ∷ []) ∷ []) ((5 ∷ 2 ∷ 0 ∷ 0 ∷ []) ∷ [])) (refuse 23 1)
    -- the bytes of its lists, then 21 and 22 over all of them, 22 before 23
    ∷ checked (one parts (5 ∷ 1 ∷ 0 ∷ [])) (refuse 7 0)
    ∷ checked (one parts (5 ∷ 3 ∷ [])) (refuse 8 0)
    ∷ checked (one parts (5 ∷ 0 ∷ 0 ∷ [])) (refuse 21 1)
    ∷ checked (one parts (5 ∷ 1 ∷ 0 ∷ 1 ∷ 2 ∷ [])) (refuse 22 1)
    ∷ checked (one parts (5 ∷ 2 ∷ 2 ∷ 2 ∷ 0 ∷ [])) (refuse 22 1)
    -- "Each axis must be named once in the step (23": in one list, in two; "tested over the whole step first)": before the 27 of an axis ahead of it
    ∷ checked (one parts (5 ∷ 2 ∷ 0 ∷ 0 ∷ 0 ∷ [])) (refuse 23 1)
    ∷ checked (one parts (5 ∷ 1 ∷ 0 ∷ 1 ∷ 0 ∷ [])) (refuse 23 1)
    ∷ checked (one whole (5 ∷ 2 ∷ 0 ∷ 0 ∷ 0 ∷ [])) (refuse 23 1)
    ∷ checked (one first_owed (5 ∷ 1 ∷ 1 ∷ 2 ∷ 0 ∷ 0 ∷ [])) (refuse 23 1)
    ∷ checked (one parts (5 ∷ 0 ∷ 2 ∷ 0 ∷ 0 ∷ [])) (refuse 23 1)
    ∷ checked (one parts (5 ∷ 2 ∷ 0 ∷ 1 ∷ 1 ∷ 0 ∷ [])) (refuse 23 1)
    -- "and be unreduced (27, in file order": an axis that nothing names, one that splits a dimension, an explicitly replicated one; in any of the lists
    ∷ checked (one whole (5 ∷ 1 ∷ 0 ∷ 0 ∷ [])) (refuse 27 1)
    ∷ checked (one half (5 ∷ 1 ∷ 0 ∷ 0 ∷ [])) (refuse 27 1)
    ∷ checked (second [] (0 ∷ []) (1 ∷ []) ((5 ∷ 1 ∷ 1 ∷ []) ∷ [])) (refuse 27 1)
    ∷ checked (one first_owed (5 ∷ 1 ∷ 0 ∷ 1 ∷ 1 ∷ [])) (refuse 27 1)
    -- "then 25)": 27 goes before it; the present shard size, not the whole dimension
    ∷ checked (one whole (5 ∷ 0 ∷ 1 ∷ 0 ∷ [])) (refuse 27 1)
    ∷ checked (one parts (5 ∷ 0 ∷ 1 ∷ 0 ∷ [])) (refuse 25 1)
    ∷ checked (on2x2 (2 ∷ []) ((1 ∷ []) ∷ (0 ∷ []) ∷ []) scatter) (refuse 25 1)
    ∷ checked (on2x2 (2 ∷ []) ([] ∷ (0 ∷ 1 ∷ []) ∷ []) (5 ∷ 2 ∷ 0 ∷ 1 ∷ [])) (refuse 25 1)
    -- in a second step; the axes of one are unreduced no more
    ∷ checked (after (5 ∷ 0 ∷ 0 ∷ [])) (refuse 21 2)
    ∷ checked (after (5 ∷ 1 ∷ 2 ∷ 0 ∷ [])) (refuse 22 2)
    ∷ checked (after (5 ∷ 2 ∷ 1 ∷ 1 ∷ 0 ∷ [])) (refuse 23 2)
    ∷ checked (after (5 ∷ 1 ∷ 0 ∷ 0 ∷ [])) (refuse 27 2)
    ∷ checked (after (5 ∷ 0 ∷ 1 ∷ 1 ∷ [])) (refuse 25 2)
    ∷ checked (after (5 ∷ 1 ∷ 1 ∷ 0 ∷ [])) (passed 48 4 2 72 ((1 ∷ []) ∷ [] ∷ []) [] (2 ∷ 3 ∷ []))
    ∷ checked (picture (scatter ∷ scatter ∷ [])) (refuse 27 2)
    ∷ checked (picture (scatter ∷ (3 ∷ 1 ∷ 0 ∷ []) ∷ [])) (refuse 27 2)
    -- inside a repeat nothing makes the axis unreduced again
    ∷ checked (two_parts (times 1 (scatter ∷ gather ∷ []) ∷ [])) (refuse 41 1)
    -- in files of editions 2 and 3: the replicated list stays, and shards lie by device number
    ∷ checked (second [] (0 ∷ []) (1 ∷ []) (scatter ∷ []))
    (accept (record { room = 16; devices = 4; steps = 1; rank = 1; sharding = sharding_of (0 ∷ []) [] (1 ∷ []); shard = 2 ∷ []; moved = 8 }))
    ∷ leaves (third [] (0 ∷ []) (scatter ∷ [])) 16 8 (tab 16 (λ k. k + 1)) (6 ∷ 8 ∷ 10 ∷ 12 ∷ 22 ∷ 24 ∷ 26 ∷ 28 ∷ [])
    ∷ []

-- ---- what is read

pub record ScattersRead : Type 0 where
  -- "Kind 5": the bytes up to the repeat's are still no kind
  pub unknown : tab 3 (λ i. check_of (picture (((i + 6) ∷ 1 ∷ 0 ∷ []) ∷ []))) ≡ replicate 3 (refuse 20 1)
  pub read : judge (picture (scatter ∷ [])) ≡ accept (record {
    mesh = 2 ∷ [];
    order = 0 ∷ 1 ∷ [];
    sizes = 4 ∷ [];
    start = sharding_of [] (0 ∷ []) [];
    records = plain (reduce_scatter ((0 ∷ []) ∷ [])) ∷ [];
    steps = reduce_scatter ((0 ∷ []) ∷ []) ∷ [];
    runs = 1 ∷ [];
  })
  -- "an all-reduce over all the step's axes in increasing order": a word of device (0, 1), the third of the sums, is made of these devices' in turn
  pub in_increasing_order :
      map (λ (p : Place). p.device) (sources (2 ∷ 2 ∷ []) (reduce_scatter ((1 ∷ 0 ∷ []) ∷ [])) (4 ∷ []) (0 ∷ 1 ∷ []) (0 ∷ []))
      ≡ (0 ∷ 0 ∷ []) ∷ (0 ∷ 1 ∷ []) ∷ (1 ∷ 0 ∷ []) ∷ (1 ∷ 1 ∷ []) ∷ []
  -- the reader just before answers 20 at the first step of kind 5, and reads the rest; so does the reader just before repeats, of its own
  pub before : judge_by without_scatters (picture (scatter ∷ gather ∷ [])) ≡ refuse 20 1
  pub before_second : judge_by without_scatters (after (5 ∷ 1 ∷ 1 ∷ 0 ∷ [])) ≡ refuse 20 2
  pub before_reads : judge_by without_scatters mixed ≡ judge mixed
  pub without_repeats_same : judge_by without_repeats (picture (scatter ∷ [])) ≡ judge (picture (scatter ∷ []))
