-- Document 02, Ask 3: files of edition 2, whose sharding names axes that must stay replicated, as one table in the form of the ledger; what the
-- reader of edition 1 answers; and what is no faithful spread and no sharding for the sake of such axes. Assumes nothing.
use Rattle.std.specs.Prelude.{ℕ, ◌+◌, ◌≡◌, List, [], ◌∷◌, set, take}
use Rattle.rules.specs.Lists.{tab}
use Rattle.rules.specs.Mesh.{number}
use Rattle.rules.specs.Sharding.{Sharding, IsSharding}
use Rattle.rules.specs.Spread.{held, Faithful, add_words}
use Rattle.rules.specs.Refusals.{Judged, accept, refuse}
use Rattle.rules.specs.PlanFile.{judge_by}
use Rattle.rules.specs.Calls.{CheckAnswer, PlaceAnswer}
use Rattle.rules.specs.Limits.{up_to}
use Rattle.rules.specs.Ledger.{Case, checked, placed, file_in, file_of, leaves}

-- ---- files of edition 2

-- mesh 2x2, table of 4, the lists of dimension 0, of unreduced and of replicated axes, and the steps
abbrev pub second : (dim unreduced replicated : List ℕ) → (steps : List (List ℕ)) → List ℕ
second dim unreduced replicated steps = file_in 2 (2 ∷ 2 ∷ []) [] (4 ∷ []) (dim ∷ unreduced ∷ replicated ∷ []) steps

-- mesh 2x2x2x2, table of 3, no steps
abbrev pub wide : (dim unreduced replicated : List ℕ) → List ℕ
wide dim unreduced replicated = file_in 2 (2 ∷ 2 ∷ 2 ∷ 2 ∷ []) [] (3 ∷ []) (dim ∷ unreduced ∷ replicated ∷ []) []

-- Axis 0 unreduced, axis 1 replicated: along axis 0 the dimension is reduced, sliced and gathered again. The sharding is at byte 24, the steps at 29.
abbrev pub there : List ℕ
there = second [] (0 ∷ []) (1 ∷ []) ((3 ∷ 1 ∷ 0 ∷ []) ∷ (1 ∷ 1 ∷ 0 ∷ []) ∷ (2 ∷ 1 ∷ 0 ∷ []) ∷ [])

-- `there` with another byte at a place; and its first bytes, with their number as total length
abbrev pub but : ℕ → ℕ → List ℕ
but at byte = set there at byte

abbrev pub cut_at : ℕ → List ℕ
cut_at n = set (take n there) 16 n

-- ---- answers, of mesh 2x2 and the table of 4

abbrev pub sharding_of : (dim unreduced replicated : List ℕ) → Sharding
sharding_of dim unreduced replicated = record { dims = dim ∷ []; unreduced = unreduced; replicated = replicated }

abbrev pub passed : (room steps moved : ℕ) → Sharding → (words : ℕ) → Judged CheckAnswer
passed room steps moved s words = accept (record { room = room; devices = 4; steps = steps; rank = 1; sharding = s; shard = words ∷ []; moved = moved })

abbrev pub found : Sharding → (words first : ℕ) → Judged PlaceAnswer
found s words first = accept (record { rank = 1; sharding = s; shard = words ∷ []; first = first ∷ [] })

abbrev pub editions : List Case
editions =
    -- the list is the last of the sharding's, and no step changes it: none, a reduction, a slice and a gather
    checked (second (0 ∷ []) [] (1 ∷ []) []) (passed 8 0 0 (sharding_of (0 ∷ []) [] (1 ∷ [])) 2)
    ∷ checked there (passed 16 3 24 (sharding_of [] [] (1 ∷ [])) 4)
    ∷ placed there 0 3 (found (sharding_of [] (0 ∷ []) (1 ∷ [])) 4 0)
    ∷ placed there 1 3 (found (sharding_of [] [] (1 ∷ [])) 4 0)
    ∷ placed there 2 3 (found (sharding_of (0 ∷ []) [] (1 ∷ [])) 2 2)
    ∷ placed there 3 3 (found (sharding_of [] [] (1 ∷ [])) 4 0)
    -- an all-to-all
    ∷ checked (file_in 2 (2 ∷ 2 ∷ []) [] (2 ∷ 2 ∷ []) ((1 ∷ []) ∷ [] ∷ [] ∷ (0 ∷ []) ∷ []) ((4 ∷ 0 ∷ 1 ∷ 1 ∷ 1 ∷ []) ∷ [])) (accept (record {
      room = 8;
      devices = 4;
      steps = 1;
      rank = 2;
      sharding = record { dims = [] ∷ (1 ∷ []) ∷ []; unreduced = []; replicated = 0 ∷ [] };
      shard = 2 ∷ 1 ∷ [];
      moved = 4;
    }))
    -- a list of two axes, through all four kinds of step
    ∷ checked (file_in 2 (2 ∷ 2 ∷ 2 ∷ []) [] (2 ∷ 2 ∷ []) ([] ∷ [] ∷ (0 ∷ []) ∷ (1 ∷ 2 ∷ []) ∷ [])
    ((3 ∷ 1 ∷ 0 ∷ []) ∷ (1 ∷ 1 ∷ 0 ∷ 0 ∷ []) ∷ (4 ∷ 0 ∷ 1 ∷ 1 ∷ 0 ∷ []) ∷ (2 ∷ 0 ∷ 1 ∷ 0 ∷ []) ∷ [])) (accept (record {
      room = 32;
      devices = 8;
      steps = 4;
      rank = 2;
      sharding = record { dims = [] ∷ [] ∷ []; unreduced = []; replicated = 1 ∷ 2 ∷ [] };
      shard = 2 ∷ 2 ∷ [];
      moved = 56;
    }))
    -- the words are those of the same steps in edition 1, equal on the replicated axis or not
    ∷ leaves there 16 24 (tab 16 (λ k. k + 1)) (
    10 ∷ 12 ∷ 14 ∷ 16 ∷ 18 ∷ 20 ∷ 22 ∷ 24 ∷ 10 ∷ 12 ∷ 14 ∷ 16 ∷ 18 ∷ 20 ∷ 22 ∷ 24 ∷ []
    )
    -- "An all-slice on such an axis is 23", before 25, at any axis of the list, and after 22; an all-gather or an all-to-all of one is 24, an
    -- all-reduce 27, after 26
    ∷ checked (second [] [] (1 ∷ []) ((1 ∷ 1 ∷ 1 ∷ []) ∷ [])) (refuse 23 1)
    ∷ checked (second [] [] (1 ∷ []) ((1 ∷ 1 ∷ 0 ∷ []) ∷ (1 ∷ 1 ∷ 1 ∷ []) ∷ [])) (refuse 23 2)
    ∷ checked (file_in 2 (2 ∷ 2 ∷ []) [] (3 ∷ []) ([] ∷ [] ∷ (0 ∷ 1 ∷ []) ∷ []) ((1 ∷ 1 ∷ 1 ∷ []) ∷ [])) (refuse 23 1)
    ∷ checked (second [] [] (1 ∷ []) ((1 ∷ 2 ∷ 1 ∷ 2 ∷ []) ∷ [])) (refuse 22 1)
    ∷ checked (second [] [] (1 ∷ []) ((2 ∷ 1 ∷ 1 ∷ []) ∷ [])) (refuse 24 1)
    ∷ checked (file_in 2 (2 ∷ 2 ∷ []) [] (2 ∷ 2 ∷ []) ([] ∷ [] ∷ [] ∷ (0 ∷ []) ∷ []) ((4 ∷ 0 ∷ 1 ∷ 1 ∷ 0 ∷ []) ∷ [])) (refuse 24 1)
    ∷ checked (second [] (0 ∷ []) (1 ∷ []) ((3 ∷ 2 ∷ 0 ∷ 1 ∷ []) ∷ [])) (refuse 27 1)
    ∷ checked (second [] [] (1 ∷ []) ((3 ∷ 2 ∷ 1 ∷ 0 ∷ []) ∷ [])) (refuse 26 1)
    -- 14, 15 and 16 at one axis before the next, as in the unreduced list and after it; 15 of an axis of a dimension, an unreduced one, and one named
    -- twice, before 16; 16 starts anew at this list; all before 17
    ∷ checked (wide [] (4 ∷ []) (0 ∷ 0 ∷ [])) (refuse 14 0)
    ∷ checked (wide [] (1 ∷ 0 ∷ []) (4 ∷ [])) (refuse 16 0)
    ∷ checked (wide (0 ∷ []) [] (4 ∷ [])) (refuse 14 0)
    ∷ checked (wide (0 ∷ []) [] (0 ∷ 4 ∷ [])) (refuse 15 0)
    ∷ checked (wide [] (2 ∷ []) (2 ∷ 1 ∷ [])) (refuse 15 0)
    ∷ checked (wide [] [] (1 ∷ 1 ∷ [])) (refuse 15 0)
    ∷ checked (wide [] [] (1 ∷ 0 ∷ 4 ∷ [])) (refuse 16 0)
    ∷ checked (wide (1 ∷ []) (2 ∷ []) (3 ∷ 0 ∷ [])) (refuse 16 0)
    ∷ checked (wide [] (3 ∷ []) (1 ∷ 2 ∷ [])) (accept (record {
      room = 48;
      devices = 16;
      steps = 0;
      rank = 1;
      sharding = record { dims = [] ∷ []; unreduced = 3 ∷ []; replicated = 1 ∷ 2 ∷ [] };
      shard = 3 ∷ [];
      moved = 0;
    }))
    -- "an empty one in edition 2 is refused with 18, after 17", and before the first step; a list that is not empty is 17 still
    ∷ checked (wide (0 ∷ []) [] []) (refuse 17 0)
    ∷ checked (wide (0 ∷ []) [] (1 ∷ [])) (refuse 17 0)
    ∷ checked (wide [] (1 ∷ 0 ∷ []) []) (refuse 16 0)
    ∷ checked (second [] [] [] ((9 ∷ []) ∷ [])) (refuse 18 0)
    ∷ checked (second (0 ∷ []) (1 ∷ []) [] []) (refuse 18 0)
    -- its bytes: the steps' offset is where it ends, 6; its count, 7 where there is none, 8 before 7; its axes, 7; all before 14; edition 1
    -- has no such bytes
    ∷ checked (but 14 27) (refuse 6 0)
    ∷ checked (cut_at 27) (refuse 7 0)
    ∷ checked (set (cut_at 28) 27 3) (refuse 8 0)
    ∷ checked (cut_at 28) (refuse 7 0)
    ∷ checked (set (second (2 ∷ []) [] (1 ∷ []) []) 27 3) (refuse 8 0)
    ∷ checked (set (second (2 ∷ []) [] (1 ∷ []) []) 14 0) (refuse 6 0)
    ∷ checked (but 0 1) (refuse 6 0)
    -- "Refusal 3 now means none of 1, 2 and 3."
    ∷ checked (but 0 0) (refuse 3 0)
    ∷ checked (but 0 4) (refuse 3 0)
    ∷ checked (but 1 1) (refuse 3 0)
    ∷ []

-- the reader of edition 1 alone: a file of edition 2, and one of edition 1
abbrev pub FirstEdition : Type 0
FirstEdition =
    (judge_by (up_to 1) there ≡ refuse 3 0)
    × (judge_by (up_to 1) (file_of (2 ∷ []) (4 ∷ []) ([] ∷ [] ∷ []) [])
    ≡ accept (record { mesh = 2 ∷ []; order = 0 ∷ 1 ∷ []; sizes = 4 ∷ []; start = sharding_of [] [] []; records = []; steps = []; runs = [] }))

-- ---- "For demand 3 these axes count as replicated."

-- No faithful spread of any table: on mesh 2, one word a device, each device its own number, where axis 0 is replicated, named as such or not; on mesh
-- 2x2, the words 1, 2, 2, 1, where axis 0 is unreduced and axis 1 replicated. There each sum along axis 0 is 3, but the devices (0, 0) and (0, 1)
-- differ only on axis 1 and hold 1 and 2.
pub record Unequal : Type 0 where
  pub wholes : (replicated : List ℕ) (table : List ℕ → ℕ)
      → ¬ Faithful add_words (2 ∷ []) (sharding_of [] [] replicated) (1 ∷ []) table (λ x i. number (2 ∷ []) x)
  pub parts : (table : List ℕ → ℕ)
      → ¬ Faithful add_words (2 ∷ 2 ∷ []) (sharding_of [] (0 ∷ []) (1 ∷ [])) (1 ∷ []) table (held 0 (2 ∷ 2 ∷ []) (1 ∷ []) (1 ∷ 2 ∷ 2 ∷ 1 ∷ []))

-- ---- the list is of the mesh's axes, "naming no axis named before"

-- No shardings: a dimension's axis that is replicated as well, and a replicated axis that the mesh has not.
pub record NoSharding : Type 0 where
  pub twice : ¬ IsSharding (2 ∷ []) (2 ∷ []) (sharding_of (0 ∷ []) [] (0 ∷ []))
  pub beyond : ¬ IsSharding (2 ∷ []) (1 ∷ []) (sharding_of [] [] (1 ∷ []))
