-- Document 01, "Ledger of worked plans": W1 (the check's answer) to W10 as one table (`ledger`) under one statement (`worked`), of the definitions
-- that the calls' promises cite. A second table in the same form (`beside`) has what the ledger leaves open: words that are no faithful spread, for
-- each kind of step; states that shrink; states between the first and the last. WorkedRefusals.antt has the refusals, WorkedLimits.antt the limits.
-- Assumes nothing.
use Rattle.std.specs.Prelude.{ℕ, ◌+◌, ◌-◌, ◌*◌, ◌/◌, ◌%◌, ◌≡◌, List, [], ◌∷◌, ◌++◌, length, replicate}
use Rattle.rules.specs.Lists.{tab, flat}
use Rattle.rules.specs.Refusals.{Judged, accept, refuse}
use Rattle.rules.specs.Calls.{CheckAnswer, check_of, PlaceAnswer, place_of, groups_of, groups_leave, groups_ordered_of, groups_ordered_leave, Ran, run_of}

-- ---- files

-- 16-bit numbers, and axis lists, as bytes
abbrev pub u16_bytes : List ℕ → List ℕ
u16_bytes [] = []
u16_bytes (n ∷ ns) = n % 256 ∷ n / 256 ∷ u16_bytes ns

abbrev pub list_bytes : List (List ℕ) → List ℕ
list_bytes [] = []
list_bytes (L ∷ Ls) = length L ∷ (L ++ list_bytes Ls)

-- The bytes of the file of an edition that has the mesh, the order of its devices (none where the edition carries no order), the table's sizes, the
-- start's lists (one for each dimension, the unreduced one, and the replicated one where the edition carries it) and the steps, each step as its own
-- bytes. The header follows from these, whatever they are: a file that breaks a rule is made like any other.
unfoldable pub file_in : (edition : ℕ) → (mesh order sizes : List ℕ) → (lists steps : List (List ℕ)) → List ℕ
file_in edition mesh order sizes lists steps =
    let tensorAt = 18 + 2 * length mesh + 2 * length order in
    let sharding_at = tensorAt + 2 * length sizes in
    let steps_at = sharding_at + length (list_bytes lists) in
    let end = steps_at + length (flat steps) in
    u16_bytes (edition ∷ length mesh ∷ length sizes ∷ length steps ∷ 18 ∷ tensorAt ∷ sharding_at ∷ steps_at ∷ end ∷ [])
    ++ u16_bytes mesh
    ++ u16_bytes order
    ++ u16_bytes sizes
    ++ list_bytes lists
    ++ flat steps

-- a file of edition 1
unfoldable pub file_of : (mesh sizes : List ℕ) → (lists steps : List (List ℕ)) → List ℕ
unfolding file_in
file_of mesh sizes lists steps = file_in 1 mesh [] sizes lists steps

-- W1, as 01 prints it
abbrev pub w1 : List ℕ
w1 =
    0x01 ∷ 0x00 ∷ 0x02 ∷ 0x00 ∷ 0x02 ∷ 0x00 ∷ 0x01 ∷ 0x00 ∷ 0x12 ∷ 0x00 ∷ 0x16 ∷ 0x00 ∷ 0x1a ∷ 0x00 ∷ 0x1f ∷ 0x00 ∷ 0x23 ∷ 0x00 ∷ 0x02 ∷ 0x00 ∷ 0x02 ∷ 0x00
    ∷ 0x04 ∷ 0x00 ∷ 0x04 ∷ 0x00 ∷ 0x01 ∷ 0x00 ∷ 0x01 ∷ 0x01 ∷ 0x00 ∷ 0x02 ∷ 0x00 ∷ 0x01 ∷ 0x01 ∷ []

-- W4: mesh 2x2, table of 4, sharding [[1, 0]], with the steps given. The other plans: mesh of one axis, with steps.
abbrev pub w4 : List (List ℕ) → List ℕ
w4 steps = file_of (2 ∷ 2 ∷ []) (4 ∷ []) ((1 ∷ 0 ∷ []) ∷ [] ∷ []) steps

abbrev pub w7 : ℕ → List ℕ → List ℕ
w7 words unreduced = file_of (2 ∷ []) (words ∷ []) ([] ∷ unreduced ∷ []) ((3 ∷ 1 ∷ 0 ∷ []) ∷ [])

abbrev pub w8 : List ℕ
w8 = file_of (2 ∷ []) (2 ∷ 2 ∷ []) ((0 ∷ []) ∷ [] ∷ [] ∷ []) ((4 ∷ 0 ∷ 1 ∷ 1 ∷ 0 ∷ []) ∷ [])

abbrev pub w9 : ℕ → List ℕ
w9 words = file_of (4 ∷ []) (words ∷ []) ((0 ∷ []) ∷ [] ∷ []) []

-- ---- cases

-- What a group listing answers, and what its lent list holds after it.
pub record Listed : Type 0 where
  pub outcome : Judged ℕ
  pub out : List ℕ

abbrev pub listed_of : (mesh axes out : List ℕ) → Listed
listed_of mesh axes out = record { outcome = groups_of mesh axes out; out = groups_leave mesh axes out }

abbrev pub ordered_of : (mesh order axes out : List ℕ) → Listed
ordered_of mesh order axes out = record { outcome = groups_ordered_of mesh order axes out; out = groups_ordered_leave mesh order axes out }

-- A worked call: what it is given, then what it answers and leaves.
pub data Case : Type 0 where
  checked : (file : List ℕ) → Judged CheckAnswer → Case
  placed : (file : List ℕ) → (state device : ℕ) → Judged PlaceAnswer → Case
  listed : (mesh axes out : List ℕ) → Listed → Case
  ordered : (mesh order axes out : List ℕ) → Listed → Case
  ran : (file work spare : List ℕ) → Ran → Case

abbrev pub Holds : Case → Type 0
Holds (checked file a) = check_of file ≡ a
Holds (placed file state device a) = place_of file state device ≡ a
Holds (listed mesh axes out a) = listed_of mesh axes out ≡ a
Holds (ordered mesh order axes out a) = ordered_of mesh order axes out ≡ a
Holds (ran file work spare a) = run_of file work spare ≡ a

-- the check passes, with these answers; the placement finds these
abbrev pub passed : (room devices steps moved : ℕ) → (dims : List (List ℕ)) → (unreduced shard : List ℕ) → Judged CheckAnswer
passed room devices steps moved dims unreduced shard = accept (record {
  room = room;
  devices = devices;
  steps = steps;
  rank = length shard;
  sharding = record { dims = dims; unreduced = unreduced; replicated = [] };
  shard = shard;
  moved = moved;
})

abbrev pub found : (dims : List (List ℕ)) → (unreduced shard first : List ℕ) → Judged PlaceAnswer
found dims unreduced shard first = accept (record {
  rank = length shard;
  sharding = record { dims = dims; unreduced = unreduced; replicated = [] };
  shard = shard;
  first = first;
})

-- lent memory of which nothing is said holds nines
abbrev pub nines : ℕ → List ℕ
nines n = replicate n 9

-- the listing is these groups, and the two entries after it stay
abbrev pub lists_as : (mesh axes : List ℕ) → (groups : List (List ℕ)) → Case
lists_as mesh axes groups =
    listed mesh axes (nines (length (flat groups) + 2)) (record { outcome = accept (length (flat groups)); out = flat groups ++ nines 2 })

-- Work begins with the words given and is two words longer than the room, spare three words. The words left are followed by zeros alone, and all of
-- spare is 0.
abbrev pub leaves : (file : List ℕ) → (room moved : ℕ) → (words left : List ℕ) → Case
leaves file room moved words left =
    ran file (words ++ nines (room + 2 - length words)) (nines (room + 3))
    (record { outcome = accept tt; moved = moved; work = left ++ replicate (room + 2 - length left) 0; spare = replicate (room + 3) 0 })

-- ---- the ledger

abbrev pub ledger : List Case
ledger =
    -- W1; its room is W2's
    checked w1 (passed 32 4 1 16 ((0 ∷ []) ∷ [] ∷ []) [] (2 ∷ 4 ∷ []))
    -- W2
    ∷ leaves w1 32 16 (tab 16 (λ k. k + 1)) (
    1 ∷ 2 ∷ 5 ∷ 6 ∷ 3 ∷ 4 ∷ 7 ∷ 8 ∷ 1 ∷ 2 ∷ 5 ∷ 6 ∷ 3 ∷ 4 ∷ 7 ∷ 8
    ∷ 9 ∷ 10 ∷ 13 ∷ 14 ∷ 11 ∷ 12 ∷ 15 ∷ 16 ∷ 9 ∷ 10 ∷ 13 ∷ 14 ∷ 11 ∷ 12 ∷ 15 ∷ 16 ∷ []
    )
    -- W3: all eight groups of 15
    ∷ lists_as (2 ∷ 3 ∷ 4 ∷ 5 ∷ []) (3 ∷ 1 ∷ []) (
    (0 ∷ 20 ∷ 40 ∷ 1 ∷ 21 ∷ 41 ∷ 2 ∷ 22 ∷ 42 ∷ 3 ∷ 23 ∷ 43 ∷ 4 ∷ 24 ∷ 44 ∷ [])
    ∷ (5 ∷ 25 ∷ 45 ∷ 6 ∷ 26 ∷ 46 ∷ 7 ∷ 27 ∷ 47 ∷ 8 ∷ 28 ∷ 48 ∷ 9 ∷ 29 ∷ 49 ∷ [])
    ∷ (10 ∷ 30 ∷ 50 ∷ 11 ∷ 31 ∷ 51 ∷ 12 ∷ 32 ∷ 52 ∷ 13 ∷ 33 ∷ 53 ∷ 14 ∷ 34 ∷ 54 ∷ [])
    ∷ (15 ∷ 35 ∷ 55 ∷ 16 ∷ 36 ∷ 56 ∷ 17 ∷ 37 ∷ 57 ∷ 18 ∷ 38 ∷ 58 ∷ 19 ∷ 39 ∷ 59 ∷ [])
    ∷ (60 ∷ 80 ∷ 100 ∷ 61 ∷ 81 ∷ 101 ∷ 62 ∷ 82 ∷ 102 ∷ 63 ∷ 83 ∷ 103 ∷ 64 ∷ 84 ∷ 104 ∷ [])
    ∷ (65 ∷ 85 ∷ 105 ∷ 66 ∷ 86 ∷ 106 ∷ 67 ∷ 87 ∷ 107 ∷ 68 ∷ 88 ∷ 108 ∷ 69 ∷ 89 ∷ 109 ∷ [])
    ∷ (70 ∷ 90 ∷ 110 ∷ 71 ∷ 91 ∷ 111 ∷ 72 ∷ 92 ∷ 112 ∷ 73 ∷ 93 ∷ 113 ∷ 74 ∷ 94 ∷ 114 ∷ [])
    ∷ (75 ∷ 95 ∷ 115 ∷ 76 ∷ 96 ∷ 116 ∷ 77 ∷ 97 ∷ 117 ∷ 78 ∷ 98 ∷ 118 ∷ 79 ∷ 99 ∷ 119 ∷ [])
    ∷ []
    )
    -- W4
    ∷ placed (w4 []) 0 0 (found ((1 ∷ 0 ∷ []) ∷ []) [] (1 ∷ []) (0 ∷ []))
    ∷ placed (w4 []) 0 1 (found ((1 ∷ 0 ∷ []) ∷ []) [] (1 ∷ []) (2 ∷ []))
    ∷ placed (w4 []) 0 2 (found ((1 ∷ 0 ∷ []) ∷ []) [] (1 ∷ []) (1 ∷ []))
    ∷ placed (w4 []) 0 3 (found ((1 ∷ 0 ∷ []) ∷ []) [] (1 ∷ []) (3 ∷ []))
    -- W5: gather [1, 0]
    ∷ leaves (w4 ((2 ∷ 2 ∷ 1 ∷ 0 ∷ []) ∷ [])) 16 12 (10 ∷ 30 ∷ 20 ∷ 40 ∷ [])
    (10 ∷ 20 ∷ 30 ∷ 40 ∷ 10 ∷ 20 ∷ 30 ∷ 40 ∷ 10 ∷ 20 ∷ 30 ∷ 40 ∷ 10 ∷ 20 ∷ 30 ∷ 40 ∷ [])
    -- W6: gather [0], and gather [1]
    ∷ leaves (w4 ((2 ∷ 1 ∷ 0 ∷ []) ∷ [])) 8 4 (10 ∷ 30 ∷ 20 ∷ 40 ∷ []) (10 ∷ 20 ∷ 30 ∷ 40 ∷ 10 ∷ 20 ∷ 30 ∷ 40 ∷ [])
    ∷ checked (w4 ((2 ∷ 1 ∷ 1 ∷ []) ∷ [])) (refuse 24 1)
    -- W7
    ∷ leaves (w7 2 (0 ∷ [])) 4 4 (1 ∷ 2 ∷ 5 ∷ 6 ∷ []) (6 ∷ 8 ∷ 6 ∷ 8 ∷ [])
    ∷ leaves (w7 1 (0 ∷ [])) 2 2 (4294967295 ∷ 2 ∷ []) (1 ∷ 1 ∷ [])
    -- W8
    ∷ leaves w8 4 2 (1 ∷ 2 ∷ 3 ∷ 4 ∷ []) (1 ∷ 3 ∷ 2 ∷ 4 ∷ [])
    -- W9
    ∷ checked (w9 6) (refuse 17 0)
    ∷ checked (w9 8) (passed 8 4 0 0 ((0 ∷ []) ∷ []) [] (2 ∷ []))
    -- W10: 27 in 01; document 02, Ask 6: "W10 now passes"
    ∷ checked (w7 2 []) (passed 4 2 1 4 ([] ∷ []) [] (2 ∷ []))
    ∷ []

-- ---- beside the ledger

-- a plan of one step on a mesh 2x2
abbrev pub on2x2 : (sizes : List ℕ) → (lists : List (List ℕ)) → (step : List ℕ) → List ℕ
on2x2 sizes lists step = file_of (2 ∷ 2 ∷ []) sizes lists (step ∷ [])

-- W4, gather [0] and then [1]; W4, gather [1, 0] and then slice [1, 0]
abbrev pub gathers_twice : List ℕ
gathers_twice = w4 ((2 ∷ 1 ∷ 0 ∷ []) ∷ (2 ∷ 1 ∷ 1 ∷ []) ∷ [])

abbrev pub there_and_back_file : List ℕ
there_and_back_file = w4 ((2 ∷ 2 ∷ 1 ∷ 0 ∷ []) ∷ (1 ∷ 2 ∷ 1 ∷ 0 ∷ []) ∷ [])

-- mesh 2x2, table 4x4, sharding [[0], [1]], all-to-all from 0 to 1 along [0]
abbrev pub turned : List ℕ
turned = on2x2 (4 ∷ 4 ∷ []) ((0 ∷ []) ∷ (1 ∷ []) ∷ [] ∷ []) (4 ∷ 0 ∷ 1 ∷ 1 ∷ 0 ∷ [])

abbrev pub beside : List Case
beside =
    -- a run that does the first collective and relabels the later ones leaves other words
    leaves gathers_twice 16 12 (10 ∷ 30 ∷ 20 ∷ 40 ∷ [])
    (10 ∷ 20 ∷ 30 ∷ 40 ∷ 10 ∷ 20 ∷ 30 ∷ 40 ∷ 10 ∷ 20 ∷ 30 ∷ 40 ∷ 10 ∷ 20 ∷ 30 ∷ 40 ∷ [])
    -- "With no steps, the first D times m words stay as given."
    ∷ leaves (w4 []) 4 0 (10 ∷ 30 ∷ 20 ∷ 40 ∷ []) (10 ∷ 30 ∷ 20 ∷ 40 ∷ [])
    -- W7 with a sum between 2^31 and 2^32
    ∷ leaves (w7 1 (0 ∷ [])) 2 2 (2147483647 ∷ 2 ∷ []) (2147483649 ∷ 2147483649 ∷ [])
    -- the largest state is neither the first nor the last
    ∷ checked there_and_back_file (passed 16 4 2 12 ((1 ∷ 0 ∷ []) ∷ []) [] (1 ∷ []))
    ∷ leaves there_and_back_file 16 12 (10 ∷ 30 ∷ 20 ∷ 40 ∷ []) (10 ∷ 30 ∷ 20 ∷ 40 ∷ [])
    -- "A run's result is defined for every buffer content, faithful or not." Devices that differ only on a replicated axis hold unequal words.
    -- Mesh 2, all-slice [0]: each device keeps a piece of its own shard
    ∷ leaves (file_of (2 ∷ []) (2 ∷ []) ([] ∷ [] ∷ []) ((1 ∷ 1 ∷ 0 ∷ []) ∷ [])) 4 0 (1 ∷ 2 ∷ 3 ∷ 4 ∷ []) (1 ∷ 4 ∷ [])
    -- mesh 2x2, axis 1 replicated throughout: all-slice, all-gather and all-reduce along [0], all-to-all from 0 to 1 along [0]
    ∷ leaves (on2x2 (2 ∷ []) ([] ∷ [] ∷ []) (1 ∷ 1 ∷ 0 ∷ [])) 8 0 (tab 8 (λ k. k + 1)) (1 ∷ 3 ∷ 6 ∷ 8 ∷ [])
    ∷ leaves (on2x2 (2 ∷ []) ((0 ∷ []) ∷ [] ∷ []) (2 ∷ 1 ∷ 0 ∷ [])) 8 4 (1 ∷ 2 ∷ 3 ∷ 4 ∷ []) (1 ∷ 3 ∷ 2 ∷ 4 ∷ 1 ∷ 3 ∷ 2 ∷ 4 ∷ [])
    ∷ leaves (on2x2 (1 ∷ []) ([] ∷ (0 ∷ []) ∷ []) (3 ∷ 1 ∷ 0 ∷ [])) 4 4 (1 ∷ 2 ∷ 3 ∷ 4 ∷ []) (4 ∷ 6 ∷ 4 ∷ 6 ∷ [])
    ∷ leaves (on2x2 (2 ∷ 2 ∷ []) ((0 ∷ []) ∷ [] ∷ [] ∷ []) (4 ∷ 0 ∷ 1 ∷ 1 ∷ 0 ∷ [])) 8 4 (tab 8 (λ k. k + 1))
    (1 ∷ 5 ∷ 3 ∷ 7 ∷ 2 ∷ 6 ∷ 4 ∷ 8 ∷ [])
    -- along both axes: all-slice and all-gather with lists [1] and [0], all-reduce [0, 1], all-to-all along [1, 0]
    ∷ leaves (on2x2 (2 ∷ 2 ∷ []) ([] ∷ [] ∷ [] ∷ []) (1 ∷ 1 ∷ 1 ∷ 1 ∷ 0 ∷ [])) 16 0 (tab 16 (λ k. k + 1)) (1 ∷ 7 ∷ 10 ∷ 16 ∷ [])
    ∷ leaves (on2x2 (2 ∷ 2 ∷ []) ((1 ∷ []) ∷ (0 ∷ []) ∷ [] ∷ []) (2 ∷ 1 ∷ 1 ∷ 1 ∷ 0 ∷ [])) 16 12 (1 ∷ 2 ∷ 3 ∷ 4 ∷ [])
    (1 ∷ 3 ∷ 2 ∷ 4 ∷ 1 ∷ 3 ∷ 2 ∷ 4 ∷ 1 ∷ 3 ∷ 2 ∷ 4 ∷ 1 ∷ 3 ∷ 2 ∷ 4 ∷ [])
    ∷ leaves (on2x2 (1 ∷ []) ([] ∷ (0 ∷ 1 ∷ []) ∷ []) (3 ∷ 2 ∷ 0 ∷ 1 ∷ [])) 4 12 (1 ∷ 2 ∷ 3 ∷ 4 ∷ []) (10 ∷ 10 ∷ 10 ∷ 10 ∷ [])
    ∷ leaves (on2x2 (4 ∷ 4 ∷ []) ((1 ∷ 0 ∷ []) ∷ [] ∷ [] ∷ []) (4 ∷ 0 ∷ 1 ∷ 2 ∷ 1 ∷ 0 ∷ [])) 16 12 (tab 16 (λ k. k + 1))
    (1 ∷ 9 ∷ 5 ∷ 13 ∷ 3 ∷ 11 ∷ 7 ∷ 15 ∷ 2 ∷ 10 ∷ 6 ∷ 14 ∷ 4 ∷ 12 ∷ 8 ∷ 16 ∷ [])
    -- the lists after a step, where others stay: a slice's joined to the end; an all-to-all's off the source and joined to the end of the target's; the
    -- unreduced axes that a reduction leaves, in their order
    ∷ checked (on2x2 (4 ∷ []) ((0 ∷ []) ∷ [] ∷ []) (1 ∷ 1 ∷ 1 ∷ [])) (passed 8 4 1 0 ((0 ∷ 1 ∷ []) ∷ []) [] (1 ∷ []))
    ∷ leaves (on2x2 (4 ∷ []) ((0 ∷ []) ∷ [] ∷ []) (1 ∷ 1 ∷ 1 ∷ [])) 8 0 (tab 8 (λ k. k + 1)) (1 ∷ 4 ∷ 5 ∷ 8 ∷ [])
    ∷ checked turned (passed 16 4 1 8 ([] ∷ (1 ∷ 0 ∷ []) ∷ []) [] (4 ∷ 1 ∷ []))
    ∷ leaves turned 16 8 (tab 16 (λ k. k + 1)) (1 ∷ 3 ∷ 9 ∷ 11 ∷ 5 ∷ 7 ∷ 13 ∷ 15 ∷ 2 ∷ 4 ∷ 10 ∷ 12 ∷ 6 ∷ 8 ∷ 14 ∷ 16 ∷ [])
    ∷ checked (file_of (2 ∷ 2 ∷ 2 ∷ []) (1 ∷ []) ([] ∷ (0 ∷ 1 ∷ 2 ∷ []) ∷ []) ((3 ∷ 1 ∷ 1 ∷ []) ∷ [])) (passed 8 8 1 8 ([] ∷ []) (0 ∷ 2 ∷ []) (1 ∷ []))
    -- every state has a sharding, shard sizes and first indexes of its own
    ∷ placed gathers_twice 0 3 (found ((1 ∷ 0 ∷ []) ∷ []) [] (1 ∷ []) (3 ∷ []))
    ∷ placed gathers_twice 1 3 (found ((1 ∷ []) ∷ []) [] (2 ∷ []) (2 ∷ []))
    ∷ placed gathers_twice 2 3 (found ([] ∷ []) [] (4 ∷ []) (0 ∷ []))
    -- along two dimensions, and with unreduced axes before and after a reduction
    ∷ placed w1 0 3 (found ((0 ∷ []) ∷ (1 ∷ []) ∷ []) [] (2 ∷ 2 ∷ []) (2 ∷ 2 ∷ []))
    ∷ placed (on2x2 (2 ∷ []) ([] ∷ (0 ∷ 1 ∷ []) ∷ []) (3 ∷ 1 ∷ 0 ∷ [])) 0 1 (found ([] ∷ []) (0 ∷ 1 ∷ []) (2 ∷ []) (0 ∷ []))
    ∷ placed (on2x2 (2 ∷ []) ([] ∷ (0 ∷ 1 ∷ []) ∷ []) (3 ∷ 1 ∷ 0 ∷ [])) 1 1 (found ([] ∷ []) (1 ∷ []) (2 ∷ []) (0 ∷ []))
    ∷ []
