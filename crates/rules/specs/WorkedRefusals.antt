-- Document 01, "Refusal numbers": calls that are refused, as one table in the form of the ledger. It has each number from 3 on, those of a step in a
-- first and in a second step; and of tests that follow one another in 01's order a call that fails both, where there is one (docs/DECISIONS.md names
-- those that no file can tell apart). 1 and 2, and the limits of 5, 11 and 13, are in WorkedLimits.antt. Assumes nothing.
use Rattle.std.specs.Prelude.{ℕ, List, [], ◌∷◌, ◌++◌, set, take, replicate}
use Rattle.rules.specs.Refusals.{refuse}
use Rattle.rules.specs.Ledger.{Case, checked, placed, listed, ran, file_of, w1, w4, nines}

-- ---- files

-- W1 with another byte at a place: the header is at 0, the mesh at 18, the tensor at 22, the sharding at 26, the step at 31
abbrev pub but : ℕ → ℕ → List ℕ
but at byte = set w1 at byte

-- the first bytes of W1, with their number as total length; and W1 with a byte after its last step
abbrev pub cut_at : ℕ → List ℕ
cut_at n = set (take n w1) 16 n

abbrev pub one_byte_more : List ℕ
one_byte_more = but 16 36 ++ 0 ∷ []

-- mesh 2x2, table 4x3, with the starting lists and one step; with no step; mesh 2x2x2, table of 3, with no step
abbrev pub one : List (List ℕ) → List ℕ → List ℕ
one lists step = file_of (2 ∷ 2 ∷ []) (4 ∷ 3 ∷ []) lists (step ∷ [])

abbrev pub start : List (List ℕ) → List ℕ
start lists = file_of (2 ∷ 2 ∷ []) (4 ∷ 3 ∷ []) lists []

abbrev pub three : List (List ℕ) → List ℕ
three lists = file_of (2 ∷ 2 ∷ 2 ∷ []) (3 ∷ []) lists []

-- no axis named at the start, all unreduced, dimension 0 split along 0, and along 1, then 0
abbrev pub whole : List (List ℕ)
whole = [] ∷ [] ∷ [] ∷ []

abbrev pub parts : List (List ℕ)
parts = [] ∷ [] ∷ (0 ∷ 1 ∷ []) ∷ []

abbrev pub half : List (List ℕ)
half = (0 ∷ []) ∷ [] ∷ [] ∷ []

abbrev pub split : List (List ℕ)
split = (1 ∷ 0 ∷ []) ∷ [] ∷ [] ∷ []

-- a step after one that passes and leaves dimension 0 split along 1
abbrev pub second : List ℕ → List ℕ
second step = file_of (2 ∷ 2 ∷ []) (4 ∷ 3 ∷ []) split ((2 ∷ 1 ∷ 0 ∷ 0 ∷ []) ∷ step ∷ [])

-- ---- "All lent memory is then as it was."

abbrev pub refused_listing : (mesh axes : List ℕ) → (places number : ℕ) → Case
refused_listing mesh axes places number = listed mesh axes (nines places) (record { outcome = refuse number 0; out = nines places })

abbrev pub refused_run : (file : List ℕ) → (work spare number step : ℕ) → Case
refused_run file work spare number step =
    ran file (nines work) (nines spare) (record { outcome = refuse number step; moved = 0; work = nines work; spare = nines spare })

-- ---- the refusals

abbrev pub refusals : List Case
refusals =
    -- 3, before 4; 4, before 5; 5, before 6
    checked (replicate 18 0) (refuse 3 0)
    ∷ checked (but 0 4) (refuse 3 0)
    ∷ checked (but 1 1) (refuse 3 0)
    ∷ checked (set (but 16 36) 2 0) (refuse 4 0)
    ∷ checked (but 16 34) (refuse 4 0)
    ∷ checked (set (but 2 0) 8 0) (refuse 5 0)
    ∷ checked (set (but 4 0) 8 0) (refuse 5 0)
    ∷ checked (set (but 7 255) 8 0) (refuse 5 0)
    -- the mesh: 6 before 7; 7 before 10; 10 where it ends with the file; each size in turn, 11 before 10; both before the tensor's 6
    ∷ checked (set (cut_at 21) 8 0) (refuse 6 0)
    ∷ checked (set (cut_at 21) 18 0) (refuse 7 0)
    ∷ checked (set (cut_at 22) 18 0) (refuse 10 0)
    ∷ checked (set (but 18 0) 10 0) (refuse 10 0)
    ∷ checked (but 20 0) (refuse 10 0)
    ∷ checked (set (but 19 255) 20 0) (refuse 11 0)
    ∷ checked (set (but 21 255) 10 0) (refuse 11 0)
    -- the tensor: the same of 12 and 13
    ∷ checked (set (cut_at 25) 10 0) (refuse 6 0)
    ∷ checked (set (cut_at 25) 22 0) (refuse 7 0)
    ∷ checked (set (cut_at 26) 22 0) (refuse 12 0)
    ∷ checked (set (but 22 0) 12 0) (refuse 12 0)
    ∷ checked (but 24 0) (refuse 12 0)
    ∷ checked (file_of (2 ∷ []) (65535 ∷ 2 ∷ 0 ∷ []) (replicate 4 []) []) (refuse 13 0)
    ∷ checked (set (but 25 255) 12 0) (refuse 13 0)
    -- the sharding: 6 before 7; 7 for a count byte and for axes; 8 before 7
    ∷ checked (set (cut_at 28) 12 0) (refuse 6 0)
    ∷ checked (cut_at 26) (refuse 7 0)
    ∷ checked (cut_at 27) (refuse 7 0)
    ∷ checked (set (cut_at 27) 26 3) (refuse 8 0)
    -- 8 and 7 of a later list before 14 of an earlier one, and before the steps' 6; that 6 before 14
    ∷ checked (set (set (but 27 9) 28 3) 14 0) (refuse 8 0)
    ∷ checked (set (set (cut_at 30) 27 9) 14 0) (refuse 7 0)
    ∷ checked (set (but 27 9) 14 0) (refuse 6 0)
    -- 14, 15 and 16; 15 before 16 at one axis
    ∷ checked (but 27 2) (refuse 14 0)
    ∷ checked (start ([] ∷ [] ∷ (2 ∷ []) ∷ [])) (refuse 14 0)
    ∷ checked (but 29 0) (refuse 15 0)
    ∷ checked (start ([] ∷ [] ∷ (1 ∷ 1 ∷ []) ∷ [])) (refuse 15 0)
    ∷ checked (start ((0 ∷ []) ∷ [] ∷ (1 ∷ 0 ∷ []) ∷ [])) (refuse 15 0)
    ∷ checked (start ([] ∷ [] ∷ (1 ∷ 0 ∷ []) ∷ [])) (refuse 16 0)
    -- all three at one axis before the next, list by list, and before 17
    ∷ checked (three ((7 ∷ 0 ∷ 0 ∷ []) ∷ [] ∷ [])) (refuse 14 0)
    ∷ checked (three ((7 ∷ []) ∷ (2 ∷ 1 ∷ []) ∷ [])) (refuse 14 0)
    ∷ checked (start ((0 ∷ 0 ∷ []) ∷ (2 ∷ []) ∷ [] ∷ [])) (refuse 15 0)
    ∷ checked (three ((0 ∷ 0 ∷ 7 ∷ []) ∷ [] ∷ [])) (refuse 15 0)
    ∷ checked (three ((0 ∷ []) ∷ (7 ∷ 2 ∷ 1 ∷ []) ∷ [])) (refuse 14 0)
    ∷ checked (three ((0 ∷ []) ∷ (2 ∷ 1 ∷ 7 ∷ []) ∷ [])) (refuse 16 0)
    ∷ checked (three ((0 ∷ []) ∷ (2 ∷ 1 ∷ 1 ∷ []) ∷ [])) (refuse 16 0)
    -- 17, before the 7 and the 20 of a step, and before 9
    ∷ checked (one ([] ∷ (0 ∷ []) ∷ [] ∷ []) []) (refuse 17 0)
    ∷ checked (one ([] ∷ (0 ∷ []) ∷ [] ∷ []) (6 ∷ [])) (refuse 17 0)
    ∷ checked (file_of (2 ∷ 2 ∷ []) (2 ∷ []) ((0 ∷ 1 ∷ []) ∷ [] ∷ []) []) (refuse 17 0)
    ∷ checked (set (but 6 0) 22 3) (refuse 17 0)
    -- a step's bytes: 7 for the kind byte; 20 before 7; 7 for a count byte and for axes; 8 before 7
    ∷ checked (cut_at 31) (refuse 7 0)
    ∷ checked (one whole (6 ∷ [])) (refuse 20 1)
    ∷ checked (but 31 0) (refuse 20 1)
    ∷ checked (one whole (6 ∷ 1 ∷ 1 ∷ 0 ∷ [])) (refuse 20 1)
    ∷ checked (one whole (255 ∷ [])) (refuse 20 1)
    ∷ checked (cut_at 33) (refuse 7 0)
    ∷ checked (cut_at 34) (refuse 7 0)
    ∷ checked (but 33 3) (refuse 8 0)
    -- 8 and 7 of a later list before 22 of an earlier one; 7 and 8 of an all-to-all before 28
    ∷ checked (one whole (1 ∷ 1 ∷ 9 ∷ 3 ∷ [])) (refuse 8 0)
    ∷ checked (one whole (1 ∷ 1 ∷ 9 ∷ [])) (refuse 7 0)
    ∷ checked (one whole (4 ∷ 9 ∷ [])) (refuse 7 0)
    ∷ checked (one whole (4 ∷ 9 ∷ 9 ∷ [])) (refuse 7 0)
    ∷ checked (one whole (4 ∷ 9 ∷ 9 ∷ 3 ∷ [])) (refuse 8 0)
    -- 21, of each kind; before 28
    ∷ checked (one whole (1 ∷ 0 ∷ 0 ∷ [])) (refuse 21 1)
    ∷ checked (one whole (2 ∷ 0 ∷ 0 ∷ [])) (refuse 21 1)
    ∷ checked (one whole (3 ∷ 0 ∷ [])) (refuse 21 1)
    ∷ checked (one whole (4 ∷ 9 ∷ 9 ∷ 0 ∷ [])) (refuse 21 1)
    -- 22, before 23, 24, 26, 27 and 28
    ∷ checked (one split (1 ∷ 2 ∷ 0 ∷ 2 ∷ 0 ∷ [])) (refuse 22 1)
    ∷ checked (one split (2 ∷ 1 ∷ 2 ∷ 0 ∷ [])) (refuse 22 1)
    ∷ checked (one parts (3 ∷ 2 ∷ 2 ∷ 0 ∷ [])) (refuse 22 1)
    ∷ checked (one parts (3 ∷ 1 ∷ 2 ∷ [])) (refuse 22 1)
    ∷ checked (one split (4 ∷ 0 ∷ 0 ∷ 1 ∷ 2 ∷ [])) (refuse 22 1)
    -- all-slice: 23 of an axis that splits a dimension, of an unreduced one, of one named twice; before 25
    ∷ checked (one half (1 ∷ 1 ∷ 0 ∷ 0 ∷ [])) (refuse 23 1)
    ∷ checked (one parts (1 ∷ 1 ∷ 0 ∷ 0 ∷ [])) (refuse 23 1)
    ∷ checked (one whole (1 ∷ 2 ∷ 0 ∷ 0 ∷ 0 ∷ [])) (refuse 23 1)
    ∷ checked (one whole (1 ∷ 1 ∷ 0 ∷ 1 ∷ 0 ∷ [])) (refuse 23 1)
    -- 25, of the present shard size
    ∷ checked (one whole (1 ∷ 0 ∷ 1 ∷ 0 ∷ [])) (refuse 25 1)
    ∷ checked (file_of (2 ∷ 2 ∷ []) (2 ∷ []) ([] ∷ [] ∷ []) ((1 ∷ 2 ∷ 0 ∷ 1 ∷ []) ∷ [])) (refuse 25 1)
    ∷ checked (one whole (1 ∷ 2 ∷ 0 ∷ 1 ∷ 1 ∷ 0 ∷ [])) (refuse 23 1)
    ∷ checked (file_of (2 ∷ 4 ∷ []) (4 ∷ []) ((0 ∷ []) ∷ [] ∷ []) ((1 ∷ 1 ∷ 1 ∷ []) ∷ [])) (refuse 25 1)
    -- all-gather: 24 of the front, of another order, of a list that is longer than the dimension's, of another dimension's
    ∷ checked (one split (2 ∷ 1 ∷ 1 ∷ 0 ∷ [])) (refuse 24 1)
    ∷ checked (one split (2 ∷ 2 ∷ 0 ∷ 1 ∷ 0 ∷ [])) (refuse 24 1)
    ∷ checked (one half (2 ∷ 2 ∷ 1 ∷ 0 ∷ 0 ∷ [])) (refuse 24 1)
    ∷ checked (one half (2 ∷ 2 ∷ 0 ∷ 1 ∷ 0 ∷ [])) (refuse 24 1)
    ∷ checked (one half (2 ∷ 0 ∷ 1 ∷ 0 ∷ [])) (refuse 24 1)
    -- all-reduce: 26, before 27; 27 of an axis that splits a dimension, alone and beside an unreduced one
    ∷ checked (one parts (3 ∷ 2 ∷ 1 ∷ 0 ∷ [])) (refuse 26 1)
    ∷ checked (one parts (3 ∷ 2 ∷ 0 ∷ 0 ∷ [])) (refuse 26 1)
    ∷ checked (one whole (3 ∷ 2 ∷ 1 ∷ 0 ∷ [])) (refuse 26 1)
    ∷ checked (one half (3 ∷ 1 ∷ 0 ∷ [])) (refuse 27 1)
    ∷ checked (one ((1 ∷ []) ∷ [] ∷ (0 ∷ []) ∷ []) (3 ∷ 2 ∷ 0 ∷ 1 ∷ [])) (refuse 27 1)
    -- all-to-all: 28, before 24; 24, before 25; 25
    ∷ checked (one split (4 ∷ 0 ∷ 0 ∷ 1 ∷ 1 ∷ [])) (refuse 28 1)
    ∷ checked (one split (4 ∷ 2 ∷ 0 ∷ 1 ∷ 0 ∷ [])) (refuse 28 1)
    ∷ checked (one split (4 ∷ 0 ∷ 2 ∷ 1 ∷ 0 ∷ [])) (refuse 28 1)
    ∷ checked (one split (4 ∷ 0 ∷ 1 ∷ 1 ∷ 1 ∷ [])) (refuse 24 1)
    ∷ checked (one split (4 ∷ 0 ∷ 1 ∷ 1 ∷ 0 ∷ [])) (refuse 25 1)
    -- the second step: each number of a step, and 7
    ∷ checked (second []) (refuse 7 0)
    ∷ checked (second (6 ∷ [])) (refuse 20 2)
    ∷ checked (second (3 ∷ 0 ∷ [])) (refuse 21 2)
    ∷ checked (second (1 ∷ 1 ∷ 2 ∷ 0 ∷ [])) (refuse 22 2)
    ∷ checked (second (1 ∷ 1 ∷ 1 ∷ 0 ∷ [])) (refuse 23 2)
    ∷ checked (second (2 ∷ 1 ∷ 0 ∷ 0 ∷ [])) (refuse 24 2)
    ∷ checked (second (1 ∷ 0 ∷ 1 ∷ 0 ∷ [])) (refuse 25 2)
    ∷ checked (second (3 ∷ 2 ∷ 1 ∷ 0 ∷ [])) (refuse 26 2)
    ∷ checked (second (3 ∷ 1 ∷ 1 ∷ [])) (refuse 27 2)
    ∷ checked (second (4 ∷ 0 ∷ 0 ∷ 1 ∷ 1 ∷ [])) (refuse 28 2)
    -- a step is judged before the next is read; 9, after the last step, and where there is none
    ∷ checked (set (but 34 0) 6 2) (refuse 24 1)
    ∷ checked (set one_byte_more 34 0) (refuse 24 1)
    ∷ checked one_byte_more (refuse 9 0)
    ∷ checked (but 6 0) (refuse 9 0)
    -- the placement: the file's own, 34 and 32, in that order
    ∷ placed (w4 ((2 ∷ 1 ∷ 1 ∷ []) ∷ [])) 2 9 (refuse 24 1)
    ∷ placed one_byte_more 2 9 (refuse 9 0)
    ∷ placed w1 2 9 (refuse 34 0)
    ∷ placed w1 1 4 (refuse 32 0)
    -- the run: the file's own, 30 and 31, in that order
    ∷ refused_run (w4 ((2 ∷ 1 ∷ 1 ∷ []) ∷ [])) 3 3 24 1
    ∷ refused_run one_byte_more 31 31 9 0
    ∷ refused_run w1 31 31 30 0
    ∷ refused_run w1 32 31 31 0
    -- the group listing: 5, before 14; sizes in turn, before 14; axes in turn, before 33; 33
    ∷ refused_listing [] (9 ∷ []) 0 5
    ∷ refused_listing (65535 ∷ 0 ∷ []) (9 ∷ []) 0 11
    ∷ refused_listing (2 ∷ 0 ∷ []) (9 ∷ []) 0 10
    ∷ refused_listing (2 ∷ 2 ∷ []) (1 ∷ 2 ∷ 1 ∷ []) 3 14
    ∷ refused_listing (2 ∷ 2 ∷ []) (1 ∷ 1 ∷ 2 ∷ []) 3 15
    ∷ refused_listing (2 ∷ 2 ∷ []) (1 ∷ 0 ∷ []) 3 33
    ∷ []
