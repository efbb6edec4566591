-- Document 02, Ask 9: files of edition 3, whose devices have an order of their own, and the group listing that takes one, as one table in the form of
-- the ledger; and what the reader of editions 1 and 2 answers. Assumes nothing.
use Rattle.std.specs.Prelude.{ℕ, ◌+◌, ◌%◌, ◌≡◌, List, [], ◌∷◌, ◌++◌, length, set, take}
use Rattle.rules.specs.Lists.{tab, flat}
use Rattle.rules.specs.Collectives.{all_slice, all_gather, all_reduce}
use Rattle.rules.specs.Refusals.{accept, refuse}
use Rattle.rules.specs.PlanFile.{plain, judge_by}
use Rattle.rules.specs.Limits.{up_to}
use Rattle.rules.specs.Ledger.{Case, checked, placed, ordered, file_in, passed, found, nines, leaves}
use Rattle.rules.specs.WorkedEditions.{there}

-- ---- group listings

abbrev pub lists : (mesh order axes : List ℕ) → (groups : List (List ℕ)) → Case
lists mesh order axes groups =
    ordered mesh order axes (nines (length (flat groups) + 2)) (record { outcome = accept (length (flat groups)); out = flat groups ++ nines 2 })

abbrev pub refuses : (mesh order axes : List ℕ) → (places number : ℕ) → Case
refuses mesh order axes places number = ordered mesh order axes (nines places) (record { outcome = refuse number 0; out = nines places })

-- ---- files of edition 3

-- The device at each coordinate tuple of a mesh 2x2: 2 at (0, 0), 0 at (0, 1), 3 at (1, 0), 1 at (1, 1). Its inverse is another order.
abbrev pub cabled : List ℕ
cabled = 2 ∷ 0 ∷ 3 ∷ 1 ∷ []

-- mesh 2x2 with that order, table of 4, the lists of dimension 0 and of unreduced axes, an empty replicated list, and the steps
abbrev pub third : (dim unreduced : List ℕ) → (steps : List (List ℕ)) → List ℕ
third dim unreduced steps = file_in 3 (2 ∷ 2 ∷ []) cabled (4 ∷ []) (dim ∷ unreduced ∷ [] ∷ []) steps

-- mesh 2x2 with an order, table of 4, no axes named, no steps
abbrev pub with_order : List ℕ → List ℕ
with_order order = file_in 3 (2 ∷ 2 ∷ []) order (4 ∷ []) ([] ∷ [] ∷ [] ∷ []) []

-- The first bytes of a file, with their number as total length. The order is at byte 22, the tensor's sizes at 30.
abbrev pub cut_at : ℕ → List ℕ → List ℕ
cut_at n file = set (take n file) 16 n

abbrev pub orders : List Case
orders =
    -- "Case, 001's mesh 3x2 with 0 2 4 1 3 5: groups along axis 1 are 0 2, then 4 1, then 3 5."; along axis 0; along both, and along none
    lists (3 ∷ 2 ∷ []) (0 ∷ 2 ∷ 4 ∷ 1 ∷ 3 ∷ 5 ∷ []) (1 ∷ []) ((0 ∷ 2 ∷ []) ∷ (4 ∷ 1 ∷ []) ∷ (3 ∷ 5 ∷ []) ∷ [])
    ∷ lists (3 ∷ 2 ∷ []) (0 ∷ 2 ∷ 4 ∷ 1 ∷ 3 ∷ 5 ∷ []) (0 ∷ []) ((0 ∷ 4 ∷ 3 ∷ []) ∷ (2 ∷ 1 ∷ 5 ∷ []) ∷ [])
    ∷ lists (2 ∷ 2 ∷ []) cabled (1 ∷ 0 ∷ []) ((2 ∷ 3 ∷ 0 ∷ 1 ∷ []) ∷ [])
    ∷ lists (2 ∷ 2 ∷ []) cabled [] ((2 ∷ []) ∷ (0 ∷ []) ∷ (3 ∷ []) ∷ (1 ∷ []) ∷ [])
    -- an order that is plain in its first half, or in its last, is another one; an output of exactly D places
    ∷ lists (2 ∷ 2 ∷ []) (0 ∷ 1 ∷ 3 ∷ 2 ∷ []) (1 ∷ []) ((0 ∷ 1 ∷ []) ∷ (3 ∷ 2 ∷ []) ∷ [])
    ∷ lists (2 ∷ 2 ∷ []) (1 ∷ 0 ∷ 2 ∷ 3 ∷ []) (1 ∷ []) ((1 ∷ 0 ∷ []) ∷ (2 ∷ 3 ∷ []) ∷ [])
    ∷ ordered (2 ∷ 2 ∷ []) cabled (1 ∷ []) (nines 4) (record { outcome = accept 4; out = 2 ∷ 0 ∷ 3 ∷ 1 ∷ [] })
    -- 5 before 10 and 19; 10 and 11 before 19; 19 where the order is empty, plain, too short, too long, names a number twice, or one that is not
    -- below D, before 14; 14 before 33; 15; 33
    ∷ refuses [] [] [] 0 5
    ∷ refuses (2 ∷ 0 ∷ []) [] [] 0 10
    ∷ refuses (1025 ∷ []) [] [] 0 11
    ∷ refuses (2 ∷ 2 ∷ []) [] (9 ∷ []) 4 19
    ∷ refuses (2 ∷ 2 ∷ []) (0 ∷ 1 ∷ 2 ∷ 3 ∷ []) (9 ∷ []) 4 19
    ∷ refuses (2 ∷ 2 ∷ []) (2 ∷ 1 ∷ 0 ∷ []) (9 ∷ []) 4 19
    ∷ refuses (2 ∷ 2 ∷ []) (2 ∷ 0 ∷ 3 ∷ 1 ∷ 4 ∷ []) (9 ∷ []) 4 19
    ∷ refuses (2 ∷ 2 ∷ []) (2 ∷ 0 ∷ 2 ∷ 1 ∷ []) (9 ∷ []) 4 19
    ∷ refuses (2 ∷ 2 ∷ []) (2 ∷ 0 ∷ 3 ∷ 3 ∷ []) (9 ∷ []) 4 19
    ∷ refuses (1 ∷ []) (0 ∷ []) [] 1 19
    ∷ refuses (2 ∷ 2 ∷ []) (2 ∷ 0 ∷ 4 ∷ 1 ∷ []) (9 ∷ []) 4 19
    ∷ refuses (2 ∷ 2 ∷ []) cabled (2 ∷ []) 3 14
    ∷ refuses (2 ∷ 2 ∷ []) cabled (1 ∷ 1 ∷ []) 3 15
    ∷ refuses (2 ∷ 2 ∷ []) cabled (1 ∷ []) 3 33
    -- "The replicated list is present in edition 3 and may be empty"
    ∷ checked (third (1 ∷ 0 ∷ []) [] []) (passed 4 4 0 0 ((1 ∷ 0 ∷ []) ∷ []) [] (1 ∷ []))
    -- one that is not empty counts as in edition 2
    ∷ checked (file_in 3 (2 ∷ 2 ∷ []) cabled (4 ∷ []) ((0 ∷ []) ∷ [] ∷ (1 ∷ []) ∷ []) []) (accept (record {
      room = 8;
      devices = 4;
      steps = 0;
      rank = 1;
      sharding = record { dims = (0 ∷ []) ∷ []; unreduced = []; replicated = 1 ∷ [] };
      shard = 2 ∷ [];
      moved = 0;
    }))
    ∷ checked (file_in 3 (2 ∷ 2 ∷ []) cabled (4 ∷ []) ([] ∷ [] ∷ (1 ∷ []) ∷ []) ((1 ∷ 1 ∷ 1 ∷ []) ∷ [])) (refuse 23 1)
    -- a device is placed by the coordinates at which it is listed, in every state; 001's order in a file; a number of two bytes
    ∷ placed (third (1 ∷ 0 ∷ []) [] []) 0 0 (found ((1 ∷ 0 ∷ []) ∷ []) [] (1 ∷ []) (2 ∷ []))
    ∷ placed (third (1 ∷ 0 ∷ []) [] []) 0 1 (found ((1 ∷ 0 ∷ []) ∷ []) [] (1 ∷ []) (3 ∷ []))
    ∷ placed (third (1 ∷ 0 ∷ []) [] []) 0 2 (found ((1 ∷ 0 ∷ []) ∷ []) [] (1 ∷ []) (0 ∷ []))
    ∷ placed (third (1 ∷ 0 ∷ []) [] []) 0 3 (found ((1 ∷ 0 ∷ []) ∷ []) [] (1 ∷ []) (1 ∷ []))
    ∷ placed (third (1 ∷ 0 ∷ []) [] []) 0 4 (refuse 32 0)
    ∷ placed (third (1 ∷ 0 ∷ []) [] ((2 ∷ 1 ∷ 0 ∷ []) ∷ [])) 1 0 (found ((1 ∷ []) ∷ []) [] (2 ∷ []) (2 ∷ []))
    ∷ placed (file_in 3 (3 ∷ 2 ∷ []) (0 ∷ 2 ∷ 4 ∷ 1 ∷ 3 ∷ 5 ∷ []) (6 ∷ []) ((0 ∷ 1 ∷ []) ∷ [] ∷ [] ∷ []) []) 0 4 (found ((0 ∷ 1 ∷ []) ∷ []) [] (1 ∷ []) (2 ∷ []))
    ∷ placed (file_in 3 (257 ∷ []) (tab 257 (λ i. (i + 1) % 257)) (257 ∷ []) ((0 ∷ []) ∷ [] ∷ [] ∷ []) []) 0 256
    (found ((0 ∷ []) ∷ []) [] (1 ∷ []) (255 ∷ []))
    -- shards lie by device number before the first step and after the last: no steps, a gather, a reduction, a slice; two steps
    ∷ leaves (third (1 ∷ 0 ∷ []) [] []) 4 0 (1 ∷ 2 ∷ 3 ∷ 4 ∷ []) (1 ∷ 2 ∷ 3 ∷ 4 ∷ [])
    ∷ leaves (third (1 ∷ 0 ∷ []) [] ((2 ∷ 1 ∷ 0 ∷ []) ∷ [])) 8 4 (1 ∷ 2 ∷ 3 ∷ 4 ∷ []) (1 ∷ 2 ∷ 1 ∷ 2 ∷ 3 ∷ 4 ∷ 3 ∷ 4 ∷ [])
    ∷ leaves (third [] (0 ∷ []) ((3 ∷ 1 ∷ 0 ∷ []) ∷ [])) 16 16 (tab 16 (λ k. k + 1)) (
    6 ∷ 8 ∷ 10 ∷ 12 ∷ 6 ∷ 8 ∷ 10 ∷ 12 ∷ 22 ∷ 24 ∷ 26 ∷ 28 ∷ 22 ∷ 24 ∷ 26 ∷ 28 ∷ []
    )
    ∷ leaves (third [] [] ((1 ∷ 2 ∷ 1 ∷ 0 ∷ []) ∷ [])) 16 0 (tab 16 (λ k. k + 1)) (3 ∷ 8 ∷ 9 ∷ 14 ∷ [])
    ∷ leaves (third (1 ∷ 0 ∷ []) [] ((2 ∷ 1 ∷ 0 ∷ []) ∷ (1 ∷ 1 ∷ 0 ∷ []) ∷ [])) 8 4 (1 ∷ 2 ∷ 3 ∷ 4 ∷ []) (1 ∷ 2 ∷ 3 ∷ 4 ∷ [])
    -- "tested after 11 and after 7 for these bytes": 10 and 11, then 7, then 19, then the tensor's 6
    ∷ checked (set (with_order []) 18 0) (refuse 10 0)
    ∷ checked (set (with_order []) 19 8) (refuse 11 0)
    ∷ checked (cut_at 29 (with_order (9 ∷ 9 ∷ 9 ∷ 9 ∷ []))) (refuse 7 0)
    ∷ checked (set (with_order (2 ∷ 0 ∷ 2 ∷ 1 ∷ [])) 10 0) (refuse 19 0)
    ∷ checked (with_order (0 ∷ 1 ∷ 2 ∷ 3 ∷ [])) (refuse 19 0)
    ∷ checked (with_order (1 ∷ 2 ∷ 3 ∷ 4 ∷ [])) (refuse 19 0)
    ∷ checked (with_order (258 ∷ 0 ∷ 3 ∷ 1 ∷ [])) (refuse 19 0)
    ∷ checked (file_in 3 (1 ∷ []) (0 ∷ []) (4 ∷ []) ([] ∷ [] ∷ [] ∷ []) []) (refuse 19 0)
    ∷ checked (cut_at 30 (with_order (0 ∷ 1 ∷ 2 ∷ 3 ∷ []))) (refuse 19 0)
    ∷ checked (set (with_order cabled) 10 22) (refuse 6 0)
    -- editions 1 and 2 have no such bytes
    ∷ checked (set (with_order cabled) 0 1) (refuse 6 0)
    ∷ checked (set (with_order cabled) 0 2) (refuse 6 0)
    ∷ []

-- the reader of editions 1 and 2: a file of edition 3, and one of edition 2
abbrev pub SecondEdition : Type 0
SecondEdition =
    (judge_by (up_to 2) (with_order cabled) ≡ refuse 3 0)
    × (judge_by (up_to 2) there ≡ accept (record {
      mesh = 2 ∷ 2 ∷ [];
      order = 0 ∷ 1 ∷ 2 ∷ 3 ∷ [];
      sizes = 4 ∷ [];
      start = record { dims = [] ∷ []; unreduced = 0 ∷ []; replicated = 1 ∷ [] };
      records = plain (all_reduce (0 ∷ [])) ∷ plain (all_slice ((0 ∷ []) ∷ [])) ∷ plain (all_gather ((0 ∷ []) ∷ [])) ∷ [];
      steps = all_reduce (0 ∷ []) ∷ all_slice ((0 ∷ []) ∷ []) ∷ all_gather ((0 ∷ []) ∷ []) ∷ [];
      runs = 1 ∷ 1 ∷ 1 ∷ [];
    }))
