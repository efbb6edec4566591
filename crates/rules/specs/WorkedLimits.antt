-- Document 01, "Numbers to hold to", with the numbers of document 02, Ask 12: of each limit, calls at it and calls just past it, as one table in the form of the ledger, a limit's lines together.
-- The crate types ties the constants of the code to those of Limits.antt; these lines tie both to the numbers themselves. Assumes nothing.
use Rattle.std.specs.Prelude.{ℕ, ◌+◌, ◌-◌, ◌*◌, ◌/◌, ◌%◌, ◌≡◌, List, [], ◌∷◌, ◌++◌, length, set, replicate}
use Rattle.rules.specs.Lists.{tab}
use Rattle.rules.specs.Refusals.{accept, refuse}
use Rattle.rules.specs.PlanFile.{judge_by}
use Rattle.rules.specs.Limits.{original}
use Rattle.rules.specs.Ledger.{Case, checked, file_in, file_of, w1, passed, lists_as}
use Rattle.rules.specs.WorkedRefusals.{cut_at, refused_listing}

-- a plan that names no axis and has no steps
abbrev pub plain : (mesh sizes : List ℕ) → List ℕ
plain mesh sizes = file_of mesh sizes (replicate (length sizes + 1) []) []

-- a dimension split along axis 0 and gathered, in turn
abbrev pub to_and_fro : ℕ → List ℕ
to_and_fro n = file_of (2 ∷ []) (2 ∷ []) ([] ∷ [] ∷ []) (tab n (λ k. (1 + k % 2) ∷ 1 ∷ 0 ∷ []))

-- W1, with zeros after its last step up to so many bytes
abbrev pub filled_to : ℕ → List ℕ
filled_to n = set (set (w1 ++ replicate (n - 35) 0) 16 (n % 256)) 17 (n / 256)

abbrev pub limits : List Case
limits =
    -- "n 1 to 6"; in the group listing before 10
    checked (plain [] (2 ∷ [])) (refuse 5 0)
    ∷ checked (plain (replicate 6 1) (2 ∷ [])) (passed 2 1 0 0 ([] ∷ []) [] (2 ∷ []))
    ∷ checked (plain (replicate 7 1) (2 ∷ [])) (refuse 5 0)
    ∷ lists_as (replicate 6 1) (5 ∷ 4 ∷ 3 ∷ 2 ∷ 1 ∷ 0 ∷ []) ((0 ∷ []) ∷ [])
    ∷ refused_listing (replicate 7 0) [] 1 5
    -- "D up to 1,024": "Mesh 256 with 4,096 words passes"; "mesh 257 and table 4,097 pass, mesh 1,025 gives 11"; the product of all sizes
    ∷ checked (file_of (256 ∷ []) (4096 ∷ []) ((0 ∷ []) ∷ [] ∷ []) []) (passed 4096 256 0 0 ((0 ∷ []) ∷ []) [] (16 ∷ []))
    ∷ checked (plain (257 ∷ []) (4097 ∷ [])) (passed 1052929 257 0 0 ([] ∷ []) [] (4097 ∷ []))
    ∷ checked (plain (1024 ∷ []) (1 ∷ [])) (passed 1024 1024 0 0 ([] ∷ []) [] (1 ∷ []))
    ∷ checked (plain (1025 ∷ []) (1 ∷ [])) (refuse 11 0)
    ∷ checked (plain (32 ∷ 32 ∷ []) (1 ∷ [])) (passed 1024 1024 0 0 ([] ∷ []) [] (1 ∷ []))
    ∷ checked (plain (32 ∷ 33 ∷ []) (1 ∷ [])) (refuse 11 0)
    ∷ lists_as (16 ∷ 16 ∷ []) (0 ∷ []) (tab 16 (λ g. tab 16 (λ q. q * 16 + g)))
    ∷ refused_listing (32 ∷ 32 ∷ []) [] 1023 33
    ∷ refused_listing (1025 ∷ []) [] 1025 11
    -- "rank 1 to 4"
    ∷ checked (plain (1 ∷ []) []) (refuse 5 0)
    ∷ checked (plain (1 ∷ []) (replicate 4 2)) (passed 16 1 0 0 (replicate 4 []) [] (replicate 4 2))
    ∷ checked (plain (1 ∷ []) (replicate 5 2)) (refuse 5 0)
    -- "tables up to 65,536 words": "one dimension ends at 65,535 while 256x256 passes", "table 256x257 gives 13"; the next product of sizes past it is 65,538. "Room is at most 67,108,864 words"
    ∷ checked (plain (1024 ∷ []) (256 ∷ 256 ∷ [])) (passed 67108864 1024 0 0 ([] ∷ [] ∷ []) [] (256 ∷ 256 ∷ []))
    ∷ checked (plain (1 ∷ []) (65535 ∷ [])) (passed 65535 1 0 0 ([] ∷ []) [] (65535 ∷ []))
    ∷ checked (plain (1 ∷ []) (256 ∷ 257 ∷ [])) (refuse 13 0)
    ∷ checked (plain (1 ∷ []) (2 ∷ 32769 ∷ [])) (refuse 13 0)
    ∷ checked (plain (1 ∷ []) (16 ∷ 64 ∷ 64 ∷ [])) (passed 65536 1 0 0 ([] ∷ [] ∷ [] ∷ []) [] (16 ∷ 64 ∷ 64 ∷ []))
    ∷ checked (plain (1 ∷ []) (16 ∷ 64 ∷ 65 ∷ [])) (refuse 13 0)
    -- "0 to 64 steps": "64 steps pass, 65 give 5"
    ∷ checked (to_and_fro 0) (passed 4 2 0 0 ([] ∷ []) [] (2 ∷ []))
    ∷ checked (to_and_fro 64) (passed 4 2 64 64 ([] ∷ []) [] (2 ∷ []))
    ∷ checked (to_and_fro 65) (refuse 5 0)
    -- "file 18 to" 8,192 bytes: a header alone has no mesh, and W1 filled up to the most bytes has bytes left; 1 before 3, 2 before 3
    ∷ checked (replicate 17 0) (refuse 1 0)
    ∷ checked (cut_at 18) (refuse 7 0)
    ∷ checked (filled_to 8192) (refuse 9 0)
    ∷ checked (filled_to 8193) (refuse 2 0)
    ∷ checked (replicate 8193 0) (refuse 2 0)
    ∷ []

-- the reader with document 01's own limits, at each of them and one past it: "mesh 257 gives 11; table 4,097 gives 13", and a file of 4,097 bytes 2;
-- a mesh of 257 in edition 2 too
abbrev pub Earlier : Type 0
Earlier =
    (judge_by original (plain (256 ∷ []) (4096 ∷ []))
    ≡ accept (record {
      mesh = 256 ∷ [];
      order = tab 256 (λ d. d);
      sizes = 4096 ∷ [];
      start = record { dims = [] ∷ []; unreduced = []; replicated = [] };
      records = [];
      steps = [];
      runs = [];
    }))
    × (judge_by original (plain (257 ∷ []) (4096 ∷ [])) ≡ refuse 11 0)
    × (judge_by original (plain (256 ∷ []) (4097 ∷ [])) ≡ refuse 13 0)
    × (judge_by original (filled_to 4096) ≡ refuse 9 0)
    × (judge_by original (filled_to 4097) ≡ refuse 2 0)
    × (judge_by original (file_in 2 (257 ∷ []) [] (1 ∷ []) ([] ∷ [] ∷ (0 ∷ []) ∷ []) []) ≡ refuse 11 0)
