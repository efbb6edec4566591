-- Answers for C that the prover computes, every place of them: a check with lists at four of the six places, a check and a placement with a list of
-- three replicated axes before and after a step, the placement of W4, and refusals with and without a step; W1 written of a C sharding and a record, and read
-- back; a plan of three steps, and one that is refused. Assumes nothing.
use Rattle.std.specs.Prelude.{ℕ, List, [], ◌∷◌, ◌++◌, replicate}
use Rattle.rules.specs.Ledger.{file_in}
use Rattle.marshal.specs.declared.ShardingReply.{ShardingReply}

abbrev pub zeros : ℕ → List ℕ
zeros n = replicate n 0

-- mesh 2x2x2x2x2x2, table 8x3, sharding [[3, 0], []], unreduced [1], replicated [2, 4, 5], and a gather of [0] off dimension 0
abbrev pub six : List ℕ
six = file_in 2 (replicate 6 2) [] (8 ∷ 3 ∷ []) ((3 ∷ 0 ∷ []) ∷ [] ∷ (1 ∷ []) ∷ (2 ∷ 4 ∷ 5 ∷ []) ∷ []) ((2 ∷ 1 ∷ 0 ∷ 0 ∷ []) ∷ [])

-- the axes before the step and after it: the one that the gather takes away is axis 0
abbrev pub six_axes : List ℕ
six_axes = (3 ∷ zeros 23) ++ (1 ∷ zeros 5) ++ (2 ∷ 4 ∷ 5 ∷ zeros 3)

-- ---- records

-- [[0], [1]] of a table 4x4, with another count of unreduced axes; what is not used holds 7
abbrev pub both : (unreduced : ℕ) → ShardingReply
both unreduced = record { counts = 1 ∷ 1 ∷ 7 ∷ 7 ∷ unreduced ∷ 0 ∷ []; axes = (0 ∷ replicate 5 7) ++ (1 ∷ replicate 5 7) ++ replicate 24 7 }

-- a gather of [1] off dimension 1
abbrev pub gather : List ℕ
gather = (2 ∷ 0 ∷ 0 ∷ []) ++ (0 ∷ 1 ∷ 0 ∷ 0 ∷ 0 ∷ []) ++ (zeros 6 ++ (1 ∷ zeros 23))

abbrev pub out : List ℕ
out = replicate 37 9

-- mesh 2x2x2, table of 8: from [[2]] with unreduced [0, 1] to [[0]] with unreduced [1]
abbrev pub from : ShardingReply
from = record { counts = 1 ∷ 0 ∷ 0 ∷ 0 ∷ 2 ∷ 0 ∷ []; axes = (2 ∷ zeros 23) ++ (0 ∷ 1 ∷ zeros 10) }

abbrev pub to : ShardingReply
to = record { counts = 1 ∷ 0 ∷ 0 ∷ 0 ∷ 1 ∷ 0 ∷ []; axes = zeros 24 ++ (1 ∷ zeros 11) }
