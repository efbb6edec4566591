-- Answers of the check and of the placement on plans of the ledger, every place of them as the code holds it. Assumes nothing.
use Rattle.std.specs.Prelude.{ℕ, List, [], ◌∷◌, map, replicate}
use Rattle.rules.specs.Ledger.{file_in, file_of}
use Rattle.types.specs.declared.AxisList.{AxisList}
use Rattle.types.specs.declared.Sharding.{Sharding}

abbrev pub list : ℕ → List ℕ → AxisList
list count places = record { count = count; axes = map (λ (a : ℕ). record { 0 = a }) places; align = [] }

abbrev pub none : AxisList
none = list 0 (0 ∷ 0 ∷ 0 ∷ 0 ∷ 0 ∷ 0 ∷ [])

abbrev pub single : ℕ → AxisList
single a = list 1 (a ∷ 0 ∷ 0 ∷ 0 ∷ 0 ∷ 0 ∷ [])

-- four dimensions split along one axis each and one axis unreduced: mesh 2x2x2x2x2, table 2x4x6x8
abbrev pub four : List ℕ
four = file_of (replicate 5 2) (2 ∷ 4 ∷ 6 ∷ 8 ∷ []) ((4 ∷ []) ∷ (3 ∷ []) ∷ (2 ∷ []) ∷ (0 ∷ []) ∷ (1 ∷ []) ∷ []) []

abbrev pub crossed : Sharding
crossed = record { dims = record { 0 = single 4 ∷ single 3 ∷ single 2 ∷ single 0 ∷ [] }; unreduced = single 1; replicated = none }

-- a dimension split along the last axis and the other two replicated, named as such: mesh 2x2x2, table of 2, edition 2
abbrev pub kept : List ℕ
kept = file_in 2 (2 ∷ 2 ∷ 2 ∷ []) [] (2 ∷ []) ((2 ∷ []) ∷ [] ∷ (0 ∷ 1 ∷ []) ∷ []) []

abbrev pub keeping : Sharding
keeping = record {
  dims = record { 0 = single 2 ∷ none ∷ none ∷ none ∷ [] };
  unreduced = none;
  replicated = list 2 (0 ∷ 1 ∷ 0 ∷ 0 ∷ 0 ∷ 0 ∷ []);
}

-- the last sharding of W1; that of W4; and no axes at all
abbrev pub split : Sharding
split = record { dims = record { 0 = single 0 ∷ none ∷ none ∷ none ∷ [] }; unreduced = none; replicated = none }

abbrev pub turned : Sharding
turned = record { dims = record { 0 = list 2 (1 ∷ 0 ∷ 0 ∷ 0 ∷ 0 ∷ 0 ∷ []) ∷ none ∷ none ∷ none ∷ [] }; unreduced = none; replicated = none }

abbrev pub nowhere : Sharding
nowhere = record { dims = record { 0 = none ∷ none ∷ none ∷ none ∷ [] }; unreduced = none; replicated = none }
