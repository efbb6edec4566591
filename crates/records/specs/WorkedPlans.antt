-- Answers of the planner, every place of them as the code holds it: a plan of all three steps, one of a single step, start equal to goal, and a refused one.
-- Assumes nothing.
use Rattle.std.specs.Prelude.{ℕ, List, [], ◌∷◌, map}
use Rattle.types.specs.declared.AxisList.{AxisList}
use Rattle.types.specs.declared.DimLists.{DimLists}
use Rattle.types.specs.declared.Sharding.{Sharding}

abbrev pub list : (count : ℕ) → List ℕ → AxisList
list count places = record { count = count; axes = map (λ (a : ℕ). record { 0 = a }) places; align = [] }

abbrev pub none : AxisList
none = list 0 (0 ∷ 0 ∷ 0 ∷ 0 ∷ 0 ∷ 0 ∷ [])

abbrev pub single : ℕ → AxisList
single a = list 1 (a ∷ 0 ∷ 0 ∷ 0 ∷ 0 ∷ 0 ∷ [])

-- two lists by dimension, and no more
abbrev pub lists : (first second : AxisList) → DimLists
lists first second = record { 0 = first ∷ second ∷ none ∷ none ∷ [] }

abbrev pub sharded : (first second : AxisList) → (unreduced replicated : AxisList) → Sharding
sharded first second unreduced replicated = record { dims = lists first second; unreduced = unreduced; replicated = replicated }
