-- What a group, a rearrangement and a faithful spread are, on the smallest meshes: statements of 01 that no answer of a call shows. Assumes nothing.
use Rattle.std.specs.Prelude.{◌+◌, [], ◌∷◌}
use Rattle.rules.specs.Mesh.{number, SameGroup, Rearrangement}
use Rattle.rules.specs.Spread.{Faithful, add_words}
use Rattle.rules.specs.WorkedEditions.{sharding_of}

pub record InGroups : Type 0 where
  -- on a mesh 2x2, along axis 1: the device (0, 1) is in the group of (0, 0), and (1, 0) is not
  pub together : SameGroup (1 ∷ []) (0 ∷ 0 ∷ []) (0 ∷ 1 ∷ [])
  pub apart : ¬ SameGroup (1 ∷ []) (0 ∷ 0 ∷ []) (1 ∷ 0 ∷ [])
  -- "a rearrangement of 0 to D-1"
  pub turned : Rearrangement 2 (1 ∷ 0 ∷ [])
  -- a table of 2 split over 2 devices, with the words 1 and 2: they are its words, and their sum is none of them
  pub split : ¬ Faithful add_words (2 ∷ []) (sharding_of (0 ∷ []) [] []) (1 ∷ []) (λ i. 3) (λ x i. number (2 ∷ []) x + 1)
