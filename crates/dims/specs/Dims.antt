-- Lists that can be joined in their places. Assumes nothing.
use Rattle.std.specs.Prelude.{ℕ, ◌+◌, ◌≤◌, List, [], length, get_or}
use Rattle.rules.specs.Limits.{most_axes}

-- an axis list has a place for each axis of its dimension's list and of the list that is joined to it
abbrev pub Room : List (List ℕ) → List (List ℕ) → Type 0
Room dims lists = (d : ℕ) → length (get_or dims d []) + length (get_or lists d []) ≤ most_axes
