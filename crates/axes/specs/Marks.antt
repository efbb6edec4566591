-- Marks of named axes: a place for each axis, true where it is named. Assumes nothing.
use Rattle.std.specs.Prelude.{ℕ, Bool, true, false, List, length, get_or, set}
use Rattle.rules.specs.Lists.{tab, in_turn, keep}

-- the axes that are marked
unfoldable pub marked : List Bool → List ℕ
unfolding keep
marked marks = keep (λ a. get_or marks a false) (tab (length marks) (λ a. a))

-- the marks with the axes of a list marked too; an axis past the last place has no mark
unfoldable pub marks_with : List Bool → List ℕ → List Bool
marks_with marks axes = in_turn (λ a m. set m a true) axes marks
