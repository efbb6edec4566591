-- The marks that a judgement of axes leaves, and the two increasing lists of a start. Assumes nothing.
use Rattle.std.specs.Prelude.{ℕ, ◌+◌, Bool, true, false, List, [], ◌∷◌, ◌++◌, set}
use Rattle.rules.specs.Lists.{pick}
use Rattle.rules.specs.Refusals.{Judged, accept, refuse, ◌>>◌}
use Rattle.rules.specs.PlanFile.{judge_axis, judge_axes}
use Rattle.axes.specs.Marks.{marked}

abbrev pub passes : Judged (Unit {0}) → Bool
passes (accept u) = true
passes (refuse n k) = false

-- the marks after judge_axes went through a list, with the marked axes before it: each axis that passes is marked, none from a refused one on
unfoldable pub marks_after : (n : ℕ) → (increasing : Bool) → (low : ℕ) → List Bool → List ℕ → List Bool
unfolding marked
marks_after n increasing low marks [] = marks
marks_after n increasing low marks (a ∷ axes) =
    pick (passes (judge_axis n low (marked marks) a)) (marks_after n increasing (pick increasing (a + 1) 0) (set marks a true) axes) marks

-- the unreduced axes, then the replicated ones: increasing lists in turn, as they stand in judge_start
abbrev pub judge_rising : (n : ℕ) → (before unreduced replicated : List ℕ) → Judged (Unit {0})
judge_rising n before unreduced replicated = do
  judge_axes n true 0 before unreduced
  judge_axes n true 0 (before ++ unreduced) replicated
