use Prim.Native.Nat.{ℕ}
use mathlib.Core.Bool.{true, false}
use mathlib.Core.Path.{◌≡◌, refl, sym}
use mathlib.Core.List.{List, [], ◌∷◌}
use Rattle.std.proofs.Common.{Some, None}
use Rattle.std.specs.List.{slice_get}
use Rattle.types.specs.declared.Axis.{Axis}
use Rattle.types.specs.Types.{numbers_of}
use Rattle.rules.specs.PlanFile.{some}
use Rattle.judge.proofs.named_list.Goals as goal

names-none : (axes : List Axis) {L : List ℕ} → numbers_of axes ≡ L → None ≡ slice_get axes 0 → some L ≡ false
unfolding numbers_of
names-none [] e q = rw (← e) refl
names-none (a ∷ axes) e q = absurd cc

names-one : (axes : List Axis) {L : List ℕ} {a : Axis} → numbers_of axes ≡ L → Some a ≡ slice_get axes 0 → some L ≡ true
unfolding numbers_of
names-one [] e q = absurd cc
names-one (a ∷ axes) e q = rw (← e) refl

pub returns-in_default : goal.returns-in_default
returns-in_default c = simp (names-none _ c.as_slice.ensures c.in_default.ensures.value)

pub returns-in_default-all_below : goal.returns-in_default-all_below
returns-in_default-all_below c = simp (names-one _ c.as_slice.ensures c.in-Some.ensures.value, sym c.in_default-all_below.ensures)

pub returns : goal.returns
returns c = simp (names-one _ c.as_slice.ensures c.in-Some.ensures.value, sym c.in-true.ensures)
