-- Lists of axes that are the same, compared axis by axis; and shardings, list for list. Assumes nothing.
use mathlib.Core.Path.{◌≡◌, refl, ap₂}
use mathlib.Core.Bool.{Bool, true, false, ◌&&◌}
use mathlib.Core.List.{List, [], ◌∷◌}
use lib.Dec.{eqb}
use lib.Pointwise.{pointwise}
use Rattle.rules.specs.Lists.{both}
use Rattle.rules.specs.Sharding.{Sharding}
use Rattle.rules.specs.PlanFile.{same, same_sharding}
use Rattle.types.specs.Types.{numbers_of}
use Rattle.types.specs.declared.Axis.{Axis}

-- lists whose axes are compared one by one
pub same-numbers : (equal : Axis → Axis → Bool) → ((x y : Axis) → equal x y ≡ eqb x.0 y.0) → (xs ys : List Axis)
    → pointwise equal xs ys ≡ same (numbers_of xs) (numbers_of ys)
unfolding same numbers_of
same-numbers equal e [] [] = refl
same-numbers equal e [] (y ∷ ys) = refl
same-numbers equal e (x ∷ xs) [] = refl
same-numbers equal e (x ∷ xs) (y ∷ ys) = ap₂ ◌&&◌ (e x y) (same-numbers equal e xs ys)

-- ---- shardings, list for list

module _ (s r : Sharding) where
  pub dims-differ : both same s.dims r.dims ≡ false → same_sharding s r ≡ false
  unfolding same_sharding
  dims-differ e = rw e refl

  module _ (e : both same s.dims r.dims ≡ true) where
    pub unreduced-differ : same s.unreduced r.unreduced ≡ false → same_sharding s r ≡ false
    unfolding same_sharding
    unreduced-differ f = rw (e, f) refl

    pub replicated-decides : same s.unreduced r.unreduced ≡ true → same_sharding s r ≡ same s.replicated r.replicated
    unfolding same_sharding
    replicated-decides f = rw (e, f) refl
