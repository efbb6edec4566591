-- Laws of what the code's lists of axes stand for: the length of one, the axis at a place, one axis more, and that a list is read back (`list-axes`).
-- `full` is what the prover knows of every AxisList: it has a place for each axis. Assumes nothing.
use Prim.Native.Nat.{ℕ, zero, suc, ◌+◌, ◌≤◌, ◌<◌, min}
use mathlib.Core.Path.{◌≡◌, refl, ap, sym, ◌∙◌}
use mathlib.Core.List.{List, [], ◌∷◌, map, ◌++◌}
use native.Mathlib.Numerals.{add-one}
use native.Mathlib.Omega.{arith}
use lib.ListN.{set, length, length-map, length-take, get_or, take, get_or-map, get_or-eq_default}
use lib.Seq.{take-suc-set, get_or-take}
use Rattle.rules.specs.Limits.{most_axes}
use Rattle.std.proofs.lemmas.List.{take-map, take_min}
use Rattle.types.specs.Types.{axes_of, numbers_of, kind_meaning, kind_from, list_from}
use Rattle.std.specs.Prelude.{Ok}
use Rattle.types.specs.declared.Kind.{Kind}
use Rattle.types.specs.declared.Kind.TheVariants.{AllSlice, AllGather, AllReduce, AllToAll, ReduceScatter}
use Rattle.types.specs.declared.Axis.{Axis}
use Rattle.types.specs.declared.AxisList.{AxisList}
use Rattle.laws.proofs.Lists.{any-default}

pub map-set : {A B : Type 0} (f : A → B) (l : List A) (i : ℕ) (y : A) → map f (set l i y) ≡ set (map f l) i (f y)
map-set f [] i y = refl
map-set f (x ∷ xs) zero y = refl
map-set {B = B} f (x ∷ xs) (suc i) y = ap (λ (zs : List B). f x ∷ zs) (map-set f xs i y)

-- the size of an axis, in its place and past the last
pub size_in : (l : List ℕ) (n a : ℕ) → a < n → a < length l → get_or l a 0 ≡ get_or (take n l) a 1
size_in l n a h k = any-default l a 0 1 k ∙ sym (get_or-take n l a 1 h)

pub size-past : (l : List ℕ) (n a : ℕ) → min n (length l) ≤ a → 1 ≡ get_or (take n l) a 1
size-past l n a h = sym (get_or-eq_default (take n l) 1 (omega (arith, length-take n l)))

-- the places that are used
pub axes-front : (l : AxisList) → numbers_of (take (length (axes_of l)) l.axes) ≡ axes_of l
unfolding axes_of numbers_of
axes-front l =
    let s : List ℕ = map (λ (a : Axis). a.0) l.axes in
    sym (take-map (λ (a : Axis). a.0) (length (axes_of l)) l.axes) ∙ ap (λ (n : ℕ). take n s) (length-take l.count s) ∙ take_min l.count s

pub axes-few : (l : AxisList) → length (axes_of l) ≤ length l.axes
unfolding axes_of
axes-few l = omega (arith, length-take l.count (map (λ (a : Axis). a.0) l.axes), length-map l.axes (λ (a : Axis). a.0))

module _ (l : AxisList) (full : length l.axes ≡ most_axes) where
  pub axes-length : length (axes_of l) ≡ min l.count most_axes
  unfolding axes_of
  axes-length = length-take l.count (map (λ (a : Axis). a.0) l.axes) ∙ ap (min l.count) (length-map l.axes (λ (a : Axis). a.0) ∙ full)

  pub axis-at : (i : ℕ) → i < length (axes_of l) → (get_or l.axes i (record { 0 = 0 })).0 ≡ get_or (axes_of l) i 0
  unfolding axes_of
  axis-at i h =
      let s : List ℕ = map (λ (a : Axis). a.0) l.axes in
      sym (get_or-take l.count s i 0 (omega (arith, length-take l.count s)) ∙ get_or-map (λ (a : Axis). a.0) l.axes i (record { 0 = 0 }))

  -- the axes of the list with one more stored at its end
  pub axes-with : (a : Axis) → l.count < most_axes → axes_of (record { count = l.count + 1; axes = set l.axes l.count a; align = l.align }) ≡ axes_of l ++ (a.0 ∷ [])
  unfolding axes_of
  axes-with a h =
      rw (add-one l.count, map-set (λ (b : Axis). b.0) l.axes l.count a)
      (take-suc-set (map (λ (b : Axis). b.0) l.axes) l.count a.0 (simp length-map (omega (arith, full))))

-- a list with a place for each of its axes
pub list-axes : (l : List ℕ) → length l ≤ most_axes → axes_of (list_from l) ≡ l
unfolding axes_of list_from
list-axes [] h = refl
list-axes (a ∷ []) h = refl
list-axes (a ∷ b ∷ []) h = refl
list-axes (a ∷ b ∷ c ∷ []) h = refl
list-axes (a ∷ b ∷ c ∷ d ∷ []) h = refl
list-axes (a ∷ b ∷ c ∷ d ∷ e ∷ []) h = refl
list-axes (a ∷ b ∷ c ∷ d ∷ e ∷ f ∷ []) h = refl
list-axes (a ∷ b ∷ c ∷ d ∷ e ∷ f ∷ g ∷ l) h = absurd (omega (arith, h))

-- a kind is read back
pub kind-same : (k : Kind) → kind_from (kind_meaning k) ≡ Ok k
kind-same AllSlice = refl
kind-same AllGather = refl
kind-same AllReduce = refl
kind-same AllToAll = refl
kind-same ReduceScatter = refl
