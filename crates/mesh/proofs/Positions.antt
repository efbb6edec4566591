-- Positions and members: what the loop of position_of keeps (`PositionAt`, `position-step`, `position-done`), and the number of a member with one axis
-- more in front (`member-front`). Assumes nothing.
use Prim.Native.Nat.{ℕ, zero, suc, ◌+◌, ◌*◌, ◌/◌, ◌%◌, ◌^◌, ◌<◌, ◌≤◌}
use mathlib.Core.Path.{◌≡◌, refl, sym, ap, ap₂, ◌∙◌}
use mathlib.Core.Logic.{inr}
use mathlib.Core.List.{List, [], ◌∷◌, ◌++◌}
use native.Mathlib.Nat.{mul-one, zero-mul, add-zero, mul-le-mul, pow-suc, pow-le-pow_right, mod-lt}
use native.Mathlib.Numerals.{add-one}
use native.Mathlib.Omega.{arith}
use lib.ListN.{length, get_or, set, take, drop, length-map, get_or-map}
use Rattle.types.specs.Types.{numbers_of}
use Rattle.types.specs.declared.Axis.{Axis}
use lib.Seq.{take-suc, take_all}
use lib.Arith.{digits_lt}
use Rattle.rules.specs.Lists.{product, In, Distinct}
use Rattle.rules.specs.Mesh.{number, coords, devices, span, position, member, OnMesh}
use Rattle.rules.specs.Limits.{most_axes, most_devices}
use Rattle.laws.proofs.Lists.{below_length}
use Rattle.laws.proofs.Positions.{at-below, position-append, below-member, member-other}
use Rattle.laws.proofs.Buffers.{number_lt, below-coords}
use Rattle.mesh.specs.Fitting.{IsPlace}
use Rattle.mesh.proofs.Sizes.{AxisBounds, axis-bounds, group-pos, origin-at}

-- ---- position_of with the digits along the first i axes taken

pub record PositionAt (mesh L x : List ℕ) (q i : ℕ) : Type 0 where
  pub within : i ≤ length L
  pub small : q < most_devices ^ i
  pub same : q ≡ position mesh (take i L) x

-- one digit more, and that the number fits
pub position-step : (mesh L : List ℕ) (p : ℕ) → IsPlace mesh p → {q i : ℕ} → PositionAt mesh L (coords mesh p) q i → (a n c : ℕ)
    → length L ≤ most_axes → i < length L → a ≡ get_or L i 0 → n ≡ get_or mesh a 1 → c ≡ get_or (coords mesh p) a 0
    → PositionAt mesh L (coords mesh p) (q * n + c) (i + 1) × (q * n + c < most_devices ^ most_axes)
position-step mesh L p s {q} {i} g a n c few h ea en ec =
    let x : List ℕ = coords mesh p in
    let b : AxisBounds mesh a = axis-bounds mesh s.on a in
    let lc : c < n = omega (arith, at-below a (below-coords mesh p s.below), ec, en) in
    let w : ℕ = most_devices ^ i in
    let m : w * n ≤ most_devices ^ (i + 1) = rw (add-one i, pow-suc) (mul-le-mul {n₁ = w} {n₂ = w} (omega arith) (omega (arith, en, b.size_few))) in
    let l : q * n + c < most_devices ^ (i + 1) = omega (arith, digits_lt g.small lc, m) in
    let t : take (i + 1) L ≡ take i L ++ a ∷ [] = rw (add-one i, take-suc L i 0 h, ea) refl in (
      record {
        within = omega arith;
        small = l;
        same = ap₂ (λ (p r : ℕ). p + r) (ap₂ (λ (p r : ℕ). p * r) g.same (en ∙ sym (mul-one (get_or mesh a 1)))) (ec ∙ sym (add-zero _ ∙ mul-one _))
            ∙ sym (position-append mesh (take i L) (a ∷ []) x) ∙ ap (λ (l : List ℕ). position mesh l x) (sym t);
      },
      omega (arith, l, pow-le-pow_right {n = most_devices} (omega arith) {i = i + 1} {j = most_axes} (omega arith)),
    )

pub position-done : {mesh L x : List ℕ} {q i : ℕ} → PositionAt mesh L x q i → length L ≤ i → q ≡ position mesh L x
position-done {mesh} {L} {x} {i = i} g h = g.same ∙ ap (λ (l : List ℕ). position mesh l x) (take_all i L h)

-- ---- the axes of a list, as a slice has them

module _ {L : List ℕ} (xs : List Axis) (e : numbers_of xs ≡ L) where
  pub numbers-length : length L ≡ length xs
  unfolding numbers_of
  numbers-length = ap length (sym e) ∙ length-map xs (λ (a : Axis). a.0)

  pub number_at : (i : ℕ) → (get_or xs i (record { 0 = 0 })).0 ≡ get_or L i 0
  unfolding numbers_of
  number_at i = sym (ap (λ (l : List ℕ). get_or l i 0) (sym e) ∙ get_or-map (λ (a : Axis). a.0) xs i (record { 0 = 0 }))

-- ---- the number of a member by its digits

-- a coordinate c replaced by k moves the number by k strides less c strides
number-set : (ns x : List ℕ) (a k : ℕ) → a < length ns → length x ≡ length ns
    → number ns (set x a k) + get_or x a 0 * product (drop (suc a) ns) ≡ k * product (drop (suc a) ns) + number ns x
number-set [] x a k h e = absurd (omega arith)
number-set (n ∷ ns) [] a k h e = absurd (omega arith)
number-set (n ∷ ns) (y ∷ x) zero k h e = omega arith
number-set (n ∷ ns) (y ∷ x) (suc a) k h e = omega (arith, number-set ns x a k (omega arith) (omega arith))

pub span_pos : (mesh : List ℕ) → OnMesh mesh → (L : List ℕ) → 0 < span mesh L
span_pos mesh f L = group-pos mesh L f.devices_pos

module _ (mesh : List ℕ) (f : OnMesh mesh) (L : List ℕ) where
  -- the members of the group at place 0 are on the mesh
  pub member-fits : (q : ℕ) → q < span mesh L → number mesh (member mesh L q (coords mesh 0)) < devices mesh
  member-fits q h = number_lt (below-member mesh L q h (below-coords mesh 0 f.devices_pos))

  -- there the first digit moves a member by its axis's stride
  pub member-front : (a q : ℕ) → a < length mesh → ¬ In a L
      → number mesh (member mesh (a ∷ L) q (coords mesh 0))
      ≡ q / span mesh L * product (drop (a + 1) mesh) + number mesh (member mesh L (q % span mesh L) (coords mesh 0))
  member-front a q h off =
      let x : List ℕ = coords mesh 0 in
      let y : List ℕ = member mesh L (q % span mesh L) x in
      let e : length y ≡ length mesh =
      below_length (below-member mesh L (q % span mesh L) (mod-lt q (span_pos mesh f L)) (below-coords mesh 0 f.devices_pos)) in
      let z : get_or y a 0 * product (drop (suc a) mesh) ≡ 0 =
      ap (λ (c : ℕ). c * product (drop (suc a) mesh)) (member-other mesh L (q % span mesh L) x a off ∙ origin-at mesh a f.devices_pos)
      ∙ zero-mul (product (drop (suc a) mesh)) in
      rw (add-one a) (omega (arith, number-set mesh y a (q / span mesh L) h e, z))

-- ---- the axes that are left

pub distinct-drop : (i : ℕ) (L : List ℕ) → Distinct L → Distinct (drop i L)
distinct-drop zero L d = d
distinct-drop (suc i) [] d = d
distinct-drop (suc i) (a ∷ L) d = distinct-drop i L d.1

pub in-drop : (i : ℕ) (L : List ℕ) (a : ℕ) → In a (drop i L) → In a L
in-drop zero L a h = h
in-drop (suc i) [] a h = h
in-drop (suc i) (b ∷ L) a h = inr (in-drop i L a h)
