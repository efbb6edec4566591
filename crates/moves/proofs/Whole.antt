-- A whole step: what each part of its set-up asks (`dims-asked`, `adding-asked`, `mesh-asked`), that the digits are those of the step
-- (`digits_are`), and that the copy is then one that the code can do, and leaves the step's words (`copy-asked`, `copy-leaves`). Assumes nothing.
use Prim.Native.Nat.{ℕ, zero, suc, ◌+◌, ◌*◌, ◌≤◌, ◌<◌}
use mathlib.Core.Path.{◌≡◌, refl, sym, ap, ◌∙◌}
use mathlib.Core.List.{List, [], ◌∷◌}
use native.Mathlib.Nat.{mul_comm, mul-le-mul, mul-le-mul_right, le-mul_of_pos_right}
use native.Mathlib.Omega.{arith}
use lib.ListN.{length, get_or, set, drop, replicate, length-replicate}
use Rattle.rules.specs.Lists.{flat, product}
use Rattle.rules.specs.Spread.{from}
use Rattle.laws.proofs.Lists.{few-distinct}
use Rattle.laws.proofs.Positions.{pos_of_lt}
use Rattle.strided.specs.Strided.{counted, Copy, copied}
use Rattle.mesh.specs.Fitting.{Factors}
use Rattle.mesh.proofs.Sizes.{fit-sizes}
use Rattle.digits.specs.Digits.{most_room, mesh_strides, cleared, mesh_digits, Devices}
use Rattle.digits.proofs.Strides.{pos-left, strides-length, cleared-length}
use Rattle.moves.specs.Moves.{moved_shape, digit_room, moved_first, left, first_strides, device_strides, step_digits, Moving, Along, Reading, Adding, Dimensions, DimensionsAt, Setting}
use Rattle.moves.proofs.Leads.{Step, shard-length, counted-dims, left-length, device-length, copy-ok, copied_is}

-- ---- strides are small

set-zero : (l : List ℕ) (a k : ℕ) → get_or (set l a 0) k 0 ≤ get_or l k 0
set-zero [] a k = omega arith
set-zero (x ∷ xs) zero zero = omega arith
set-zero (x ∷ xs) zero (suc k) = omega arith
set-zero (x ∷ xs) (suc a) zero = omega arith
set-zero (x ∷ xs) (suc a) (suc k) = set-zero xs a k

cleared-le : (L strides : List ℕ) (k : ℕ) → get_or (cleared L strides) k 0 ≤ get_or strides k 0
cleared-le [] strides k = omega arith
cleared-le (a ∷ L) strides k = omega (arith, cleared-le L strides k, set-zero (cleared L strides) a k)

left_le : (Gs : List (List ℕ)) (strides : List ℕ) (k : ℕ) → get_or (left Gs strides) k 0 ≤ get_or strides k 0
left_le [] strides k = omega arith
left_le (G ∷ Gs) strides k = omega (arith, left_le Gs strides k, cleared-le G (left Gs strides) k)

strides-le : (mesh : List ℕ) (m k : ℕ) → 0 < product mesh → get_or (mesh_strides mesh m) k 0 ≤ product mesh * m
strides-le [] m k h = omega arith
strides-le (s ∷ ss) m zero h =
    let p : product ss ≤ s * product ss = rw (mul_comm s (product ss)) (le-mul_of_pos_right (product ss) (pos-left s (product ss) h)) in
    mul-le-mul_right {m = product ss} {n = s * product ss} m p
strides-le (s ∷ ss) m (suc k) h =
    let p : product ss ≤ s * product ss = rw (mul_comm s (product ss)) (le-mul_of_pos_right (product ss) (pos-left s (product ss) h)) in
    omega (arith, strides-le ss m k (pos_of_lt s (product ss) h), mul-le-mul_right {m = product ss} {n = s * product ss} m p)

zeros-at : (n k : ℕ) → get_or {A = ℕ} (replicate n 0) k 0 ≡ 0
zeros-at zero k = refl
zeros-at (suc n) zero = refl
zeros-at (suc n) (suc k) = zeros-at n k

pub step_of : {mesh shape : List ℕ} {Gs Ss : List (List ℕ)} → Moving mesh shape Gs Ss → Step mesh shape Gs Ss
step_of v = record {
  some = v.on.devices_pos;
  new_pos = v.new_pos;
  gathers = v.gathers;
  slices = v.slices;
  once = v.gathered_once;
}

-- ---- the set-up

module _ {digits strides added mesh shape L : List ℕ} {Gs Ss : List (List ℕ)} {words : ℕ} (t : Setting digits strides added mesh shape L Gs Ss words) where
  abbrev Z : List ℕ
  Z = first_strides mesh shape L

  pub shape-asked : Factors shape
  shape-asked = record { some = t.step.old_pos; few = t.step.old_few }

  pub mesh-sizes : Factors mesh
  mesh-sizes = fit-sizes t.step.on

  pub strides-asked : Reading strides mesh L (product shape)
  strides-asked = record {
    has = record { on = t.step.on; places = t.strides_places };
    few = mul-le-mul t.step.on.devices_few t.step.old_few;
    of_mesh = t.along.of_mesh;
  }

  read_length : length Z ≡ length mesh
  read_length = cleared-length L (mesh_strides mesh (product shape)) ∙ strides-length mesh (product shape)

  added-length : length added ≡ length mesh
  added-length = ap length t.none ∙ length-replicate (length mesh) 0

  pub dims-asked : (strides' : List ℕ) → strides' ≡ Z → Dimensions digits strides' added mesh shape Gs Ss
  dims-asked strides' e = record {
    step = t.step;
    room = omega (
      arith,
      t.room,
      t.step.on.axes_few,
      t.step.rank,
      few-distinct (length mesh) (flat Gs) t.step.gathered_once t.step.gathered,
    );
    strides_places = ap length e ∙ read_length;
    added_places = added-length;
    none = λ k. ap (λ (l : List ℕ). get_or l k 0) t.none ∙ zeros-at (length mesh) k;
  }

  module _ {digits' strides' added' : List ℕ} {end count w : ℕ} (d : DimensionsAt mesh shape Gs Ss Z added digits' strides' added' end count w 0) where
    strides-length-of : length strides' ≡ length mesh
    strides-length-of = ap length d.strides_are ∙ left-length Gs Z ∙ read_length

    pub adding-asked : length added' ≡ length added → Adding strides' added'
    adding-asked e = record {
      places = e ∙ added-length ∙ sym strides-length-of;
      few = λ k.
          let z : get_or strides' k 0 ≤ most_room =
          rw d.strides_are (omega (
            arith,
            left_le Gs Z k,
            cleared-le L (mesh_strides mesh (product shape)) k,
            strides-le mesh (product shape) k t.step.on.devices_pos,
            strides-asked.few,
          )) in
          omega (arith, d.added_few k, few-distinct (length mesh) (flat Ss) t.step.sliced_once t.step.sliced, t.step.on.axes_few);
    }

    pub mesh-asked : (strides'' : List ℕ) → length strides'' ≡ length strides' → length digits' ≡ length digits → Devices digits' strides'' mesh end words
    mesh-asked strides'' e lr =
        let count_is : words ≡ counted (drop end digits') =
        t.words_are ∙ sym (counted-dims mesh shape _ Gs Z (shard-length mesh shape Ss t.step.slices) t.step.gathers)
        ∙ ap counted (sym d.made) in
        let ng : length (flat Gs) ≤ length mesh = few-distinct (length mesh) (flat Gs) t.step.gathered_once t.step.gathered in
        let rr : end + 3 * (length shape + length (flat Gs)) ≡ length digits' = d.room_is in
        record {
          front = record {
            room = omega (arith, t.room, t.step.on.axes_few, t.step.rank);
            inside = omega arith;
            count = count_is;
            filled = rw t.words_are t.step.new_pos;
          };
          has = record { on = t.step.on; places = e ∙ strides-length-of };
          few = rw t.words_are (mul-le-mul t.step.on.devices_few t.step.new_few);
        }

    -- the digits are those of the step
    pub digits_are : (digits'' : List ℕ) (first : ℕ) → drop first digits'' ≡ mesh_digits mesh (from strides' added') (drop end digits')
        → drop first digits'' ≡ step_digits mesh shape L Gs Ss
    digits_are digits'' first e = e ∙ (rw (d.made, d.strides_are, d.added_are, t.none))

  -- ---- the copy

  step_is : Step mesh shape Gs Ss
  step_is = step_of t.step

  some-digits : 0 < length (step_digits mesh shape L Gs Ss)
  some-digits = go mesh (device_strides mesh shape L Gs Ss) _ t.step.on.axes_some (device-length mesh shape L Gs Ss step_is t.along)
    where
      go : (ss strides r : List ℕ) → 0 < length ss → length strides ≡ length ss → 0 < length (mesh_digits ss strides r)
      go [] strides r h g = absurd (omega arith)
      go (s ∷ ss) [] r h g = absurd (omega arith)
      go (s ∷ ss) (z ∷ strides) r h g = omega arith

  pub copy-asked : (digits : List ℕ) (n room : ℕ) → digits ≡ step_digits mesh shape L Gs Ss → n ≡ product mesh * words
      → product mesh * product shape ≤ room
      → Copy digits n 0 room
  copy-asked digits n room es en k = rw (es, en, t.words_are) (copy-ok mesh shape L Gs Ss step_is t.along room some-digits k)

  pub copy-leaves : {W : Type 0} (z : W) (digits : List ℕ) (n : ℕ) (old : List W) → digits ≡ step_digits mesh shape L Gs Ss → n ≡ product mesh * words
      → copied z digits n 0 old ≡ moved_first z mesh L Gs Ss shape old
  copy-leaves z digits n old es en = rw (es, en, t.words_are) (copied_is mesh shape L Gs Ss step_is t.along z old)

-- a step with new places for its digits and strides
pub setting : {mesh shape L : List ℕ} {Gs Ss : List (List ℕ)} {words : ℕ} → Moving mesh shape Gs Ss → Along mesh L
    → words ≡ product (moved_shape mesh shape Gs Ss)
    → Setting (replicate digit_room 0) (replicate (length mesh) 0) (replicate (length mesh) 0) mesh shape L Gs Ss words
setting {mesh} m a w = record {
  step = m;
  along = a;
  room = length-replicate {A = ℕ} digit_room 0;
  strides_places = length-replicate {A = ℕ} (length mesh) 0;
  none = refl;
  words_are = w;
}

-- a group along no axes
pub own-along : {mesh L : List ℕ} → L ≡ [] → Along mesh L
own-along e = rw e (record { of_mesh = λ a i. absurd i; once = tt })
