-- The digits of a step lead each word to its source (`leads`), which is within the old words (`source_in`). So the step is a copy that the code
-- can do (`copy-ok`), and what it leaves is the step of the rules (`copied_is`). Assumes nothing.
use Prim.Native.Nat.{ℕ, zero, suc, ◌+◌, ◌*◌, ◌/◌, ◌%◌, ◌≤◌, ◌<◌}
use mathlib.Core.Path.{◌≡◌, refl, sym, ap, ◌∙◌}
use mathlib.Core.List.{List, [], ◌∷◌}
use native.Mathlib.Nat.{mul_assoc, mul_comm, mul-add, add-mul, zero-mul, mul-zero, mul-pos, mod-lt, div-mul-le_self}
use native.Mathlib.Omega.{arith}
use lib.ListN.{length, get_or, replicate, length-set, length-replicate}
use lib.Arith.{digits_lt}
use Rattle.rules.specs.Lists.{flat, product, In, Distinct, Below, none, more}
use Rattle.rules.specs.Mesh.{number, coords, span, position, member}
use Rattle.rules.specs.Sharding.{shard_sizes, first_indexes}
use Rattle.rules.specs.Spread.{from, tabulate, held}
use Rattle.rules.specs.Collectives.{grown, owner, within}
use Rattle.laws.proofs.Lists.{distinct-split, tab-cong}
use Rattle.laws.proofs.Positions.{pos_of_lt, div-lt, position-lt, length-member, below-member}
use Rattle.laws.proofs.Shapes.{Cut, cut, uncut, below-owner, owner-member}
use Rattle.laws.proofs.Buffers.{number_lt, below-coords}
use Rattle.strided.specs.Strided.{counted, offset, Nested, Copy, copied}
use Rattle.digits.specs.Digits.{mesh_strides, dot, push, cleared, axis_digits}
use Rattle.mesh.proofs.Sizes.{mod-div, mod-mod-right, group-pos}
use Rattle.digits.proofs.Strides.{
  pos-left,
  div-mul,
  strides-length,
  coords-length,
  cleared-length,
  dot-strides,
  dot-more,
  member_part,
  no_part,
  dot-member,
  counted-axes,
  offset-axes,
  nested-axes,
  counted-mesh,
  offset-mesh,
  nested-mesh,
}
use Rattle.moves.specs.Moves.{moved_shape, moved_first, left, dim_digits, with_slice, with_slices, first_strides, device_strides, step_digits, Along}

-- ---- lengths

pub shard-length : (mesh ns : List ℕ) (Ss : List (List ℕ)) → length Ss ≡ length ns → length (shard_sizes mesh ns Ss) ≡ length ns
shard-length mesh [] Ss h = refl
shard-length mesh (n ∷ ns) [] h = absurd (omega arith)
shard-length mesh (n ∷ ns) (S ∷ Ss) h = ap suc (shard-length mesh ns Ss (omega arith))

grown-length : (mesh ws : List ℕ) (Gs : List (List ℕ)) → length Gs ≡ length ws → length (grown mesh Gs ws) ≡ length ws
grown-length mesh [] Gs h = refl
grown-length mesh (w ∷ ws) [] h = absurd (omega arith)
grown-length mesh (w ∷ ws) (G ∷ Gs) h = ap suc (grown-length mesh ws Gs (omega arith))

pub from-length : (strides added : List ℕ) → length added ≡ length strides → length (from strides added) ≡ length strides
from-length [] added h = refl
from-length (z ∷ strides) [] h = absurd (omega arith)
from-length (z ∷ strides) (y ∷ added) h = ap suc (from-length strides added (omega arith))

pub left-length : (Gs : List (List ℕ)) (strides : List ℕ) → length (left Gs strides) ≡ length strides
left-length [] strides = refl
left-length (G ∷ Gs) strides = cleared-length G (left Gs strides) ∙ left-length Gs strides

slice-length : (mesh S : List ℕ) (v : ℕ) (added : List ℕ) → length (with_slice mesh S v added) ≡ length added
slice-length mesh [] v added = refl
slice-length mesh (a ∷ S) v added = length-set (with_slice mesh S v added) a _ ∙ slice-length mesh S v added

slices-length : (mesh ns ws : List ℕ) (Ss : List (List ℕ)) (added : List ℕ) → length (with_slices mesh ns ws Ss added) ≡ length added
slices-length mesh [] ws Ss added = refl
slices-length mesh (n ∷ ns) [] Ss added = refl
slices-length mesh (n ∷ ns) (w ∷ ws) [] added = refl
slices-length mesh (n ∷ ns) (w ∷ ws) (S ∷ Ss) added = slice-length mesh S (w * product ns) (with_slices mesh ns ws Ss added)
    ∙ slices-length mesh ns ws Ss added

-- ---- sums of strides

dot-from : (strides added xs : List ℕ) → length added ≡ length strides → dot (from strides added) xs ≡ dot strides xs + dot added xs
dot-from [] [] xs h = refl
dot-from [] (y ∷ added) xs h = absurd (omega arith)
dot-from (z ∷ strides) [] xs h = absurd (omega arith)
dot-from (z ∷ strides) (y ∷ added) [] h = refl
dot-from (z ∷ strides) (y ∷ added) (x ∷ xs) h = omega (arith, mul-add x z y, dot-from strides added xs (omega arith))

dot-zeros : (n : ℕ) (xs : List ℕ) → dot (replicate n 0) xs ≡ 0
dot-zeros zero xs = refl
dot-zeros (suc n) [] = refl
dot-zeros (suc n) (x ∷ xs) = omega (arith, mul-zero x, dot-zeros n xs)

-- ---- the digits of the dimensions

pub counted-dims : (mesh ns ws : List ℕ) (Gs : List (List ℕ)) (strides : List ℕ) → length ws ≡ length ns → length Gs ≡ length ns
    → counted (dim_digits mesh ns ws Gs strides) ≡ product (grown mesh Gs ws)
counted-dims mesh [] [] Gs strides h g = refl
counted-dims mesh [] (w ∷ ws) Gs strides h g = absurd (omega arith)
counted-dims mesh (n ∷ ns) [] Gs strides h g = absurd (omega arith)
counted-dims mesh (n ∷ ns) (w ∷ ws) [] strides h g = absurd (omega arith)
counted-dims mesh (n ∷ ns) (w ∷ ws) (G ∷ Gs) strides h g =
    counted-axes mesh G (left Gs strides) (push w (product ns) (dim_digits mesh ns ws Gs strides))
    ∙ rw (counted-dims mesh ns ws Gs strides (omega arith) (omega arith), mul_assoc)

nested-dims : (mesh ns ws : List ℕ) (Gs : List (List ℕ)) (strides : List ℕ) → Nested (dim_digits mesh ns ws Gs strides)
nested-dims mesh [] ws Gs strides = tt
nested-dims mesh (n ∷ ns) [] Gs strides = tt
nested-dims mesh (n ∷ ns) (w ∷ ws) [] strides = tt
nested-dims mesh (n ∷ ns) (w ∷ ws) (G ∷ Gs) strides =
    nested-axes mesh G (left Gs strides) (push w (product ns) (dim_digits mesh ns ws Gs strides)) (refl, nested-dims mesh ns ws Gs strides)

sum-up : (A U N B O L M T : ℕ) → A + N ≡ B + O → B ≡ L + M → T ≡ M + (U + O) → A + (U + N) ≡ L + T
sum-up A U N B O L M T p q r = omega arith

-- they lead from the device to the owner's shard, and to the index there
offset-dims : (mesh ns ws : List ℕ) (Gs : List (List ℕ)) (strides : List ℕ) (o : ℕ) (x : List ℕ) → length ws ≡ length ns → length Gs ≡ length ns
    → length x ≡ length strides → 0 < product (grown mesh Gs ws) → o < product (grown mesh Gs ws) → Distinct (flat Gs)
    → dot strides (owner mesh Gs ws (coords (grown mesh Gs ws) o) x) + number ns (within ws (coords (grown mesh Gs ws) o))
    ≡ dot (left Gs strides) x + offset (dim_digits mesh ns ws Gs strides) o
offset-dims mesh [] [] [] strides o x h g k p q d = refl
offset-dims mesh [] [] (G ∷ Gs) strides o x h g k p q d = absurd (omega arith)
offset-dims mesh [] (w ∷ ws) Gs strides o x h g k p q d = absurd (omega arith)
offset-dims mesh (n ∷ ns) [] Gs strides o x h g k p q d = absurd (omega arith)
offset-dims mesh (n ∷ ns) (w ∷ ws) [] strides o x h g k p q d = absurd (omega arith)
offset-dims mesh (n ∷ ns) (w ∷ ws) (G ∷ Gs) strides o x h g k p q d =
    let r : List ℕ = dim_digits mesh ns ws Gs strides in
    let e : ℕ = span mesh G in
    let R : ℕ = product (grown mesh Gs ws) in
    let i : ℕ = o / R in
    let y : List ℕ = member mesh G (i / w) x in
    let rest : List ℕ = coords (grown mesh Gs ws) (o % R) in
    let s : Distinct G × Distinct (flat Gs) × ((a : ℕ) → In a G → ¬ In a (flat Gs)) = distinct-split G (flat Gs) d in
    let tr : counted r ≡ R = counted-dims mesh ns ws Gs strides (omega arith) (omega arith) in
    let pr : 0 < R = pos_of_lt (e * w) R p in
    let pw : 0 < w = pos_of_lt e w (pos-left (e * w) R p) in
    let pe : 0 < e = pos-left e w (pos-left (e * w) R p) in
    let ih : dot strides (owner mesh Gs ws rest y) + number ns (within ws rest) ≡ dot (left Gs strides) y + offset r (o % R) =
    offset-dims mesh ns ws Gs strides (o % R) y (omega arith) (omega arith) (length-member mesh G (i / w) x ∙ k) pr (mod-lt o pr) s.1 in
    let dm : dot (left Gs strides) y ≡ dot (cleared G (left Gs strides)) x + member_part mesh G (left Gs strides) (i / w) =
    dot-member mesh G (left Gs strides) (i / w) x s.0 (k ∙ sym (left-length Gs strides)) in
    let wr : 0 < w * R = mul-pos pw pr in
    let D : List ℕ = axis_digits mesh G (left Gs strides) (push w (product ns) r) in
    let ea : offset D o ≡ member_part mesh G (left Gs strides) (o / (w * counted r)) + offset (push w (product ns) r) (o % (w * counted r)) =
    offset-axes mesh G (left Gs strides) (push w (product ns) r) o pe (rw tr wr) (rw (tr, ← mul_assoc e w R) q) in
    let M : ℕ = member_part mesh G (left Gs strides) (i / w) in
    let U : ℕ = i % w * product ns in
    let eb : offset D o ≡ M + (U + offset r (o % R)) = ea ∙ (rw (tr, div-mul o w R, mod-div o pw pr, mod-mod-right o pw pr)) in
    ap (λ (z : ℕ). z + (U + number ns (within ws rest)))
    (ap (dot strides) (sym (owner-member mesh Gs ws rest G (i / w) x (λ a u j. s.2 a j u))))
    ∙ sum-up (dot strides (owner mesh Gs ws rest y)) U (number ns (within ws rest)) (dot (left Gs strides) y) (offset r (o % R))
    (dot (cleared G (left Gs strides)) x) M
    (offset D o) ih dm eb

-- ---- slices

dot-slice : (mesh S : List ℕ) (v : ℕ) (added x : List ℕ) → length x ≡ length added → dot (with_slice mesh S v added) x ≡ position mesh S x * v + dot added x
dot-slice mesh [] v added x h = omega (arith, zero-mul v)
dot-slice mesh (a ∷ S) v added x h =
    rw (dot-more (with_slice mesh S v added) x a (span mesh S * v) (h ∙ sym (slice-length mesh S v added)), dot-slice mesh S v added x h)
    (omega (arith, add-mul (get_or x a 0 * span mesh S) (position mesh S x) v, mul_assoc (get_or x a 0) (span mesh S) v))

-- what the slices add leads to the first index of the device's piece
dot-slices : (mesh ns ws : List ℕ) (Ss : List (List ℕ)) (added i x : List ℕ) → length ws ≡ length ns → length Ss ≡ length ns → length i ≡ length ns
    → length x ≡ length added
    → number ns (from (first_indexes mesh Ss ws x) (within ws i)) + dot added x ≡ number ns (within ws i) + dot (with_slices mesh ns ws Ss added) x
dot-slices mesh [] ws Ss added i x h g j k = refl
dot-slices mesh (n ∷ ns) [] Ss added i x h g j k = absurd (omega arith)
dot-slices mesh (n ∷ ns) (w ∷ ws) [] added i x h g j k = absurd (omega arith)
dot-slices mesh (n ∷ ns) (w ∷ ws) (S ∷ Ss) added [] x h g j k = absurd (omega arith)
dot-slices mesh (n ∷ ns) (w ∷ ws) (S ∷ Ss) added (t ∷ i) x h g j k =
    let P : ℕ = product ns in
    omega (
      arith,
      dot-slices mesh ns ws Ss added i x (omega arith) (omega arith) (omega arith) k,
      dot-slice mesh S (w * P) (with_slices mesh ns ws Ss added) x (k ∙ sym (slices-length mesh ns ws Ss added)),
      add-mul (position mesh S x * w) (t % w) P,
      mul_assoc (position mesh S x) w P,
    )

-- ---- where the source is

-- pieces that are gathered make up the new sizes
grown-cut : (mesh ws : List ℕ) (Gs : List (List ℕ)) → length Gs ≡ length ws → Cut mesh Gs (grown mesh Gs ws) ws
grown-cut mesh [] [] h = uncut
grown-cut mesh [] (G ∷ Gs) h = absurd (omega arith)
grown-cut mesh (w ∷ ws) [] h = absurd (omega arith)
grown-cut mesh (w ∷ ws) (G ∷ Gs) h = cut (mul_comm (span mesh G) w) (grown-cut mesh ws Gs (omega arith))

index_below : (mesh ns : List ℕ) (Gs Ss : List (List ℕ)) {i x : List ℕ} → 0 < product mesh → Below x mesh → length Gs ≡ length ns → length Ss
    ≡ length ns
    → Below i (grown mesh Gs (shard_sizes mesh ns Ss)) → 0 < product (grown mesh Gs (shard_sizes mesh ns Ss))
    → Below (from (first_indexes mesh Ss (shard_sizes mesh ns Ss) x) (within (shard_sizes mesh ns Ss) i)) ns
index_below mesh [] Gs Ss some bx g s b p = none
index_below mesh (n ∷ ns) Gs [] some bx g s b p = absurd (omega arith)
index_below mesh (n ∷ ns) [] (S ∷ Ss) some bx g s b p = absurd (omega arith)
index_below mesh (n ∷ ns) (G ∷ Gs) (S ∷ Ss) {x} some bx g s (more {x = t} l b) p =
    let w : ℕ = n / span mesh S in
    let R : ℕ = product (grown mesh Gs (shard_sizes mesh ns Ss)) in
    let pw : 0 < w = pos_of_lt (span mesh G) w (pos-left (span mesh G * w) R p) in
    let u : position mesh S x * w + t % w < span mesh S * w = digits_lt (position-lt mesh S bx) (mod-lt t pw) in
    let inside : position mesh S x * w + t % w < n = omega (arith, u, mul_comm (span mesh S) w, div-mul-le_self n (span mesh S)) in
    more inside (index_below mesh ns Gs Ss some bx (omega arith) (omega arith) b (pos_of_lt (span mesh G * w) R p))

-- ---- the first member of a group

length-owner : (mesh : List ℕ) (Gs : List (List ℕ)) (ns i x : List ℕ) → length (owner mesh Gs ns i x) ≡ length x
length-owner mesh Gs [] i x = refl
length-owner mesh [] (n ∷ ns) i x = refl
length-owner mesh (G ∷ Gs) (n ∷ ns) [] x = refl
length-owner mesh (G ∷ Gs) (n ∷ ns) (j ∷ i) x = length-member mesh G (j / n) (owner mesh Gs ns i x) ∙ length-owner mesh Gs ns i x

-- where the group's strides are cleared, a device's place is that of its group's first member
dot-first : (mesh L : List ℕ) (m : ℕ) (x : List ℕ) → Distinct L → length x ≡ length mesh
    → dot (cleared L (mesh_strides mesh m)) x ≡ number mesh (member mesh L 0 x) * m
dot-first mesh L m x d h =
    let e = dot-member mesh L (mesh_strides mesh m) 0 x d (h ∙ sym (strides-length mesh m)) in
    omega (arith, e, no_part mesh L (mesh_strides mesh m), dot-strides mesh (member mesh L 0 x) m)

-- ---- a whole step

pub record Step (mesh shape : List ℕ) (Gs Ss : List (List ℕ)) : Type 0 where
  pub some : 0 < product mesh
  pub new_pos : 0 < product (moved_shape mesh shape Gs Ss)
  pub gathers : length Gs ≡ length shape
  pub slices : length Ss ≡ length shape
  pub once : Distinct (flat Gs)

module _ (mesh shape L : List ℕ) (Gs Ss : List (List ℕ)) (v : Step mesh shape Gs Ss) (al : Along mesh L) where
  abbrev ws : List ℕ
  ws = shard_sizes mesh shape Ss

  abbrev strides : List ℕ
  strides = first_strides mesh shape L

  abbrev dims : List ℕ
  dims = dim_digits mesh shape ws Gs strides

  abbrev R : ℕ
  R = product (grown mesh Gs ws)

  ws-length : length ws ≡ length shape
  ws-length = shard-length mesh shape Ss v.slices

  new-words : counted dims ≡ R
  new-words = counted-dims mesh shape ws Gs strides ws-length v.gathers

  added-length : length (with_slices mesh shape ws Ss (replicate (length mesh) 0)) ≡ length mesh
  added-length = slices-length mesh shape ws Ss (replicate (length mesh) 0) ∙ length-replicate (length mesh) 0

  read_length : length strides ≡ length mesh
  read_length = cleared-length L (mesh_strides mesh (product shape)) ∙ strides-length mesh (product shape)

  kept-length : length (left Gs strides) ≡ length mesh
  kept-length = left-length Gs strides ∙ read_length

  pub device-length : length (device_strides mesh shape L Gs Ss) ≡ length mesh
  device-length = from-length (left Gs strides) (with_slices mesh shape ws Ss (replicate (length mesh) 0)) (added-length ∙ sym kept-length) ∙ kept-length

  pub step-counted : counted (step_digits mesh shape L Gs Ss) ≡ product mesh * R
  step-counted = counted-mesh mesh (device_strides mesh shape L Gs Ss) dims device-length ∙ (rw new-words)

  step-nested : Nested (step_digits mesh shape L Gs Ss)
  step-nested = nested-mesh mesh (device_strides mesh shape L Gs Ss) dims (nested-dims mesh shape ws Gs strides)

  -- the source of word o of the new shard of device d
  abbrev source : ℕ → ℕ → ℕ
  source d o =
      number mesh (member mesh L 0 (owner mesh Gs ws (coords (grown mesh Gs ws) o) (coords mesh d))) * product shape
      + number shape (from (first_indexes mesh Ss ws (coords mesh d)) (within ws (coords (grown mesh Gs ws) o)))

  leads : (t : ℕ) → t < product mesh * R → offset (step_digits mesh shape L Gs Ss) t ≡ source (t / R) (t % R)
  leads t h =
      let m : ℕ = product shape in
      let bare : List ℕ = replicate (length mesh) 0 in
      let added : List ℕ = with_slices mesh shape ws Ss bare in
      let D : List ℕ = device_strides mesh shape L Gs Ss in
      let x : List ℕ = coords mesh (t / R) in
      let i : List ℕ = coords (grown mesh Gs ws) (t % R) in
      let xl : length x ≡ length mesh = coords-length mesh (t / R) in
      let om : offset (step_digits mesh shape L Gs Ss) t ≡ dot D (coords mesh (t / counted dims)) + offset dims (t % counted dims) =
      offset-mesh mesh D dims t device-length v.some (rw new-words v.new_pos) (rw new-words h) in
      let om' : offset (step_digits mesh shape L Gs Ss) t ≡ dot D x + offset dims (t % R) = om ∙ (rw new-words) in
      let dp : dot D x ≡ dot (left Gs strides) x + dot added x = dot-from (left Gs strides) added x (added-length ∙ sym kept-length) in
      let od : dot strides (owner mesh Gs ws i x) + number shape (within ws i) ≡ dot (left Gs strides) x + offset dims (t % R) =
      offset-dims mesh shape ws Gs strides (t % R) x ws-length v.gathers (xl ∙ sym read_length) v.new_pos (mod-lt t v.new_pos)
      v.once in
      let y : List ℕ = owner mesh Gs ws i x in
      let ds : dot strides y ≡ number mesh (member mesh L 0 y) * m = dot-first mesh L m y al.once (length-owner mesh Gs ws i x ∙ xl) in
      let st : number shape (from (first_indexes mesh Ss ws x) (within ws i)) + dot bare x ≡ number shape (within ws i) + dot added x =
      dot-slices mesh shape ws Ss bare i x ws-length v.slices
      (coords-length (grown mesh Gs ws) (t % R) ∙ grown-length mesh ws Gs (v.gathers ∙ sym ws-length) ∙ ws-length)
      (xl ∙ sym (length-replicate (length mesh) 0)) in
      add-up (offset (step_digits mesh shape L Gs Ss) t) (dot D x) (offset dims (t % R)) (dot (left Gs strides) x) (dot added x)
      (dot strides (owner mesh Gs ws i x))
      (number shape (within ws i)) (number mesh (member mesh L 0 y) * m) (number shape (from (first_indexes mesh Ss ws x) (within ws i)))
      (dot bare x) om' dp od
      ds st (dot-zeros (length mesh) x)
    where
      add-up : (T D O L Y A N B I Z : ℕ) → T ≡ D + O → D ≡ L + Y → A + N ≡ L + O → A ≡ B → I + Z ≡ N + Y → Z ≡ 0 → T ≡ B + I
      add-up T D O L Y A N B I Z a b c d e f = omega arith

  -- the device whose shard a word comes from, and the index in it
  pub source-below : {x i : List ℕ} → Below x mesh → Below i (grown mesh Gs ws)
      → Below (owner mesh Gs ws i x) mesh × Below (from (first_indexes mesh Ss ws x) (within ws i)) shape
  source-below bx bi = (
    below-owner mesh (grown-cut mesh ws Gs (v.gathers ∙ sym ws-length)) bi bx,
    index_below mesh shape Gs Ss v.some bx v.gathers v.slices bi v.new_pos,
  )

  source_in : (d o : ℕ) → d < product mesh → o < R → source d o < product mesh * product shape
  source_in d o hd ho =
      let bx : Below (coords mesh d) mesh = below-coords mesh d hd in
      let bi : Below (coords (grown mesh Gs ws) o) (grown mesh Gs ws) = below-coords (grown mesh Gs ws) o ho in
      let b = source-below bx bi in
      digits_lt (number_lt (below-member mesh L 0 (group-pos mesh L v.some) b.0)) (number_lt b.1)

  pub copy-ok : (room : ℕ) → 0 < length (step_digits mesh shape L Gs Ss) → product mesh * product shape ≤ room
      → Copy (step_digits mesh shape L Gs Ss) (product mesh * R) 0 room
  copy-ok room h k = record {
    some = h;
    counts = record {
      nested = step-nested;
      whole = sym step-counted;
      filled = mul-pos v.some v.new_pos;
      inside = λ t q. omega (arith, leads t q, source_in (t / R) (t % R) (div-lt (product mesh) R q) (mod-lt t v.new_pos));
    };
  }

  pub copied_is : {W : Type 0} (z : W) (old : List W) → copied z (step_digits mesh shape L Gs Ss) (product mesh * R) 0 old ≡ moved_first z mesh L Gs Ss shape old
  unfolding copied tabulate held
  copied_is z old =
      tab-cong (product mesh * R) _ _ (λ t q.
      let e : 0 + offset (step_digits mesh shape L Gs Ss) t ≡ source (t / R) (t % R) = omega (arith, leads t q) in
      ap (λ (k : ℕ). get_or old k z) e)
