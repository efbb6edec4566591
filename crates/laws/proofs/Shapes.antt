-- Laws of sizes, first indexes and owners, dimension by dimension. `Cut` says that shards of the sizes `pieces` make up the sizes `wholes`. The main
-- ones: an index of a piece is one of the whole (`piece-below`), the first index of a piece of a block is that under the joined lists
-- (`first-joined`), and an owner's first index leads back to the index asked for (`first-owner`, `owner-index`); from the first index of a device's block
-- on, the owner is at that device's position (`owner-first`). Assumes nothing.
use Prim.Native.Nat.{ℕ, suc, ◌+◌, ◌*◌, ◌/◌, ◌<◌}
use mathlib.Core.Path.{◌≡◌, refl, sym, ap, ap₂, ◌∙◌, subst}
use mathlib.Core.Logic.{◌⊎◌, inl, inr, ⊎_map, ⊎_elim}
use mathlib.Core.List.{List, [], ◌∷◌, ◌++◌, map}
use native.Mathlib.Nat.{mod-lt, div-add-mod', mul_comm, zero-mul, zero-add}
use native.Mathlib.Omega.{arith}
use lib.ListN.{length, get_or}
use lib.Arith.{digits_lt, digits_div, digits_mod}
use Rattle.rules.specs.Lists.{each, flat, In, Distinct, Below, none, more}
use Rattle.rules.specs.Mesh.{span, position, member}
use Rattle.rules.specs.Sharding.{first_indexes}
use Rattle.rules.specs.Spread.{from}
use Rattle.rules.specs.Collectives.{owner, within}
use Rattle.laws.proofs.Lists.{in_left, in_right, flat_in, of-joined, distinct-split}
use Rattle.laws.proofs.Positions.{
  pos_of_lt,
  div-lt,
  position-agree,
  position-lt,
  position-append,
  length-member,
  below-member,
  agree-member,
  member-other,
  position-member,
  member-member,
}
use Rattle.laws.proofs.Groups.{member-along}

-- Along each dimension the size of a piece times the devices of the list is the size of the whole.
pub data Cut (mesh : List ℕ) : List (List ℕ) → List ℕ → List ℕ → Type 0 where
  uncut : Cut mesh [] [] []
  cut : {S : List ℕ} {Ss : List (List ℕ)} {whole piece : ℕ} {wholes pieces : List ℕ}
      → whole ≡ piece * span mesh S → Cut mesh Ss wholes pieces → Cut mesh (S ∷ Ss) (whole ∷ wholes) (piece ∷ pieces)

-- index i of piece p, of s pieces of n each; and the piece of an index
piece-lt : {p i whole s : ℕ} (n : ℕ) → whole ≡ n * s → p < s → i < n → p * n + i < whole
piece-lt {s} n e h l = rw (e, mul_comm n s) (digits_lt h l)

block-lt : {i whole : ℕ} (n s : ℕ) → whole ≡ n * s → i < whole → i / n < s
block-lt {i} n s e l = div-lt s n (subst (λ z. i < z) (e ∙ mul_comm n s) l)

module _ (mesh : List ℕ) where
  pub cut-lengths : {Ss : List (List ℕ)} {wholes pieces : List ℕ} → Cut mesh Ss wholes pieces → (length Ss ≡ length wholes) × (length Ss ≡ length pieces)
  cut-lengths uncut = (refl, refl)
  cut-lengths (cut e c) = (ap suc (cut-lengths c).0, ap suc (cut-lengths c).1)

  -- ---- first indexes

  pub first-agree : (ds : List (List ℕ)) (ns x y : List ℕ) → ((a : ℕ) → In a (flat ds) → get_or x a 0 ≡ get_or y a 0)
      → first_indexes mesh ds ns x ≡ first_indexes mesh ds ns y
  first-agree ds [] x y h = refl
  first-agree [] (n ∷ ns) x y h = refl
  first-agree (d ∷ ds) (n ∷ ns) x y h =
      ap₂ (λ (p : ℕ) (l : List ℕ). p * n ∷ l) (position-agree mesh d x y (λ a i. h a (in_left a d (flat ds) i)))
      (first-agree ds ns x y (λ a u. h a (in_right a d (flat ds) u)))

  -- an index of a piece, counted from the piece's first index, is an index of the whole
  pub piece-below : {Ss : List (List ℕ)} {wholes pieces x i : List ℕ} → Cut mesh Ss wholes pieces → Below x mesh → Below i pieces
      → Below (from (first_indexes mesh Ss pieces x) i) wholes
  piece-below uncut bx none = none
  piece-below (cut {S} e c) bx (more l b) = more (piece-lt _ e (position-lt mesh S bx) l) (piece-below c bx b)

  -- the first index of a block, and then of a piece in it, is that of the piece under the joined lists
  pub first-joined : (ds : List (List ℕ)) {Ss : List (List ℕ)} {wholes pieces : List ℕ} (x i : List ℕ) → Cut mesh Ss wholes pieces
      → from (first_indexes mesh ds wholes x) (from (first_indexes mesh Ss pieces x) i) ≡ from (first_indexes mesh (each ◌++◌ ds Ss) pieces x) i
  first-joined [] x i uncut = refl
  first-joined [] x i (cut e c) = refl
  first-joined (d ∷ ds) x i uncut = refl
  first-joined (d ∷ ds) x [] (cut e c) = refl
  first-joined (d ∷ ds) x (j ∷ i) (cut {S} {piece} e c) =
      ap₂ (λ (p : ℕ) (l : List ℕ). p ∷ l) (rw (e, position-append mesh d S x) (omega arith)) (first-joined ds x i c)

  -- ---- owners

  length-owner : (Gs : List (List ℕ)) (ns i x : List ℕ) → length (owner mesh Gs ns i x) ≡ length x
  length-owner Gs [] i x = refl
  length-owner [] (n ∷ ns) i x = refl
  length-owner (G ∷ Gs) (n ∷ ns) [] x = refl
  length-owner (G ∷ Gs) (n ∷ ns) (j ∷ i) x = length-member mesh G (j / n) (owner mesh Gs ns i x) ∙ length-owner Gs ns i x

  pub owner-other : (Gs : List (List ℕ)) (ns i x : List ℕ) (a : ℕ) → ¬ In a (flat Gs) → get_or (owner mesh Gs ns i x) a 0 ≡ get_or x a 0
  owner-other Gs [] i x a off = refl
  owner-other [] (n ∷ ns) i x a off = refl
  owner-other (G ∷ Gs) (n ∷ ns) [] x a off = refl
  owner-other (G ∷ Gs) (n ∷ ns) (j ∷ i) x a off =
      member-other mesh G (j / n) (owner mesh Gs ns i x) a (λ k. off (in_left a G (flat Gs) k)) ∙ owner-other Gs ns i x a (λ u. off (in_right a G (flat Gs) u))

  pub below-owner : {Gs : List (List ℕ)} {wholes pieces i x : List ℕ} → Cut mesh Gs wholes pieces → Below i wholes → Below x mesh
      → Below (owner mesh Gs pieces i x) mesh
  below-owner uncut none bx = bx
  below-owner (cut {S} {piece} e c) (more l b) bx = below-member mesh S _ (block-lt piece (span mesh S) e l) (below-owner c b bx)

  pub below-within : {Gs : List (List ℕ)} {wholes pieces i : List ℕ} → Cut mesh Gs wholes pieces → Below i wholes → Below (within pieces i) pieces
  below-within uncut none = none
  below-within (cut {S} {piece} e c) (more {x = j} l b) =
      more (mod-lt j (pos_of_lt (span mesh S) piece (subst (λ z. j < z) (e ∙ mul_comm piece (span mesh S)) l))) (below-within c b)

  pub agree-owner : {Gs : List (List ℕ)} {wholes pieces i x y : List ℕ} (a : ℕ) → Cut mesh Gs wholes pieces → Below i wholes → Below x mesh → Below y mesh
      → In a (flat Gs) ⊎ (get_or x a 0 ≡ get_or y a 0) → get_or (owner mesh Gs pieces i x) a 0 ≡ get_or (owner mesh Gs pieces i y) a 0
  agree-owner {x = x} {y = y} a uncut none bx by (inl x34) = elim x34 [ ]
  agree-owner a uncut none bx by (inr e) = e
  agree-owner {x} {y} a (cut {S} {Ss} {piece} {pieces} e c) (more {xs = i} l b) bx by h =
      agree-member mesh S _ a (block-lt piece (span mesh S) e l) (below-owner c b bx) (below-owner c b by) (go h (λ u. agree-owner a c b bx by u))
    where
      go : In a (flat (S ∷ Ss)) ⊎ (get_or x a 0 ≡ get_or y a 0)
          → (In a (flat Ss) ⊎ (get_or x a 0 ≡ get_or y a 0) → get_or (owner mesh Ss pieces i x) a 0 ≡ get_or (owner mesh Ss pieces i y) a 0)
          → In a S ⊎ (get_or (owner mesh Ss pieces i x) a 0 ≡ get_or (owner mesh Ss pieces i y) a 0)
      go (inl j) ih = ⊎_map (λ k. k) (λ u. ih (inl u)) (flat_in a S Ss j)
      go (inr e) ih = inr (ih (inr e))

  -- the owner's first index, and the index there, is the index counted from x's own first index
  pub first-owner : (ds : List (List ℕ)) {Gs : List (List ℕ)} {wholes pieces i : List ℕ} (x : List ℕ) → Cut mesh Gs wholes pieces → Below i wholes
      → ((a : ℕ) → In a (flat Gs) → a < length x) → ((a : ℕ) → In a (flat Gs) → ¬ In a (flat ds)) → Distinct (flat Gs)
      → from (first_indexes mesh (each ◌++◌ ds Gs) pieces (owner mesh Gs pieces i x)) (within pieces i) ≡ from (first_indexes mesh ds wholes x) i
  first-owner [] x uncut none r off once = refl
  first-owner [] x (cut e c) (more l b) r off once = refl
  first-owner (d ∷ ds) x uncut none r off once = refl
  first-owner (d ∷ ds) x (cut {S} {Ss} {piece} {pieces} e c) (more {x = j} {xs = i} l b) r off once =
      let z : List ℕ = owner mesh Ss pieces i x in
      let y : List ℕ = member mesh S (j / piece) z in
      let s : Distinct S × Distinct (flat Ss) × ((a : ℕ) → In a S → ¬ In a (flat Ss)) = distinct-split S (flat Ss) once in
      let of-first : (a : ℕ) → In a S → In a (flat (S ∷ Ss)) = λ a k. in_left a S (flat Ss) k in
      let of-rest : (a : ℕ) → In a (flat Ss) → In a (flat (S ∷ Ss)) = λ a u. in_right a S (flat Ss) u in
      let h : position mesh d y ≡ position mesh d x =
      position-agree mesh d y x (λ a k. member-other mesh S (j / piece) z a (λ i. off a (of-first a i) (in_left a d (flat ds) k))
      ∙ owner-other Ss pieces i x a (λ u. off a (of-rest a u) (in_left a d (flat ds) k))) in
      let g : position mesh S y ≡ j / piece =
      position-member mesh S (j / piece) z s.0 (λ a k. rw (length-owner Ss pieces i x) (r a (of-first a k))) (block-lt piece (span mesh S) e l) in
      ap₂ (λ (p : ℕ) (t : List ℕ). p ∷ t) (rw (position-append mesh d S y, h, g, e) (omega (arith, div-add-mod' j piece)))
      (ap (λ (t : List ℕ). from t (within pieces i))
      (first-agree (each ◌++◌ ds Ss) pieces y z (λ a u. member-other mesh S (j / piece) z a
      (λ k. ⊎_elim (λ v. off a (of-first a k) (in_right a d (flat ds) v)) (λ v. s.2 a k v) (of-joined a ds Ss u))))
      ∙ first-owner ds x c b (λ a u. r a (of-rest a u)) (λ a u v. off a (of-rest a u) (in_right a d (flat ds) v)) s.1)

  -- of lists that are joined to none, it is the index itself
  pub owner-index : {Gs : List (List ℕ)} {wholes pieces i : List ℕ} (x : List ℕ) → Cut mesh Gs wholes pieces → Below i wholes
      → ((a : ℕ) → In a (flat Gs) → a < length x) → Distinct (flat Gs)
      → from (first_indexes mesh Gs pieces (owner mesh Gs pieces i x)) (within pieces i) ≡ i
  owner-index {Gs} {pieces} {i} x c bi r once =
      ap (λ (l : List (List ℕ)). from (first_indexes mesh l pieces (owner mesh Gs pieces i x)) (within pieces i)) (sym (joined-none Gs))
      ∙ first-owner (map (λ G. []) Gs) x c bi r (λ a u. unnamed Gs a) once ∙ from_zero c bi
    where
      joined-none : (Gs : List (List ℕ)) → each ◌++◌ (map (λ G. []) Gs) Gs ≡ Gs
      joined-none [] = refl
      joined-none (G ∷ Gs) = ap (λ (l : List (List ℕ)). G ∷ l) (joined-none Gs)

      unnamed : (Gs : List (List ℕ)) (a : ℕ) → ¬ In a (flat (map (λ (G : List ℕ). []) Gs))
      unnamed [] a i = elim i [ ]
      unnamed (G ∷ Gs) a i = unnamed Gs a i

      from_zero : {Gs : List (List ℕ)} {wholes pieces i : List ℕ} → Cut mesh Gs wholes pieces → Below i wholes
          → from (first_indexes mesh (map (λ (G : List ℕ). []) Gs) wholes x) i ≡ i
      from_zero uncut none = refl
      from_zero {wholes = n ∷ wholes} (cut e c) (more {x = j} {xs = i} l b) = ap₂ ◌∷◌ (ap (λ (z : ℕ). z + j) (zero-mul n) ∙ zero-add j) (from_zero c b)

  -- an index counted from a block's first is that index within the block, and its owner has the coordinates of the block's device
  pub within_first : {Gs : List (List ℕ)} {wholes pieces i : List ℕ} (x : List ℕ) → Cut mesh Gs wholes pieces → Below i pieces
      → within pieces (from (first_indexes mesh Gs pieces x) i) ≡ i
  within_first x uncut none = refl
  within_first x (cut {S} e c) (more l b) = ap₂ ◌∷◌ (digits_mod (position mesh S x) l) (within_first x c b)

  pub owner-first : {Gs : List (List ℕ)} {wholes pieces i x z : List ℕ} (a : ℕ) → Cut mesh Gs wholes pieces → Below i pieces → Below x mesh → Below z mesh
      → Distinct (flat Gs) → ((b : ℕ) → In b (flat Gs) → b < length mesh) → In a (flat Gs)
      → get_or (owner mesh Gs pieces (from (first_indexes mesh Gs pieces x) i) z) a 0 ≡ get_or x a 0
  owner-first {i = i} {x = x} {z = z} a uncut _ bx bz once r u = elim u [ ]
  owner-first {x} {z} a (cut {S} {Ss} {piece} {pieces} e c) (more {x = j} {xs = i} l b) bx bz once r u =
      let y : List ℕ = owner mesh Ss pieces (from (first_indexes mesh Ss pieces x) i) z in
      let s : Distinct S × Distinct (flat Ss) × ((a : ℕ) → In a S → ¬ In a (flat Ss)) = distinct-split S (flat Ss) once in
      ap (λ (q : ℕ). get_or (member mesh S q y) a 0) (digits_div (position mesh S x) l)
      ∙ ⊎_elim
      (λ k. member-along mesh S a s.0 (λ b k. r b (in_left b S (flat Ss) k)) (below-owner c (piece-below c bx b) bz) bx k)
      (λ v. member-other mesh S (position mesh S x) y a (λ k. s.2 a k v)
      ∙ owner-first a c b bx bz s.1 (λ b v. r b (in_right b S (flat Ss) v)) v)
      (flat_in a S Ss u)

  -- an owner, and a member along axes that are not gathered, may be taken in either order
  pub owner-member : (Gs : List (List ℕ)) (ns i U : List ℕ) (q : ℕ) (x : List ℕ) → ((a : ℕ) → In a (flat Gs) → ¬ In a U)
      → owner mesh Gs ns i (member mesh U q x) ≡ member mesh U q (owner mesh Gs ns i x)
  owner-member Gs [] i U q x off = refl
  owner-member [] (n ∷ ns) i U q x off = refl
  owner-member (G ∷ Gs) (n ∷ ns) [] U q x off = refl
  owner-member (G ∷ Gs) (n ∷ ns) (j ∷ i) U q x off =
      ap (member mesh G (j / n)) (owner-member Gs ns i U q x (λ a u. off a (in_right a G (flat Gs) u)))
      ∙ member-member mesh G U (j / n) q (owner mesh Gs ns i x) (λ a k. off a (in_left a G (flat Gs) k))
