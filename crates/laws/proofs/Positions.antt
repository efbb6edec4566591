-- Laws of devices, positions and members of a group. The main ones: a position is below the span (`position-lt`), the member at position q has
-- position q (`position-member`), and a member differs from the device along the list's axes alone (`member-other`). Assumes nothing.
use Prim.Native.Nat.{ℕ, zero, suc, ◌+◌, ◌*◌, ◌/◌, ◌%◌, ◌<◌}
use mathlib.Core.Path.{◌≡◌, refl, sym, ap, ap₂, ◌∙◌, subst}
use mathlib.Core.Logic.{◌⊎◌, inl, inr, ⊎_map, ⊎_elim}
use mathlib.Core.List.{List, [], ◌∷◌, ◌++◌}
use native.Mathlib.Nat.{mod-lt, div-lt_iff_lt-mul, div-add-mod'}
use native.Mathlib.Omega.{arith}
use lib.ListN.{length, get_or, set, length-set}
use lib.Seq.{get_or-set_other, get_or-set_same, set_comm}
use lib.Arith.{digits_lt}
use Rattle.rules.specs.Lists.{In, Distinct, Below, none, more}
use Rattle.rules.specs.Mesh.{span, position, member}

-- a number below a product has a positive factor
pub pos_of_lt : {q : ℕ} (a s : ℕ) → q < a * s → zero < s
pos_of_lt a zero h = absurd (omega arith)
pos_of_lt a (suc s) h = omega arith

pub div-lt : {q : ℕ} (a s : ℕ) → q < a * s → q / s < a
div-lt a s h = (div-lt_iff_lt-mul (pos_of_lt a s h)).1 h

-- ---- one coordinate

pub at-below : {x mesh : List ℕ} (a : ℕ) → Below x mesh → get_or x a 0 < get_or mesh a 1
at-below a none = omega arith
at-below zero (more l b) = l
at-below (suc a) (more l b) = at-below a b

pub below_set : {x mesh : List ℕ} (a k : ℕ) → Below x mesh → k < get_or mesh a 1 → Below (set x a k) mesh
below_set a k none h = none
below_set zero k (more l b) h = more h b
below_set (suc a) k (more l b) h = more l (below_set a k b h)

-- two devices that agree at a, or at the axis that is set, agree at a after it is set
pub agree-set : {x y mesh : List ℕ} (a b k : ℕ) → Below x mesh → Below y mesh → (a ≡ b) ⊎ (get_or x a 0 ≡ get_or y a 0) → get_or (set x b k) a 0 ≡ get_or (set y b k) a 0
agree-set a b k none none h = refl
agree-set zero zero k (more l bx) (more m by) h = refl
agree-set zero (suc b) k (more l bx) (more m by) h = ⊎_elim (λ e. omega arith) (λ e. e) h
agree-set (suc a) zero k (more l bx) (more m by) h = ⊎_elim (λ e. omega arith) (λ e. e) h
agree-set (suc a) (suc b) k (more l bx) (more m by) h = agree-set a b k bx by (⊎_map (λ e. omega arith) (λ e. e) h)

-- ---- positions and members

module _ (mesh : List ℕ) where
  pub position-agree : (L x y : List ℕ) → ((a : ℕ) → In a L → get_or x a 0 ≡ get_or y a 0) → position mesh L x ≡ position mesh L y
  position-agree [] x y h = refl
  position-agree (a ∷ L) x y h = ap₂ (λ c p. c * span mesh L + p) (h a (inl refl)) (position-agree L x y (λ b i. h b (inr i)))

  pub position-set : (L x : List ℕ) (a k : ℕ) → ¬ In a L → position mesh L (set x a k) ≡ position mesh L x
  position-set L x a k off = position-agree L (set x a k) x (λ b i. get_or-set_other x a b k 0 (λ e. off (subst (λ z. In z L) e i)))

  pub position-lt : (L : List ℕ) {x : List ℕ} → Below x mesh → position mesh L x < span mesh L
  position-lt [] b = omega arith
  position-lt (a ∷ L) b = digits_lt (at-below a b) (position-lt L b)

  pub span-append : (L S : List ℕ) → span mesh (L ++ S) ≡ span mesh L * span mesh S
  span-append [] S = omega arith
  span-append (a ∷ L) S = rw (span-append L S) (omega arith)

  pub position-append : (L S x : List ℕ) → position mesh (L ++ S) x ≡ position mesh L x * span mesh S + position mesh S x
  position-append [] S x = omega arith
  position-append (a ∷ L) S x = rw (span-append L S, position-append L S x) (omega arith)

  pub length-member : (L : List ℕ) (q : ℕ) (x : List ℕ) → length (member mesh L q x) ≡ length x
  length-member [] q x = refl
  length-member (a ∷ L) q x = length-set (member mesh L (q % span mesh L) x) a (q / span mesh L) ∙ length-member L (q % span mesh L) x

  pub below-member : (L : List ℕ) (q : ℕ) {x : List ℕ} → q < span mesh L → Below x mesh → Below (member mesh L q x) mesh
  below-member [] q h b = b
  below-member (a ∷ L) q h b =
      below_set a (q / span mesh L) (below-member L (q % span mesh L) (mod-lt q (pos_of_lt (get_or mesh a 1) (span mesh L) h)) b) (div-lt (get_or mesh a 1) (span mesh L) h)

  pub agree-member : (L : List ℕ) (q : ℕ) {x y : List ℕ} (a : ℕ) → q < span mesh L → Below x mesh → Below y mesh → In a L ⊎ (get_or x a 0 ≡ get_or y a 0)
      → get_or (member mesh L q x) a 0 ≡ get_or (member mesh L q y) a 0
  agree-member [] q {x = x} {y = y} a h bx by (inl x7) = elim x7 [ ]
  agree-member [] q a h bx by (inr e) = e
  agree-member (b ∷ L) q {x} {y} a h bx by e =
      let r : ℕ = q % span mesh L in
      let l : r < span mesh L = mod-lt q (pos_of_lt (get_or mesh b 1) (span mesh L) h) in
      agree-set a b (q / span mesh L) (below-member L r l bx) (below-member L r l by) (go e (λ i. agree-member L r a l bx by i))
    where
      go : In a (b ∷ L) ⊎ (get_or x a 0 ≡ get_or y a 0) → (In a L ⊎ (get_or x a 0 ≡ get_or y a 0) → get_or (member mesh L (q % span mesh L) x) a 0 ≡ get_or (member mesh L (q % span mesh L) y) a 0)
          → (a ≡ b) ⊎ (get_or (member mesh L (q % span mesh L) x) a 0 ≡ get_or (member mesh L (q % span mesh L) y) a 0)
      go (inl (inl e)) ih = inl e
      go (inl (inr i)) ih = inr (ih (inl i))
      go (inr e) ih = inr (ih (inr e))

  pub member-other : (L : List ℕ) (q : ℕ) (x : List ℕ) (a : ℕ) → ¬ In a L → get_or (member mesh L q x) a 0 ≡ get_or x a 0
  member-other [] q x a off = refl
  member-other (b ∷ L) q x a off =
      get_or-set_other (member mesh L (q % span mesh L) x) b a (q / span mesh L) 0 (λ e. off (inl e)) ∙ member-other L (q % span mesh L) x a (λ i. off (inr i))

  pub member-set : (L : List ℕ) (q : ℕ) (x : List ℕ) (a k : ℕ) → ¬ In a L → member mesh L q (set x a k) ≡ set (member mesh L q x) a k
  member-set [] q x a k off = refl
  member-set (b ∷ L) q x a k off =
      ap (λ (z : List ℕ). set z b (q / span mesh L)) (member-set L (q % span mesh L) x a k (λ i. off (inr i)))
      ∙ set_comm (member mesh L (q % span mesh L) x) a b k (q / span mesh L) (λ e. off (inl e))

  -- the device that is at position q has position q
  pub position-member : (L : List ℕ) (q : ℕ) (x : List ℕ) → Distinct L → ((a : ℕ) → In a L → a < length x) → q < span mesh L → position mesh L (member mesh L q x) ≡ q
  position-member [] q x d r h = omega arith
  position-member (a ∷ L) q x d r h =
      let s : ℕ = span mesh L in
      let z : List ℕ = member mesh L (q % s) x in
      ap₂ (λ c p. c * s + p) (get_or-set_same z a (q / s) 0 (rw (length-member L (q % s) x) (r a (inl refl))))
      (position-set L z a (q / s) d.0 ∙ position-member L (q % s) x d.1 (λ b i. r b (inr i)) (mod-lt q (pos_of_lt (get_or mesh a 1) s h)))
      ∙ div-add-mod' q s

  -- members along two lists that have no axis in common may be taken in either order
  pub member-member : (G U : List ℕ) (q r : ℕ) (x : List ℕ) → ((a : ℕ) → In a G → ¬ In a U) → member mesh G q (member mesh U r x) ≡ member mesh U r (member mesh G q x)
  member-member [] U q r x off = refl
  member-member (a ∷ G) U q r x off =
      ap (λ (z : List ℕ). set z a (q / span mesh G)) (member-member G U (q % span mesh G) r x (λ b i. off b (inr i)))
      ∙ sym (member-set U r (member mesh G (q % span mesh G) x) a (q / span mesh G) (off a (inl refl)))
