-- The order of the axes in which the listing counts: its length, its axes, and the listing by the digits of a place along it (`places-along`).
-- Assumes nothing.
use Prim.Native.Nat.{ℕ, ◌+◌, ◌*◌, ◌/◌, ◌%◌, ◌<◌, ◌≤◌}
use mathlib.Core.Path.{◌≡◌, refl, sym, ap, ap₂, ◌∙◌, subst}
use mathlib.Core.Logic.{inl, inr, ⊎_elim}
use mathlib.Core.List.{List, [], ◌∷◌, ◌++◌}
use native.Mathlib.Nat.{zero-div, zero-mod, mod-lt, mod-eq_of_lt, div-div-eq-div-mul, mul_comm}
use native.Mathlib.Omega.{arith}
use native.Mathlib.Decide.{ℕ_discrete}
use lib.ListN.{length, set, replicate, length-append}
use Rattle.rules.specs.Lists.{tab, product, without, In, Distinct}
use Rattle.rules.specs.Mesh.{number, coords, devices, span, member, remaining, places_listed, OnMesh}
use Rattle.laws.proofs.Lists.{
  length-tab,
  tab-cong,
  in-axes,
  axes-in,
  distinct-axes,
  distinct_append,
  in-append,
  in_without,
  of-without,
  not-in-without,
  distinct_without,
  without-none,
  without_more,
  without-same,
  without_other,
  without-absent,
}
use Rattle.laws.proofs.Positions.{member-set, span-append}
use Rattle.laws.proofs.Groups.{span-remaining, places-tab}
use Rattle.mesh.proofs.Sizes.{mod-div, mod-mod-right}
use Rattle.mesh.proofs.Positions.{span_pos}
use Rattle.groups.specs.Ordering.{axis_order, IsList, along}

-- ---- how many axes

length-left-out : (a : ℕ) (U : List ℕ) → In a U → Distinct U → length (without U (a ∷ [])) + 1 ≡ length U
length-left-out a [] i d = elim i [ ]
length-left-out a (b ∷ U) i d = go (ℕ_discrete a b) i (λ j. length-left-out a U j d.1)
  where
    go : Dec (a ≡ b) → In a (b ∷ U) → (In a U → length (without U (a ∷ [])) + 1 ≡ length U) → length (without (b ∷ U) (a ∷ [])) + 1 ≡ length (b ∷ U)
    go (yes e) i ih =
        let off : (c : ℕ) → In c U → ¬ In c (a ∷ []) = λ c j k. d.0 (⊎_elim (λ p. subst (λ z. In z U) (p ∙ e) j) (λ k. absurd k) k) in
        let l : without (b ∷ U) (a ∷ []) ≡ U = ap (λ (c : ℕ). without (c ∷ U) (a ∷ [])) (sym e) ∙ without-same a U ∙ without-absent (a ∷ []) U off in
        rw l (omega arith)
    go (no n) (inl e) ih = absurd (n e)
    go (no n) (inr j) ih = rw (without_other a b U n) (omega (arith, ih j))

-- distinct axes of U, and the others of U, are as many as U's
length_without : (L U : List ℕ) → ((a : ℕ) → In a L → In a U) → Distinct L → Distinct U → length (without U L) + length L ≡ length U
length_without [] U sub dL dU = rw (without-none U) (omega arith)
length_without (a ∷ L) U sub dL dU =
    let R : List ℕ = without U (a ∷ []) in
    let others : (b : ℕ) → In b L → In b R = λ b i.
    ⊎_elim (⊎_elim (λ e. absurd (dL.0 (subst (λ z. In z L) e i))) (λ j. absurd j)) (λ j. j) (in_without b (a ∷ []) U (sub b (inr i))) in
    let h : length (without R L) + length L ≡ length R = length_without L R others dL.1 (distinct_without (a ∷ []) U dU) in
    rw (without_more a L U) (omega (arith, h, length-left-out a U (sub a (inl refl)) dU))

module _ {n : ℕ} {L : List ℕ} (l : IsList n L) where
  pub remaining-length : length (without (tab n (λ a. a)) L) + length L ≡ n
  remaining-length = length_without L (tab n (λ a. a)) (λ a i. axes-in a n (l.below a i)) l.once (distinct-axes n) ∙ length-tab n (λ a. a)

  -- distinct axes are at most as many as the mesh has
  pub list_length : length L ≤ n
  list_length = omega (arith, remaining-length)

  pub order-length : length (axis_order n L) ≡ n
  unfolding axis_order
  order-length = length-append (without (tab n (λ a. a)) L) L ∙ remaining-length

  pub order-list : IsList n (axis_order n L)
  unfolding axis_order
  order-list = record {
    few = l.few;
    below = λ a i. ⊎_elim (λ j. in-axes a n (of-without a L (tab n (λ a. a)) j)) (l.below a) (in-append a (without (tab n (λ a. a)) L) L i);
    once = distinct_append (without (tab n (λ a. a)) L) L (distinct_without L (tab n (λ a. a)) (distinct-axes n)) l.once
        (λ a j i. not-in-without a L (tab n (λ a. a)) j i);
  }

-- the order, made of lists that are known by what they stand for
pub order-made : (n : ℕ) (L none all rest : List ℕ) → none ≡ [] → all ≡ tab n (λ a. a) → rest ≡ none ++ without all L
    → rest ++ without L none ≡ axis_order n L
unfolding axis_order
order-made n L none all rest e1 e2 e3 = rw (e3, e1, e2, without-none L) refl

-- ---- the listing by the digits of a place

-- the digits along two lists are the digits along the second, and of the rest along the first
member-append : (mesh : List ℕ) → OnMesh mesh → (R L : List ℕ) (p : ℕ) (x : List ℕ) → ((a : ℕ) → In a R → ¬ In a L) → p < span mesh (R ++ L)
    → member mesh (R ++ L) p x ≡ member mesh L (p % span mesh L) (member mesh R (p / span mesh L) x)
member-append mesh f [] L p x off h = ap (λ (q : ℕ). member mesh L q x) (sym (mod-eq_of_lt h))
member-append mesh f (a ∷ R) L p x off h =
    let r : ℕ = span mesh R in
    let s : ℕ = span mesh L in
    let w : ℕ = span mesh (R ++ L) in
    let e : w ≡ r * s = span-append mesh R L in
    let rp : 0 < r = span_pos mesh f R in
    let sp : 0 < s = span_pos mesh f L in
    let low : p % w % s ≡ p % s = ap (λ (k : ℕ). p % k % s) e ∙ mod-mod-right p rp sp in
    let mid : p % w / s ≡ p / s % r = ap (λ (k : ℕ). p % k / s) e ∙ mod-div p rp sp in
    let top : p / w ≡ p / s / r = ap (λ (k : ℕ). p / k) (e ∙ mul_comm r s) ∙ sym (div-div-eq-div-mul p s r) in
    ap₂ (λ (y : List ℕ) (k : ℕ). set y a k)
    (member-append mesh f R L (p % w) x (λ b i. off b (inr i)) (mod-lt p (span_pos mesh f (R ++ L)))
    ∙ ap₂ (λ (q g : ℕ). member mesh L q (member mesh R g x)) low mid) top
    ∙ sym (member-set mesh L (p % s) (member mesh R (p / s % r) x) a (p / s / r) (off a (inl refl)))

coords-zero : (ns : List ℕ) → coords ns 0 ≡ replicate (length ns) 0
coords-zero [] = refl
coords-zero (n ∷ ns) = ap₂ (λ (c : ℕ) (l : List ℕ). c ∷ l) (zero-div (product ns)) (ap (coords ns) (zero-mod (product ns)) ∙ coords-zero ns)

module _ (mesh L : List ℕ) (f : OnMesh mesh) (l : IsList (length mesh) L) where
  pub order-span : span mesh (axis_order (length mesh) L) ≡ devices mesh
  unfolding axis_order remaining
  order-span = span-remaining mesh L l.once l.below

  pub places-along : places_listed mesh L ≡ tab (devices mesh) (along mesh (axis_order (length mesh) L))
  unfolding axis_order remaining
  places-along = places-tab mesh L l.once l.below ∙ tab-cong (devices mesh) _ _ (λ p h.
      let R : List ℕ = remaining mesh L in
      ap (number mesh)
      (ap (λ (x : List ℕ). member mesh L (p % span mesh L) (member mesh R (p / span mesh L) x)) (sym (coords-zero mesh))
      ∙ sym (member-append mesh f R L p (coords mesh 0) (λ a i j. not-in-without a L (tab (length mesh) (λ a. a)) j i) (rw order-span h))))
