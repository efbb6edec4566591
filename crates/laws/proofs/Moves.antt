-- The bridge from the kernels to the rules. A step that only moves words gathers along some lists of axes and slices along others, never both along
-- one dimension, so a kernel may slice first and then gather: what it leaves (`moved`) is what the rules make of an accepted all-slice, all-gather or
-- all-to-all (`step-moved`), for every element type. What such a kernel asks of its lists and sizes is one record (`Moves`, `step-moves`).
-- Assumes nothing.
use Prim.Native.Nat.{ℕ, zero, suc, ◌+◌, ◌*◌, ◌/◌, ◌%◌, ◌<◌, ◌≤◌}
use mathlib.Core.Path.{◌≡◌, refl, sym, ap, ap₂, ◌∙◌, subst}
use mathlib.Core.Logic.{◌≢◌}
use mathlib.Core.List.{List, [], ◌∷◌}
use native.Mathlib.Nat.{mod-eq_of_lt, mul-one, one-mul, mul_comm, div-one, mul-div_cancel, le-mul_of_pos_right}
use native.Mathlib.Omega.{arith}
use lib.ListN.{length, get_or, replicate, length-replicate, length-set}
use lib.Arith.{digits_lt}
use Rattle.rules.specs.Lists.{flat, product, In, Distinct, Below, none, more}
use Rattle.rules.specs.Mesh.{span, position, member}
use Rattle.rules.specs.Sharding.{Sharding, shard_sizes, first_indexes, IsSharding}
use Rattle.rules.specs.Spread.{StateOf, tabulate, held, from}
use Rattle.rules.specs.Collectives.{
  Step,
  all_slice,
  all_gather,
  all_reduce,
  all_to_all,
  reduce_scatter,
  only,
  after,
  grown,
  shape_after,
  owner,
  within,
  slice_place,
  gather_place,
  sources,
  made,
  moved,
}
use Rattle.laws.proofs.Positions.{pos_of_lt, position-lt}
use Rattle.laws.proofs.Buffers.{tabulate-same}
use Rattle.laws.proofs.Shapes.{Cut, cut, uncut, cut-lengths, piece-below}
use Rattle.laws.proofs.Sizes.{cut_product, span_pos}
use Rattle.laws.proofs.Sources.{Ready, in-only}
use Rattle.laws.proofs.Steps.{
  AcceptedStep,
  flat-empty,
  flat-only,
  sharding-cut,
  gather-sharding,
  to-all-sharding,
  after-sharding,
  after-shape,
  shape-length,
}
use Rattle.laws.proofs.Next.{step-ready}

-- ---- along each dimension, one of two lists is empty

pub data Off : List (List ℕ) → List (List ℕ) → Type 0 where
  off : Off [] []
  off-left : {S : List ℕ} {Gs Ss : List (List ℕ)} → Off Gs Ss → Off ([] ∷ Gs) (S ∷ Ss)
  off-right : {G : List ℕ} {Gs Ss : List (List ℕ)} → Off Gs Ss → Off (G ∷ Gs) ([] ∷ Ss)

off-swap : {Gs Ss : List (List ℕ)} → Off Gs Ss → Off Ss Gs
off-swap off = off
off-swap (off-left o) = off-right (off-swap o)
off-swap (off-right o) = off-left (off-swap o)

off-empty : (rank : ℕ) (Ss : List (List ℕ)) → length Ss ≡ rank → Off (replicate rank []) Ss
off-empty zero [] e = off
off-empty zero (S ∷ Ss) e = absurd (omega arith)
off-empty (suc rank) [] e = absurd (omega arith)
off-empty (suc rank) (S ∷ Ss) e = off-left (off-empty rank Ss (omega arith))

length-only : (rank dim : ℕ) (L : List ℕ) → length (only rank dim L) ≡ rank
length-only rank dim L = length-set (replicate rank []) dim L ∙ length-replicate rank []

off-only : (rank source target : ℕ) (L : List ℕ) → source ≢ target → Off (only rank source L) (only rank target L)
off-only zero source target L n = off
off-only (suc rank) zero zero L n = absurd (n refl)
off-only (suc rank) zero (suc target) L n = off-right (off-empty rank (only rank target L) (length-only rank target L))
off-only (suc rank) (suc source) zero L n = off-left (off-swap (off-empty rank (only rank source L) (length-only rank source L)))
off-only (suc rank) (suc source) (suc target) L n = off-left (off-only rank source target L (λ e. n (ap suc e)))

-- ---- to slice and then gather is to gather and then slice

-- Shards of a shape, gathered along Gs and then sliced along Ss, have the shape `new`: no dimension is both, and all sizes divide.
pub record Reshapes (mesh : List ℕ) (Gs Ss : List (List ℕ)) (shape new : List ℕ) : Type 0 where
  pub apart : Off Gs Ss
  pub joins : Cut mesh Gs (grown mesh Gs shape) shape
  pub parts : Cut mesh Ss (grown mesh Gs shape) new

-- the words of a state that is gathered along Gs and then sliced along Ss
abbrev pub fetched : {W : Type 0} → (mesh : List ℕ) (Gs Ss : List (List ℕ)) (shape new : List ℕ) → StateOf W → StateOf W
fetched mesh Gs Ss shape new w x i =
    w (owner mesh Gs shape (from (first_indexes mesh Ss new x) i) x) (within shape (from (first_indexes mesh Ss new x) i))

-- Shards of `pieces` are gathered to `wholes` and these are sliced to `news`.
module _ (mesh : List ℕ) (pos : (a : ℕ) → zero < get_or mesh a 1) where
  -- along a dimension that is not gathered the old piece is the whole
  sliced-size : (S : List ℕ) {whole : ℕ} (piece new : ℕ) → whole ≡ piece * 1 → whole ≡ new * span mesh S → piece / span mesh S ≡ new
  sliced-size S piece new e f = ap (λ (n : ℕ). n / span mesh S) (sym (mul-one piece) ∙ sym e ∙ f) ∙ mul-div_cancel new (span_pos mesh pos S)

  moved-shape : {Gs Ss : List (List ℕ)} {wholes pieces news : List ℕ} → Off Gs Ss → Cut mesh Gs wholes pieces → Cut mesh Ss wholes news
      → grown mesh Gs (shard_sizes mesh pieces Ss) ≡ news
  moved-shape off uncut uncut = refl
  moved-shape (off-left o) (cut {piece} e c) (cut {S} {piece = new} f d) =
      ap₂ (λ (n : ℕ) (l : List ℕ). n ∷ l) (one-mul _ ∙ sliced-size S piece new e f) (moved-shape o c d)
  moved-shape (off-right o) (cut {S = G} {piece} e c) (cut {piece = new} f d) =
      ap₂ (λ (n : ℕ) (l : List ℕ). n ∷ l) (ap (λ (n : ℕ). span mesh G * n) (div-one piece) ∙ mul_comm (span mesh G) piece ∙ sym e ∙ f ∙ mul-one new)
      (moved-shape o c d)

  moved-index : {Gs Ss : List (List ℕ)} {wholes pieces news x i : List ℕ} → Off Gs Ss → Cut mesh Gs wholes pieces → Cut mesh Ss wholes news
      → Below x mesh → Below i news
      → from (first_indexes mesh Ss (shard_sizes mesh pieces Ss) x) (within (shard_sizes mesh pieces Ss) i)
      ≡ within pieces (from (first_indexes mesh Ss news x) i)
  moved-index off uncut uncut bx none = refl
  moved-index {x} (off-left o) (cut {piece} e c) (cut {S} {piece = new} f d) bx (more {x = j} l b) =
      let q : position mesh S x * new + j < piece =
      subst (λ n. position mesh S x * new + j < n) (mul_comm (span mesh S) new ∙ sym f ∙ e ∙ mul-one piece) (digits_lt (position-lt mesh S bx) l) in
      ap₂ (λ (n : ℕ) (l : List ℕ). n ∷ l) (rw (sliced-size S piece new e f, mod-eq_of_lt l, mod-eq_of_lt q)) (moved-index o c d bx b)
  moved-index (off-right o) (cut {piece} e c) (cut {piece = new} f d) bx (more {x = j} l b) =
      let s : 0 * new + j ≡ j = omega arith in
      let t : 0 * piece + j % piece ≡ j % piece = omega arith in
      ap₂ (λ (n : ℕ) (l : List ℕ). n ∷ l) (rw (div-one piece, s) t) (moved-index o c d bx b)

  moved-device : {Gs Ss : List (List ℕ)} {wholes pieces news i : List ℕ} (x y : List ℕ) → Off Gs Ss → Cut mesh Gs wholes pieces
      → Cut mesh Ss wholes news → Below i news
      → owner mesh Gs (shard_sizes mesh pieces Ss) i y ≡ owner mesh Gs pieces (from (first_indexes mesh Ss news x) i) y
  moved-device x y off uncut uncut none = refl
  moved-device x y (off-left o) (cut e c) (cut f d) (more l b) = moved-device x y o c d b
  moved-device x y (off-right {G} o) (cut {piece} e c) (cut {piece = new} f d) (more {x = j} l b) =
      let s : 0 * new + j ≡ j = omega arith in
      rw (div-one piece, s) (ap (member mesh G (j / piece)) (moved-device x y o c d b))

  moved_is : {W : Type 0} (z : W) {Gs Ss : List (List ℕ)} {shape new : List ℕ} (old : List W) → Reshapes mesh Gs Ss shape new
      → moved z mesh Gs Ss shape old ≡ tabulate mesh new (fetched mesh Gs Ss shape new (held z mesh shape old))
  moved_is z {Gs} {Ss} {shape} {new} old r =
      rw (moved-shape r.apart r.joins r.parts)
      (tabulate-same mesh new _ _ (λ x i bx bi. ap₂ (held z mesh shape old) (moved-device x x r.apart r.joins r.parts bi)
      (moved-index r.apart r.joins r.parts bx bi)))

-- ---- with no axis at any dimension nothing is gathered, and nothing is sliced

module _ (mesh : List ℕ) where
  grown-empty : (ns : List ℕ) → grown mesh (replicate (length ns) []) ns ≡ ns
  grown-empty [] = refl
  grown-empty (n ∷ ns) = ap₂ (λ (k : ℕ) (l : List ℕ). k ∷ l) (one-mul n) (grown-empty ns)

  cut-empty : (ns : List ℕ) → Cut mesh (replicate (length ns) []) ns ns
  cut-empty [] = uncut
  cut-empty (n ∷ ns) = cut (sym (mul-one n)) (cut-empty ns)

  from_empty : {i ns : List ℕ} (x : List ℕ) → Below i ns → from (first_indexes mesh (replicate (length ns) []) ns x) i ≡ i
  from_empty x none = refl
  from_empty x (more l b) = ap₂ (λ (k : ℕ) (t : List ℕ). k ∷ t) (omega arith) (from_empty x b)

  owner-empty : (rank : ℕ) (ns i x : List ℕ) → owner mesh (replicate rank []) ns i x ≡ x
  owner-empty rank [] i x = refl
  owner-empty zero (n ∷ ns) i x = refl
  owner-empty (suc rank) (n ∷ ns) [] x = refl
  owner-empty (suc rank) (n ∷ ns) (j ∷ i) x = owner-empty rank ns i x

within_same : {i ns : List ℕ} → Below i ns → within ns i ≡ i
within_same none = refl
within_same (more l b) = ap₂ (λ (k : ℕ) (t : List ℕ). k ∷ t) (mod-eq_of_lt l) (within_same b)

-- ---- the steps that only move words

abbrev pub Moving : Step → Type 0
Moving (all_slice Ss) = Unit {0}
Moving (all_gather Gs) = Unit {0}
Moving (all_reduce L) = ⊥
Moving (all_to_all source target L) = Unit {0}
Moving (reduce_scatter Ss) = ⊥

-- the lists that a step gathers along, and those that it slices along, one per dimension
abbrev pub gathers : Step → ℕ → List (List ℕ)
gathers (all_slice Ss) rank = replicate rank []
gathers (all_gather Gs) rank = Gs
gathers (all_reduce L) rank = replicate rank []
gathers (all_to_all source target L) rank = only rank source L
gathers (reduce_scatter Ss) rank = replicate rank []

abbrev pub slices : Step → ℕ → List (List ℕ)
slices (all_slice Ss) rank = Ss
slices (all_gather Gs) rank = replicate rank []
slices (all_reduce L) rank = replicate rank []
slices (all_to_all source target L) rank = only rank target L
slices (reduce_scatter Ss) rank = Ss

-- What a kernel that moves words asks of the lists Gs and Ss, and of the shards before and after it, of a table of the given sizes.
pub record Moves (mesh sizes : List ℕ) (Gs Ss : List (List ℕ)) (shape new : List ℕ) : Type 0 where
  -- one list per dimension
  pub rank : length shape ≡ length sizes
  pub gathers_each : length Gs ≡ length shape
  pub slices_each : length Ss ≡ length shape
  -- each axis once, and of the mesh
  pub gathers_once : Distinct (flat Gs)
  pub slices_once : Distinct (flat Ss)
  pub gathers_axes : (a : ℕ) → In a (flat Gs) → a < length mesh
  pub slices_axes : (a : ℕ) → In a (flat Ss) → a < length mesh
  -- the new shape, by the kernel's own way to it
  pub shape_is : grown mesh Gs (shard_sizes mesh shape Ss) ≡ new
  -- the words of one shard, old and new
  pub words_pos : 0 < product shape
  pub words_few : product shape ≤ product sizes
  pub new_words_pos : 0 < product new
  pub new_words_few : product new ≤ product sizes

module _ (mesh sizes : List ℕ) (pos : (a : ℕ) → zero < get_or mesh a 1) where
  abbrev shape_of : Sharding → List ℕ
  shape_of s = shard_sizes mesh sizes s.dims

  abbrev rank_of : Sharding → ℕ
  rank_of s = length (shape_of s)

  pub step-reshapes : (t : Step) (s : Sharding) → Moving t → IsSharding mesh sizes s → AcceptedStep mesh sizes t s
      → Reshapes mesh (gathers t (rank_of s)) (slices t (rank_of s)) (shape_of s) (shape_after mesh t (shape_of s))
  step-reshapes (all_slice Ss) s m h f =
      let c : Cut mesh Ss (shape_of s) (shard_sizes mesh (shape_of s) Ss) = step-ready mesh sizes pos (all_slice Ss) s h f in
      record {
        apart = off-empty (rank_of s) Ss (cut-lengths mesh c).0;
        joins = rw (grown-empty mesh (shape_of s)) (cut-empty mesh (shape_of s));
        parts = rw (grown-empty mesh (shape_of s)) c;
      }
  step-reshapes (all_gather Gs) s m h f =
      let new : List ℕ = grown mesh Gs (shape_of s) in
      let c : Cut mesh Gs new (shape_of s) = step-ready mesh sizes pos (all_gather Gs) s h f in
      record {
        apart = off-swap (off-empty (rank_of s) Gs (cut-lengths mesh c).1);
        joins = c;
        parts = subst (λ (r : ℕ). Cut mesh (replicate r []) new new) (sym (cut-lengths mesh c).0 ∙ (cut-lengths mesh c).1) (cut-empty mesh new);
      }
  step-reshapes (all_reduce L) s m h f = absurd m
  step-reshapes (all_to_all source target L) s m h f =
      let c : Ready mesh (all_to_all source target L) (shape_of s) = step-ready mesh sizes pos (all_to_all source target L) s h f in
      record { apart = off-only (rank_of s) source target L f.by_kind.other; joins = c.0; parts = c.1 }
  step-reshapes (reduce_scatter Ss) s m h f = absurd m

  -- the words fetched are those that the rules make
  module _ {W : Type 0} (addAll : List W → W) (one : (a : W) → addAll (a ∷ []) ≡ a) where
    pub fetched-made : (t : Step) (s : Sharding) (w : StateOf W) (x i : List ℕ) → Moving t → IsSharding mesh sizes s → AcceptedStep mesh sizes t s
        → Below x mesh → Below i (shape_after mesh t (shape_of s))
        → fetched mesh (gathers t (rank_of s)) (slices t (rank_of s)) (shape_of s) (shape_after mesh t (shape_of s)) w x i
        ≡ made addAll (sources mesh t (shape_of s)) w x i
    unfolding sources made slice_place gather_place
    fetched-made (all_slice Ss) s w x i m h f bx bi =
        ap₂ w (owner-empty mesh (rank_of s) (shape_of s) _ x) (within_same (piece-below mesh (step-ready mesh sizes pos (all_slice Ss) s h f) bx bi))
        ∙ sym (one _)
    fetched-made (all_gather Gs) s w x i m h f bx bi =
        let new : List ℕ = grown mesh Gs (shape_of s) in
        let c : Cut mesh Gs new (shape_of s) = step-ready mesh sizes pos (all_gather Gs) s h f in
        let e : length new ≡ rank_of s = sym (cut-lengths mesh c).0 ∙ (cut-lengths mesh c).1 in
        ap (λ (j : List ℕ). w (owner mesh Gs (shape_of s) j x) (within (shape_of s) j))
        (ap (λ (r : ℕ). from (first_indexes mesh (replicate r []) new x) i) (sym e) ∙ from_empty mesh x bi)
        ∙ sym (one _)
    fetched-made (all_reduce L) s w x i m h f bx bi = absurd m
    fetched-made (all_to_all source target L) s w x i m h f bx bi = sym (one _)
    fetched-made (reduce_scatter Ss) s w x i m h f bx bi = absurd m

    -- THE BRIDGE: what the kernel leaves is what the rules make.
    pub step-moved : (z : W) (t : Step) (s : Sharding) (old : List W) → Moving t → IsSharding mesh sizes s → AcceptedStep mesh sizes t s
        → moved z mesh (gathers t (rank_of s)) (slices t (rank_of s)) (shape_of s) old
        ≡ tabulate mesh (shape_after mesh t (shape_of s)) (made addAll (sources mesh t (shape_of s)) (held z mesh (shape_of s) old))
    step-moved z t s old m h f =
        moved_is mesh pos z old (step-reshapes t s m h f)
        ∙ tabulate-same mesh (shape_after mesh t (shape_of s)) _ _ (λ x i bx bi. fetched-made t s (held z mesh (shape_of s) old) x i m h f bx bi)

  -- ---- what the kernel asks

  -- the lists of an accepted step have no axis twice, and only axes of the mesh
  pub gathers-distinct : (t : Step) (s : Sharding) → IsSharding mesh sizes s → AcceptedStep mesh sizes t s → Distinct (flat (gathers t (rank_of s)))
  gathers-distinct (all_slice Ss) s h f = subst Distinct (sym (flat-empty (rank_of s))) tt
  gathers-distinct (all_gather Gs) s h f = (gather-sharding mesh sizes pos Gs s h f.by_kind).apart.right
  gathers-distinct (all_reduce L) s h f = subst Distinct (sym (flat-empty (rank_of s))) tt
  gathers-distinct (all_to_all source target L) s h f =
      rw (shape-length mesh sizes pos s h) (to-all-sharding mesh sizes pos source target L s h f.axes f.by_kind).first.apart.right
  gathers-distinct (reduce_scatter Ss) s h f = subst Distinct (sym (flat-empty (rank_of s))) tt

  slices-distinct : (t : Step) (s : Sharding) → IsSharding mesh sizes s → AcceptedStep mesh sizes t s → Distinct (flat (slices t (rank_of s)))
  slices-distinct (all_slice Ss) s h f = f.by_kind.once
  slices-distinct (all_gather Gs) s h f = subst Distinct (sym (flat-empty (rank_of s))) tt
  slices-distinct (all_reduce L) s h f = subst Distinct (sym (flat-empty (rank_of s))) tt
  slices-distinct (all_to_all source target L) s h f =
      let n : rank_of s ≡ length s.dims = shape-length mesh sizes pos s h in
      let g : flat (only (rank_of s) source L) ≡ L = flat-only (rank_of s) source L (omega (arith, n, f.by_kind.source-lt)) in
      let k : flat (only (rank_of s) target L) ≡ L = flat-only (rank_of s) target L (omega (arith, n, f.by_kind.target-lt)) in
      subst Distinct (g ∙ sym k) (gathers-distinct (all_to_all source target L) s h f)
  slices-distinct (reduce_scatter Ss) s h f = f.by_kind.once

  pub gathers-below : (t : Step) (s : Sharding) → AcceptedStep mesh sizes t s → (a : ℕ) → In a (flat (gathers t (rank_of s))) → a < length mesh
  gathers-below (all_slice Ss) s f a i = absurd (subst (In a) (flat-empty (rank_of s)) i)
  gathers-below (all_gather Gs) s f a i = f.axes a i
  gathers-below (all_reduce L) s f a i = absurd (subst (In a) (flat-empty (rank_of s)) i)
  gathers-below (all_to_all source target L) s f a i = f.axes a (in-only a (rank_of s) source L i)
  gathers-below (reduce_scatter Ss) s f a i = absurd (subst (In a) (flat-empty (rank_of s)) i)

  slices-below : (t : Step) (s : Sharding) → AcceptedStep mesh sizes t s → (a : ℕ) → In a (flat (slices t (rank_of s))) → a < length mesh
  slices-below (all_slice Ss) s f a i = f.axes a i
  slices-below (all_gather Gs) s f a i = absurd (subst (In a) (flat-empty (rank_of s)) i)
  slices-below (all_reduce L) s f a i = absurd (subst (In a) (flat-empty (rank_of s)) i)
  slices-below (all_to_all source target L) s f a i = f.axes a (in-only a (rank_of s) target L i)
  slices-below (reduce_scatter Ss) s f a i = f.axes a i

  -- a shard has some words, and no more than the table
  shard-words : (s : Sharding) → IsSharding mesh sizes s → 0 < product sizes → (0 < product (shape_of s)) × (product (shape_of s) ≤ product sizes)
  shard-words s h some =
      let m : ℕ = product (shape_of s) in
      let g : ℕ = span mesh (flat s.dims) in
      let e : product sizes ≡ m * g = cut_product mesh (sharding-cut mesh sizes pos s h) in (
        pos_of_lt g m (subst (λ n. 0 < n) (e ∙ mul_comm m g) some),
        subst (λ n. m ≤ n) (sym e) (le-mul_of_pos_right m (span_pos mesh pos (flat s.dims))),
      )

  -- What a kernel asks follows from an accepted step.
  pub step-moves : (t : Step) (s : Sharding) → Moving t → IsSharding mesh sizes s → AcceptedStep mesh sizes t s → 0 < product sizes
      → Moves mesh sizes (gathers t (rank_of s)) (slices t (rank_of s)) (shape_of s) (shape_after mesh t (shape_of s))
  step-moves t s m h f some =
      let r : Reshapes mesh (gathers t (rank_of s)) (slices t (rank_of s)) (shape_of s) (shape_after mesh t (shape_of s)) = step-reshapes t s m h f in
      let old : (0 < product (shape_of s)) × (product (shape_of s) ≤ product sizes) = shard-words s h some in
      let new : (0 < product (shape_after mesh t (shape_of s))) × (product (shape_after mesh t (shape_of s)) ≤ product sizes) =
      subst (λ (l : List ℕ). (0 < product l) × (product l ≤ product sizes)) (sym (after-shape mesh sizes pos t s h f))
      (shard-words (after t s) (after-sharding mesh sizes pos t s h f) some) in
      let joined : length (gathers t (rank_of s)) ≡ rank_of s = (cut-lengths mesh r.joins).1 in
      record {
        rank = shape-length mesh sizes pos s h ∙ (cut-lengths mesh (sharding-cut mesh sizes pos s h)).0;
        gathers_each = joined;
        slices_each = (cut-lengths mesh r.parts).0 ∙ sym (cut-lengths mesh r.joins).0 ∙ joined;
        gathers_once = gathers-distinct t s h f;
        slices_once = slices-distinct t s h f;
        gathers_axes = gathers-below t s f;
        slices_axes = slices-below t s f;
        shape_is = moved-shape mesh pos r.apart r.joins r.parts;
        words_pos = old.0;
        words_few = old.1;
        new_words_pos = new.0;
        new_words_few = new.1;
      }
