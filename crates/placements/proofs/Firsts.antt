-- Laws of the placement for a list of devices: the room that is asked for, the numbers at the front of the list that are below D, and the first indexes, as
-- many for each device (`parts_at`), which are those of the single call (`firsts-placed`), or its refusal (`firsts-refused`). Assumes nothing.
use Rattle.std.specs.Prelude.{Option, Some, None, MatchOption, EachIndex}
use Prim.Native.Nat.{ℕ, zero, suc, ◌+◌, ◌*◌, ◌/◌, ◌≤◌, ◌<◌}
use mathlib.Core.Path.{◌≡◌, refl, sym, ap, ◌∙◌}
use mathlib.Core.Bool.{Bool, true, false}
use mathlib.Core.List.{List, [], ◌∷◌, ◌++◌, map, append_assoc, append-nil}
use native.Mathlib.Omega.{arith}
use native.Mathlib.Nat.{le-div_iff_mul-le, div-lt_iff_lt-mul, suc-mul, zero-mul}
use borrow.Author.Tests.{leb-true, leb-false, ltb-true, ltb-false, le-leb, lt-leb, lt-ltb, le-ltb}
use lib.ListN.{length, get_or, take, drop, length-append}
use lib.Dec.{leb, ltb}
use lib.Seq.{take_at, drop_at, drop-drop}
use Rattle.rules.specs.Lists.{tab, flat, pick}
use Rattle.rules.specs.Refusals.{accept, refuse}
use Rattle.rules.specs.Calls.{PlaceAnswer, place_of}
use Rattle.placements.specs.PlaceAll.{firsts_of, placed_then, placed_before}
use Rattle.rules.specs.Mesh.{position, coords, plain_order, place_in}
use Rattle.types.specs.Types.{dims_of, sizes_of}
use Rattle.types.specs.declared.DimLists.{DimLists}
use Rattle.types.specs.declared.Table.{Table}
use Rattle.laws.proofs.Lists.{length-each, length-tab, tab-cong, get_or-tab}
use Rattle.laws.proofs.Orders.{plain-rearranged, place-of}
use Rattle.order.specs.Order.{places_of}
use Rattle.laws.proofs.Fronts.{part-tab, whole-tab, part_in}
use Rattle.placements.specs.Placing.{leading, firsts_at, PlacingAll}

-- ---- room

pub room-test : (n rank room : ℕ) → 1 ≤ rank → leb n (room / rank) ≡ leb (n * rank) room
room-test n rank room h = go (leb n (room / rank)) refl
  where
    go : (b : Bool) → leb n (room / rank) ≡ b → b ≡ leb (n * rank) room
    go true e = sym (le-leb (n * rank) room ((le-div_iff_mul-le {k = rank} {x = n} {y = room} h).0 (leb-true n (room / rank) e)))
    go false e = sym (lt-leb (n * rank) room ((div-lt_iff_lt-mul {k = rank} {x = room} {y = n} h).0 (leb-false n (room / rank) e)))

-- ---- the numbers at the front that are below a limit

-- they are as many as stand before the first that is not
first-past : (most : ℕ) (l : List ℕ) (i : ℕ) → i < length l → most ≤ get_or l i 0 → ((k : ℕ) → k < i → get_or l k 0 < most) → i ≡ leading most l
first-past most [] i h at before = absurd (omega arith)
first-past most (d ∷ ds) zero h at before = rw (le-ltb d most at) refl
first-past most (d ∷ ds) (suc i) h at before =
    let turn : leading most (d ∷ ds) ≡ suc (leading most ds) = rw (lt-ltb d most (before 0 (omega arith))) refl in
    omega (arith, turn, first-past most ds i (omega arith) at (λ k g. before (suc k) (omega arith)))

all-below : (most : ℕ) (l : List ℕ) → ((k : ℕ) → k < length l → get_or l k 0 < most) → leading most l ≡ length l
all-below most [] h = refl
all-below most (d ∷ ds) h = rw (lt-ltb d most (h 0 (omega arith))) (ap suc (all-below most ds (λ k g. h (suc k) (omega arith))))

pub found-past : (most : ℕ) (l : List ℕ) (r : Option ℕ)
    → MatchOption r (EachIndex l (λ k. get_or l k 0 < most)) (λ i. (i < length l) × (most ≤ get_or l i 0) × ((k : ℕ) → k < i → get_or l k 0 < most))
    → MatchOption r (leading most l ≡ length l) (λ i. (i ≡ leading most l) × (i < length l))
found-past most l None h = all-below most l h
found-past most l (Some i) h = (first-past most l i h.0 h.1 h.2, h.0)

-- below the limit are those before, and the one at that place is not
pub led-below : (most : ℕ) (l : List ℕ) (i : ℕ) → i < leading most l → get_or l i 0 < most
led-below most [] i h = absurd (omega arith)
led-below most (d ∷ ds) i h = go (ltb d most) refl i (λ j g. led-below most ds j g) h
  where
    go : (b : Bool) → ltb d most ≡ b → (i : ℕ) → ((j : ℕ) → j < leading most ds → get_or ds j 0 < most) → i < pick b (suc (leading most ds)) 0
        → get_or (d ∷ ds) i 0 < most
    go true e zero f h = ltb-true d most e
    go true e (suc i) f h = f i (omega arith)
    go false e i f h = absurd (omega arith)

pub led-past : (most : ℕ) (l : List ℕ) → leading most l < length l → most ≤ get_or l (leading most l) 0
led-past most [] h = absurd (omega arith)
led-past most (d ∷ ds) h = go (ltb d most) refl (λ g. led-past most ds g) h
  where
    go : (b : Bool) → ltb d most ≡ b → (leading most ds < length ds → most ≤ get_or ds (leading most ds) 0) → pick b (suc (leading most ds)) 0 < suc (length ds)
        → most ≤ get_or (d ∷ ds) (pick b (suc (leading most ds)) 0) 0
    go true e f h = f (omega arith)
    go false e f h = ltb-false d most e

pub led-few : (most : ℕ) (l : List ℕ) → leading most l ≤ length l
led-few most [] = omega arith
led-few most (d ∷ ds) = go (ltb d most) (led-few most ds)
  where
    go : (b : Bool) → leading most ds ≤ length ds → pick b (suc (leading most ds)) 0 ≤ suc (length ds)
    go true h = omega arith
    go false h = omega arith

-- ---- places

-- in plain order the place of each device is its number
pub places-plain : (n : ℕ) → plain_order n ≡ places_of (plain_order n)
unfolding places_of
places-plain n =
    tab-cong n (λ k. k) (λ d. place_in d (plain_order n)) (λ d h. sym (ap (λ (k : ℕ). place_in k (plain_order n)) (sym (get_or-tab n d (λ k. k) 0 h))
    ∙ place-of n (plain_order n) (plain-rearranged n) d h))
    ∙ ap (λ (m : ℕ). tab m (λ d. place_in d (plain_order n))) (sym (length-tab n (λ k. k)))

-- ---- parts of one length

module _ (F : ℕ → List ℕ) (rank : ℕ) where
  -- each of the list's devices has as many entries as the rank
  abbrev pub Even : List ℕ → Type 0
  Even ds = (i : ℕ) → i < length ds → length (F (get_or ds i 0)) ≡ rank

  pub parts-length : (ds : List ℕ) → Even ds → length (flat (map F ds)) ≡ length ds * rank
  parts-length [] e = omega arith
  parts-length (d ∷ ds) e =
      length-append (F d) (flat (map F ds))
      ∙ omega (arith, e 0 (omega arith), parts-length ds (λ i h. e (suc i) (omega arith)), suc-mul (length ds) rank)

  pub parts_at : (ds : List ℕ) → Even ds → (i : ℕ) → i < length ds → (rest : List ℕ)
      → take rank (drop (i * rank) (flat (map F ds) ++ rest)) ≡ F (get_or ds i 0)
  parts_at [] e i h rest = absurd (omega arith)
  parts_at (d ∷ ds) e zero h rest =
      ap (λ (k : ℕ). take rank (drop k (flat (map F (d ∷ ds)) ++ rest))) (zero-mul rank)
      ∙ ap (λ (l : List ℕ). take rank l) (append_assoc (F d) (flat (map F ds)) rest)
      ∙ take_at (F d) (flat (map F ds) ++ rest) rank (e 0 (omega arith))
  parts_at (d ∷ ds) e (suc i) h rest =
      let next : suc i * rank ≡ rank + i * rank = omega (arith, suc-mul i rank) in
      ap (λ (k : ℕ). take rank (drop k (flat (map F (d ∷ ds)) ++ rest))) next
      ∙ ap (λ (l : List ℕ). take rank l) (sym (drop-drop (i * rank) rank (flat (map F (d ∷ ds)) ++ rest)))
      ∙ ap (λ (l : List ℕ). take rank (drop (i * rank) l))
      (ap (λ (l : List ℕ). drop rank l) (append_assoc (F d) (flat (map F ds)) rest) ∙ drop_at (F d) (flat (map F ds) ++ rest) rank (e 0 (omega arith)))
      ∙ parts_at ds (λ j g. e (suc j) (omega arith)) i (omega arith) rest

  pub parts-tab : (ds : List ℕ) → Even ds → (i : ℕ) → i < length ds → F (get_or ds i 0) ≡ tab rank (λ o. get_or (flat (map F ds)) (i * rank + o) 0)
  parts-tab ds e i h =
      sym (parts_at ds e i h []) ∙ ap (λ (l : List ℕ). take rank (drop (i * rank) l)) (append-nil (flat (map F ds)))
      ∙ part-tab 0 (flat (map F ds)) (i * rank) rank (omega (arith, parts-length ds e, part_in i (length ds) rank (length ds * rank) h (omega arith)))

  pub parts_whole : (ds : List ℕ) → Even ds → tab (length ds * rank) (λ t. get_or (flat (map F ds)) t 0) ≡ flat (map F ds)
  parts_whole ds e =
      ap (λ (n : ℕ). tab n (λ t. get_or (flat (map F ds)) t 0)) (sym (parts-length ds e)) ∙ sym (whole-tab 0 (flat (map F ds)))

-- first indexes are as many as the rank
pub firsts-even : {mesh places devices : List ℕ} {dims : DimLists} {shard : Table} {room : ℕ} → PlacingAll mesh dims shard places devices room
    → Even (firsts_at mesh dims shard places) shard.rank devices
firsts-even {mesh} {places} {devices} {dims} {shard} p i h =
    length-each (λ (n : ℕ) (l : List ℕ). position mesh l (coords mesh (get_or places (get_or devices i 0) 0)) * n) (sizes_of shard) (take shard.rank (dims_of dims))
    (p.sizes ∙ sym p.lists)
    ∙ p.lists

-- ---- the single call's answers, one by one

module _ (file : List ℕ) (state : ℕ) where
  -- placed, with these first indexes
  abbrev pub Placed : List ℕ → ℕ → Type 0
  Placed first d = (a : PlaceAnswer) × (place_of file state d ≡ accept a) × (a.first ≡ first)

  pub firsts-placed : (F : ℕ → List ℕ) (ds : List ℕ) → ((i : ℕ) → i < length ds → Placed (F (get_or ds i 0)) (get_or ds i 0))
      → firsts_of file state ds ≡ accept (flat (map F ds))
  unfolding firsts_of
  firsts-placed F [] h = refl
  firsts-placed F (d ∷ ds) h =
      let p = h 0 (omega arith) in
      rw (p.1, firsts-placed F ds (λ i g. h (suc i) (omega arith)), p.2) refl

  module _ (most : ℕ) (past : (d : ℕ) → most ≤ d → place_of file state d ≡ refuse 32 0) (among : (d : ℕ) → d < most → (a : PlaceAnswer) × (place_of file state d ≡ accept a)) where
    pub firsts-refused : (ds : List ℕ) → leading most ds < length ds → firsts_of file state ds ≡ refuse 32 0
    unfolding firsts_of
    firsts-refused [] h = absurd (omega arith)
    firsts-refused (d ∷ ds) h = go (ltb d most) refl (λ g. firsts-refused ds g) h
      where
        go : (b : Bool) → ltb d most ≡ b → (leading most ds < length ds → firsts_of file state ds ≡ refuse 32 0)
            → pick b (suc (leading most ds)) 0 < suc (length ds) → firsts_of file state (d ∷ ds) ≡ refuse 32 0
        go true e f h = rw ((among d (ltb-true d most e)).1, f (omega arith)) refl
        go false e f h = rw (past d (ltb-false d most e)) refl

    pub placed-leading : (ds : List ℕ) → placed_before file state ds ≡ leading most ds
    unfolding placed_before
    placed-leading [] = refl
    placed-leading (d ∷ ds) = go (ltb d most) refl (placed-leading ds)
      where
        go : (b : Bool) → ltb d most ≡ b → placed_before file state ds ≡ leading most ds
            → placed_then (place_of file state d) (placed_before file state ds) ≡ pick b (suc (leading most ds)) 0
        go true e f = rw (among d (ltb-true d most e)).1 (ap suc f)
        go false e f = rw (past d (ltb-false d most e)) refl
