-- Laws of groups and of the group listing (specs/Mesh.antt). The main ones: the group by position has each device that agrees outside the list
-- exactly once, and no other (`group_by_position`); the listing place by place, as code writes it (`places-tab`); the listing is a rearrangement
-- of the device numbers (`places-rearranges`). Assumes nothing.
use Prim.Native.Nat.{ℕ, zero, suc, ◌+◌, ◌*◌, ◌/◌, ◌%◌, ◌≤◌, ◌<◌}
use mathlib.Core.Path.{◌≡◌, refl, sym, ap, ap₂, ◌∙◌, subst}
use mathlib.Core.Logic.{inl, inr, ⊎_elim}
use mathlib.Core.List.{List, [], ◌∷◌, ◌++◌, map, append-nil, append_assoc}
use native.Mathlib.Nat.{add-zero, add-suc, zero-mul, suc-mul, mul_comm, mod-lt, div-add-mod', le-mul_of_pos_right}
use native.Mathlib.Omega.{arith}
use native.Mathlib.Decide.{ℕ_discrete}
use lib.ListN.{length, get_or, set, replicate, length-replicate}
use lib.Seq.{get_or-set_other, get_or-set_same, ext_get_or}
use lib.Arith.{digits_lt, digits_div, digits_mod}
use Rattle.laws.specs.Demands.{GroupByPosition}
use Rattle.rules.specs.Lists.{tab, flat, product, mem, without, In, Distinct, Below, none, more}
use Rattle.rules.specs.Mesh.{number, coords, devices, span, position, member, members, remaining, firsts, grouped, places_listed, IsGroup, Rearrangement}
use Rattle.laws.proofs.Lists.{
  length-tab,
  get_or-tab,
  tab-cong,
  map-tab,
  mem-in,
  not-mem,
  T?,
  in-axes,
  axes-in,
  distinct-axes,
  in_without,
  of-without,
  not-in-without,
  distinct_without,
  without-none,
  without_more,
  without-same,
  without_other,
  without-absent,
  below_length,
}
use Rattle.laws.proofs.Positions.{
  pos_of_lt,
  div-lt,
  position-agree,
  position-lt,
  span-append,
  length-member,
  below-member,
  member-other,
  position-member,
}
use Rattle.laws.proofs.Buffers.{number_lt, coords-number, below-coords, number-coords}

-- ---- the group by position

module _ (mesh : List ℕ) where
  -- to be at the position of y is to have y's coordinates along the list
  pub member-along : (L : List ℕ) (a : ℕ) {x y : List ℕ} → Distinct L → ((b : ℕ) → In b L → b < length mesh) → Below x mesh → Below y mesh → In a L
      → get_or (member mesh L (position mesh L y) x) a 0 ≡ get_or y a 0
  member-along [] a {x = x} {y = y} d r bx by i = elim i [ ]
  member-along (b ∷ L) a {x} {y} d r bx by i = go (ℕ_discrete a b) i (member-along L a d.1 (λ c j. r c (inr j)) bx by)
    where
      go : Dec (a ≡ b) → In a (b ∷ L) → (In a L → get_or (member mesh L (position mesh L y) x) a 0 ≡ get_or y a 0)
          → get_or (member mesh (b ∷ L) (position mesh (b ∷ L) y) x) a 0 ≡ get_or y a 0
      go (yes e) i ih =
          let q : ℕ = position mesh (b ∷ L) y in
          let z : List ℕ = member mesh L (q % span mesh L) x in
          ap (λ (c : ℕ). get_or (set z b (q / span mesh L)) c 0) e
          ∙ get_or-set_same z b (q / span mesh L) 0 (rw (length-member mesh L (q % span mesh L) x, below_length bx) (r b (inl refl)))
          ∙ digits_div (get_or y b 0) (position-lt mesh L by) ∙ ap (λ (c : ℕ). get_or y c 0) (sym e)
      go (no n) (inl e) ih = absurd (n e)
      go (no n) (inr j) ih =
          let q : ℕ = position mesh (b ∷ L) y in
          get_or-set_other (member mesh L (q % span mesh L) x) b a (q / span mesh L) 0 n
          ∙ ap (λ (t : ℕ). get_or (member mesh L t x) a 0) (digits_mod (get_or y b 0) (position-lt mesh L by)) ∙ ih j

module _ (mesh L : List ℕ) (distinct : Distinct L) (of-axes : (a : ℕ) → In a L → a < length mesh) where
  -- a device that agrees with x outside the list is the member of x's group at its own position
  member-at : {x y : List ℕ} → Below x mesh → Below y mesh → ((a : ℕ) → a < length mesh → ¬ In a L → get_or x a 0 ≡ get_or y a 0)
      → member mesh L (position mesh L y) x ≡ y
  member-at {x} {y} bx by same =
      let q : ℕ = position mesh L y in
      let n : length (member mesh L q x) ≡ length mesh = length-member mesh L q x ∙ below_length bx in
      ext_get_or 0 (member mesh L q x) y (n ∙ sym (below_length by)) (λ a l.
      ⊎_elim (λ t. member-along mesh L a distinct of-axes bx by (mem-in a L t))
      (λ t. member-other mesh L q x a (not-mem a L t) ∙ same a (subst (λ k. a < k) n l) (not-mem a L t)) (T? (mem a L)))

  pub group_by_position : {x : List ℕ} → Below x mesh → IsGroup mesh L x
  group_by_position {x} bx = record {
    of_mesh = λ q l. below-member mesh L q l bx;
    agrees = λ q l a off. sym (member-other mesh L q x a off);
    has = λ y by same. (position-lt mesh L by, member-at bx by (λ a l off. same a off));
    once = λ q r lq lr e. sym (at q lq) ∙ ap (position mesh L) e ∙ at r lr;
  }
    where
      at : (q : ℕ) → q < span mesh L → position mesh L (member mesh L q x) ≡ q
      at q l = position-member mesh L q x distinct (λ a i. rw (below_length bx) (of-axes a i)) l

pub groups-by-position : GroupByPosition
groups-by-position mesh L distinct of-axes x b = group_by_position mesh L distinct of-axes b

-- ---- the sizes of groups

module _ (mesh : List ℕ) where
  -- the devices of a group along distinct axes, by those along all but one
  span-left-out : (a : ℕ) (U : List ℕ) → In a U → Distinct U → span mesh (without U (a ∷ [])) * get_or mesh a 1 ≡ span mesh U
  span-left-out a [] i d = elim i [ ]
  span-left-out a (b ∷ U) i d = go (ℕ_discrete a b) i (λ j. span-left-out a U j d.1)
    where
      go : Dec (a ≡ b) → In a (b ∷ U) → (In a U → span mesh (without U (a ∷ [])) * get_or mesh a 1 ≡ span mesh U)
          → span mesh (without (b ∷ U) (a ∷ [])) * get_or mesh a 1 ≡ span mesh (b ∷ U)
      go (yes e) i ih =
          ap (λ (c : ℕ). span mesh (without (b ∷ U) (c ∷ [])) * get_or mesh c 1) e
          ∙ ap (λ (l : List ℕ). span mesh l * get_or mesh b 1)
          (without-same b U ∙ without-absent (b ∷ []) U (λ c j k. d.0 (⊎_elim (λ p. subst (λ z. In z U) p j) (λ k. absurd k) k)))
          ∙ mul_comm (span mesh U) (get_or mesh b 1)
      go (no n) (inl e) ih = absurd (n e)
      go (no n) (inr j) ih = rw (without_other a b U n, ← ih j) (omega arith)

  -- and by those along all but some
  pub span-without : (L U : List ℕ) → ((a : ℕ) → In a L → In a U) → Distinct L → Distinct U → span mesh (without U L) * span mesh L ≡ span mesh U
  span-without [] U sub dL dU = rw (without-none U) (omega arith)
  span-without (a ∷ L) U sub dL dU =
      let R : List ℕ = without U (a ∷ []) in
      let others : (b : ℕ) → In b L → In b R = λ b i.
      ⊎_elim (⊎_elim (λ e. absurd (dL.0 (subst (λ z. In z L) e i))) (λ j. absurd j)) (λ j. j) (in_without b (a ∷ []) U (sub b (inr i))) in
      let h : span mesh (without R L) * span mesh L ≡ span mesh R = span-without L R others dL.1 (distinct_without (a ∷ []) U dU) in
      rw (without_more a L U, ← span-left-out a U (sub a (inl refl)) dU, ← h) (omega arith)

-- a mesh with one size more in front
span-cons : (n : ℕ) (ns : List ℕ) (k : ℕ) → span (n ∷ ns) (tab (suc k) (λ a. a)) ≡ n * span ns (tab k (λ a. a))
span-cons n ns zero = refl
span-cons n ns (suc k) =
    span-append (n ∷ ns) (tab (suc k) (λ a. a)) (suc k ∷ [])
    ∙ rw (span-cons n ns k, span-append ns (tab k (λ a. a)) (k ∷ [])) (omega arith)

-- the group along all axes has all devices
span-all : (mesh : List ℕ) → span mesh (tab (length mesh) (λ a. a)) ≡ devices mesh
span-all [] = refl
span-all (n ∷ ns) = span-cons n ns (length ns) ∙ ap (λ (s : ℕ). n * s) (span-all ns)

-- ---- the listing

pub tab-add : {A : Type 0} (n m : ℕ) (f : ℕ → A) → tab (n + m) f ≡ tab n f ++ tab m (λ k. f (n + k))
tab-add n zero f = ap (λ (k : ℕ). tab k f) (add-zero n) ∙ sym (append-nil (tab n f))
tab-add {A} n (suc m) f =
    ap (λ (k : ℕ). tab k f) (add-suc n m) ∙ ap (λ (l : List A). l ++ f (n + m) ∷ []) (tab-add n m f)
    ∙ append_assoc (tab n f) (tab m (λ k. f (n + k))) (f (n + m) ∷ [])

flat-snoc : {A : Type 0} (ls : List (List A)) (l : List A) → flat (ls ++ l ∷ []) ≡ flat ls ++ l
flat-snoc [] l = append-nil l
flat-snoc {A} (k ∷ ls) l = ap (λ (m : List A). k ++ m) (flat-snoc ls l) ∙ sym (append_assoc k (flat ls) l)

-- r rows of s entries, one row after the other
flat-tab : {A : Type 0} (r s : ℕ) (f : ℕ → ℕ → A) → flat (tab r (λ g. tab s (f g))) ≡ tab (r * s) (λ p. f (p / s) (p % s))
flat-tab zero s f = ap (λ (n : ℕ). tab n (λ p. f (p / s) (p % s))) (sym (zero-mul s))
flat-tab {A} (suc r) s f =
    flat-snoc (tab r (λ g. tab s (f g))) (tab s (f r))
    ∙ ap₂ (λ (l m : List A). l ++ m) (flat-tab r s f)
    (tab-cong s (f r) _ (λ k l. sym (ap₂ f (digits_div r l) (digits_mod r l))))
    ∙ sym (tab-add (r * s) s (λ p. f (p / s) (p % s)))
    ∙ ap (λ (n : ℕ). tab n (λ p. f (p / s) (p % s))) (sym (suc-mul r s))

zeros-below : (mesh : List ℕ) → zero < devices mesh → Below (replicate (length mesh) 0) mesh
zeros-below [] h = none
zeros-below (n ∷ ns) h =
    more (pos_of_lt (product ns) n (subst (λ d. zero < d) (mul_comm n (product ns)) h)) (zeros-below ns (pos_of_lt n (product ns) h))

-- the device at place p of the listing
abbrev pub listed : List ℕ → List ℕ → ℕ → List ℕ
listed mesh L p = member mesh L (p % span mesh L) (member mesh (remaining mesh L) (p / span mesh L) (replicate (length mesh) 0))

module _ (mesh L : List ℕ) (distinct : Distinct L) (of-axes : (a : ℕ) → In a L → a < length mesh) where
  -- the remaining axes are the others, each once
  remaining-in : (a : ℕ) → a < length mesh → ¬ In a L → In a (remaining mesh L)
  unfolding remaining
  remaining-in a l off = ⊎_elim (λ i. absurd (off i)) (λ i. i) (in_without a L (tab (length mesh) (λ a. a)) (axes-in a (length mesh) l))

  remaining-lt : (a : ℕ) → In a (remaining mesh L) → a < length mesh
  unfolding remaining
  remaining-lt a i = in-axes a (length mesh) (of-without a L (tab (length mesh) (λ a. a)) i)

  remaining-off : (a : ℕ) → In a (remaining mesh L) → ¬ In a L
  unfolding remaining
  remaining-off a i j = not-in-without a L (tab (length mesh) (λ a. a)) j i

  remaining-distinct : Distinct (remaining mesh L)
  unfolding remaining
  remaining-distinct = distinct_without L (tab (length mesh) (λ a. a)) (distinct-axes (length mesh))

  pub groups-devices : span mesh (remaining mesh L) * span mesh L ≡ devices mesh
  unfolding remaining
  groups-devices =
      span-without mesh L (tab (length mesh) (λ a. a)) (λ a i. axes-in a (length mesh) (of-axes a i)) distinct (distinct-axes (length mesh))
      ∙ span-all mesh

  -- a group has at most all devices
  pub group-few : 0 < devices mesh → span mesh L ≤ devices mesh
  group-few some =
      let r : ℕ = span mesh (remaining mesh L) in
      let e : span mesh L * r ≡ devices mesh = mul_comm (span mesh L) r ∙ groups-devices in
      subst (λ d. span mesh L ≤ d) e (le-mul_of_pos_right (span mesh L) (pos_of_lt (span mesh L) r (subst (λ d. 0 < d) (sym e) some)))

  -- the remaining axes and those of the list are all axes
  pub span-remaining : span mesh (remaining mesh L ++ L) ≡ devices mesh
  span-remaining = span-append mesh (remaining mesh L) L ∙ groups-devices

  -- the listing place by place
  pub places-tab : places_listed mesh L ≡ tab (devices mesh) (λ p. number mesh (listed mesh L p))
  unfolding places_listed grouped firsts members
  places-tab =
      let r : ℕ = span mesh (remaining mesh L) in
      let s : ℕ = span mesh L in
      let first : ℕ → List ℕ = λ g. member mesh (remaining mesh L) g (replicate (length mesh) 0) in
      ap (λ (groups : List (List (List ℕ))). map (number mesh) (flat groups)) (map-tab (members mesh L) r first)
      ∙ ap (map (number mesh)) (flat-tab r s (λ g q. member mesh L q (first g)))
      ∙ map-tab (number mesh) (r * s) (listed mesh L)
      ∙ ap (λ (n : ℕ). tab n (λ p. number mesh (listed mesh L p))) groups-devices

  pub places-length : length (places_listed mesh L) ≡ devices mesh
  places-length = ap length places-tab ∙ length-tab (devices mesh) _

  places-at : (p : ℕ) → p < devices mesh → get_or (places_listed mesh L) p 0 ≡ number mesh (listed mesh L p)
  places-at p l = ap (λ (ds : List ℕ). get_or ds p 0) places-tab ∙ get_or-tab (devices mesh) p _ 0 l

  -- a place of the listing is a group and a position in it
  place-parts : (p : ℕ) → p < devices mesh → (p / span mesh L < span mesh (remaining mesh L)) × (p % span mesh L < span mesh L)
  place-parts p l =
      let h : p < span mesh (remaining mesh L) * span mesh L = subst (λ n. p < n) (sym groups-devices) l in
      (div-lt (span mesh (remaining mesh L)) (span mesh L) h, mod-lt p (pos_of_lt (span mesh (remaining mesh L)) (span mesh L) h))

  below-first : (g : ℕ) → zero < devices mesh → g < span mesh (remaining mesh L)
      → Below (member mesh (remaining mesh L) g (replicate (length mesh) 0)) mesh
  below-first g h l = below-member mesh (remaining mesh L) g l (zeros-below mesh h)

  below-listed : (p : ℕ) → p < devices mesh → Below (listed mesh L p) mesh
  below-listed p l = below-member mesh L (p % span mesh L) (place-parts p l).1 (below-first (p / span mesh L) (omega arith) (place-parts p l).0)

  -- the place of a device in the listing
  abbrev place : List ℕ → ℕ
  place x = position mesh (remaining mesh L) x * span mesh L + position mesh L x

  place-listed : (p : ℕ) → p < devices mesh → place (listed mesh L p) ≡ p
  place-listed p l =
      let R : List ℕ = remaining mesh L in
      let s : ℕ = span mesh L in
      let zeros : List ℕ = replicate (length mesh) 0 in
      let zeros-length : length zeros ≡ length mesh = length-replicate (length mesh) 0 in
      let first : List ℕ = member mesh R (p / s) zeros in
      let first-length : length first ≡ length mesh = length-member mesh R (p / s) zeros ∙ zeros-length in
      ap₂ (λ (g q : ℕ). g * s + q)
      (position-agree mesh R (listed mesh L p) first (λ a i. member-other mesh L (p % s) first a (remaining-off a i))
      ∙ position-member mesh R (p / s) zeros remaining-distinct (λ a i. rw zeros-length (remaining-lt a i)) (place-parts p l).0)
      (position-member mesh L (p % s) first distinct (λ a i. rw first-length (of-axes a i)) (place-parts p l).1)
      ∙ div-add-mod' p s

  listed-place : {x : List ℕ} → Below x mesh → listed mesh L (place x) ≡ x
  listed-place {x} bx =
      let R : List ℕ = remaining mesh L in
      let zeros : List ℕ = replicate (length mesh) 0 in
      let some : zero < devices mesh = omega (arith, number_lt bx) in
      ap₂ (λ (q g : ℕ). member mesh L q (member mesh R g zeros)) (digits_mod (position mesh R x) (position-lt mesh L bx))
      (digits_div (position mesh R x) (position-lt mesh L bx))
      ∙ member-at mesh L distinct of-axes (below-first (position mesh R x) some (position-lt mesh R bx)) bx
      (λ a l off. member-along mesh R a remaining-distinct remaining-lt (zeros-below mesh some) bx (remaining-in a l off))

  pub places-below : (p : ℕ) → p < devices mesh → get_or (places_listed mesh L) p 0 < devices mesh
  places-below p l = rw (places-at p l) (number_lt (below-listed p l))

  pub places-once : (p q : ℕ) → p < devices mesh → q < devices mesh → get_or (places_listed mesh L) p 0 ≡ get_or (places_listed mesh L) q 0 → p ≡ q
  places-once p q lp lq e =
      let n : number mesh (listed mesh L p) ≡ number mesh (listed mesh L q) = sym (places-at p lp) ∙ e ∙ places-at q lq in
      let x : listed mesh L p ≡ listed mesh L q =
      sym (coords-number (below-listed p lp)) ∙ ap (coords mesh) n ∙ coords-number (below-listed q lq) in
      sym (place-listed p lp) ∙ ap place x ∙ place-listed q lq

  pub places-has : (d : ℕ) → d < devices mesh → (p : ℕ) × (p < devices mesh) × (get_or (places_listed mesh L) p 0 ≡ d)
  places-has d h =
      let x : List ℕ = coords mesh d in
      let b : Below x mesh = below-coords mesh d h in
      let l : place x < devices mesh =
      subst (λ n. place x < n) groups-devices (digits_lt (position-lt mesh (remaining mesh L) b) (position-lt mesh L b)) in
      (place x, l, places-at (place x) l ∙ ap (number mesh) (listed-place b) ∙ number-coords mesh d h)

  pub places-rearranges : Rearrangement (devices mesh) (places_listed mesh L)
  places-rearranges = record { size = places-length; below = places-below; once = places-once; has = places-has }
