-- Laws of an order of devices (specs/Mesh.antt). The test finds a rearrangement (`rearranged`), so an order that is read is one (`order-read`); numbers
-- and coordinates under an order are inverse (`by_order`); a buffer by device number holds the state that it is made of (`held-tabulate-by`,
-- `tabulate-held-by`); the listing is the one by place, each number looked up (`listing-places`). Assumes nothing.
use Prim.Native.Nat.{ℕ, zero, suc, ◌+◌, ◌*◌, ◌<◌, ◌≤◌}
use mathlib.Core.Path.{◌≡◌, refl, sym, ap, ap₂, ◌∙◌, subst}
use mathlib.Core.Logic.{inl, inr, ⊎_elim}
use mathlib.Core.Bool.{Bool, true, false, not, ◌&&◌}
use mathlib.Core.List.{List, [], ◌∷◌, ◌++◌, map}
use native.Mathlib.Decide.{ℕ_discrete}
use native.Mathlib.Omega.{arith}
use lib.ListN.{length, get_or, take, length-map}
use lib.Seq.{get_or-take}
use lib.Arith.{digits_lt}
use lib.Dec.{T, leb, eqb, eqb→eq, eqb_refl}
use Rattle.rules.specs.Lists.{tab, pick, product, mem, In, Distinct, Below}
use Rattle.rules.specs.Mesh.{number, coords, devices, plain_order, place_in, device_number, device_coords, grouped, listing, places_listed, Rearrangement}
use Rattle.rules.specs.Spread.{StateOf, tabulate_by, held_by}
use Rattle.rules.specs.Refusals.{accept}
use Rattle.rules.specs.PlanFile.{Read, u16_at, all_below, fresh, same, rearranges, order_allowed, order_at}
use Rattle.laws.proofs.Lists.{T?, T_and, T→true, n_t→false, mem-in, not-mem, length-tab, get_or-tab, few-distinct, at_in}
use Rattle.laws.proofs.Buffers.{number_lt, coords-number, below-coords, number-coords, Numbering, laid-held, held-laid, laid_same}
use Rattle.laws.proofs.Judging.{accept-inj, need-inv, all_below-lt, fresh-distinct}

-- ---- places of a list

in-at : (d : ℕ) (l : List ℕ) → In d l → (p : ℕ) × (p < length l) × (get_or l p 0 ≡ d)
in-at d [] x' = elim x' [ ]
in-at d (a ∷ l) (inl e) = (zero, omega arith, sym e)
in-at d (a ∷ l) (inr i) = let r = in-at d l i in (suc r.0, omega (arith, r.1), r.2)

distinct-once : (l : List ℕ) → Distinct l → (p q : ℕ) → p < length l → q < length l → get_or l p 0 ≡ get_or l q 0 → p ≡ q
distinct-once [] d p q lp lq e = elim lp [ ]
distinct-once (a ∷ l) d zero zero lp lq e = refl
distinct-once (a ∷ l) d zero (suc q) lp lq e = absurd (d.0 (subst (λ z. In z l) (sym e) (at_in l q (omega arith))))
distinct-once (a ∷ l) d (suc p) zero lp lq e = absurd (d.0 (subst (λ z. In z l) e (at_in l p (omega arith))))
distinct-once (a ∷ l) d (suc p) (suc q) lp lq e = ap suc (distinct-once l d.1 p q (omega arith) (omega arith) e)

-- THE TEST FINDS A REARRANGEMENT
pub rearranged : (n : ℕ) (l : List ℕ) → T (rearranges n l) → Rearrangement n l
unfolding rearranges
rearranged n l t =
    let a = T_and (eqb (length l) n) (all_below n l && fresh [] l) t in
    let b = T_and (all_below n l) (fresh [] l) a.1 in
    let e : length l ≡ n = eqb→eq (length l) n a.0 in
    let d : Distinct l = (fresh-distinct [] l b.1).0 in
    let low : (c : ℕ) → In c l → c < n = all_below-lt n l b.0 in
    record {
      size = e;
      below = λ p h. low (get_or l p 0) (at_in l p (omega arith));
      once = λ p q hp hq. distinct-once l d p q (omega arith) (omega arith);
      has = λ c h.
          ⊎_elim (λ m. let r = in-at c l (mem-in c l m) in (r.0, omega (arith, r.1), r.2))
          (λ m. absurd (let f : length (c ∷ l) ≤ n = few-distinct n (c ∷ l) (not-mem c l m, d) (λ b. ⊎_elim (λ q. subst (λ z. z < n) (sym q) h) (low b)) in omega (arith, e))) (T? (mem c l));
    }

-- the plain order is one
pub plain-rearranged : (n : ℕ) → Rearrangement n (plain_order n)
plain-rearranged n = record {
  size = length-tab n _;
  below = λ p h. rw (get_or-tab n p (λ d. d) 0 h) h;
  once = λ p q hp hq e. sym (get_or-tab n p (λ d. d) 0 hp) ∙ e ∙ get_or-tab n q (λ d. d) 0 hq;
  has = λ d h. (d, h, get_or-tab n d (λ d. d) 0 h);
}

-- an order that is read is a rearrangement
pub order-read : (carried : Bool) (d : ℕ) (file : List ℕ) (at : ℕ) (r : Read (List ℕ)) → order_at carried d file at ≡ accept r → Rearrangement d r.value
unfolding order_at order_allowed
order-read true d file at r e =
    let l : List ℕ = tab d (λ i. u16_at file (at + 2 * i)) in
    let a = need-inv 0 (leb (at + 2 * d) (length file)) 7 _ r e in
    let b = need-inv 0 (order_allowed d l) 19 _ r a.1 in
    subst (λ (z : Read (List ℕ)). Rearrangement d z.value) {x = record { value = l; next = at + 2 * d }} (accept-inj b.1)
    (rearranged d l (T_and (rearranges d l) (not (same l (plain_order d))) b.0).0)
order-read false d file at r e =
    subst (λ (z : Read (List ℕ)). Rearrangement d z.value) {x = record { value = plain_order d; next = at }} (accept-inj e) (plain-rearranged d)

-- ---- the place of a number

pick_no : {A : Type 0} (d e : ℕ) (a b : A) → ¬ (d ≡ e) → pick (eqb d e) a b ≡ b
pick_no d e a b h = ap (λ (t : Bool). pick t a b) (n_t→false (eqb d e) (λ t. h (eqb→eq d e t)))

pick_yes : {A : Type 0} (d e : ℕ) (a b : A) → d ≡ e → pick (eqb d e) a b ≡ a
pick_yes d e a b h = ap (λ (t : Bool). pick t a b) (T→true (eqb d e) (subst (λ z. T (eqb d z)) h (eqb_refl d)))

pub place-lt : (d : ℕ) (l : List ℕ) → In d l → place_in d l < length l
place-lt d [] i = elim i [ ]
place-lt d (e ∷ l) i = go (ℕ_discrete d e) i (place-lt d l)
  where
    go : Dec (d ≡ e) → In d (e ∷ l) → (In d l → place_in d l < length l) → place_in d (e ∷ l) < suc (length l)
    go (yes q) i ih = rw (pick_yes d e 0 (place_in d l + 1) q) (omega arith)
    go (no q) (inl p) ih = absurd (q p)
    go (no q) (inr j) ih = rw (pick_no d e 0 (place_in d l + 1) q) (omega (arith, ih j))

pub at_place : (d : ℕ) (l : List ℕ) → In d l → get_or l (place_in d l) 0 ≡ d
at_place d [] i = elim i [ ]
at_place d (e ∷ l) i = go (ℕ_discrete d e) i (at_place d l)
  where
    go : Dec (d ≡ e) → In d (e ∷ l) → (In d l → get_or l (place_in d l) 0 ≡ d) → get_or (e ∷ l) (place_in d (e ∷ l)) 0 ≡ d
    go (yes q) i ih = ap (λ (k : ℕ). get_or (e ∷ l) k 0) (pick_yes d e 0 (place_in d l + 1) q) ∙ sym q
    go (no q) (inl p) ih = absurd (q p)
    go (no q) (inr j) ih = ap (λ (k : ℕ). get_or (e ∷ l) k 0) (pick_no d e 0 (place_in d l + 1) q ∙ add-one (place_in d l)) ∙ ih j
      where
        add-one : (k : ℕ) → k + 1 ≡ suc k
        add-one k = omega arith

module _ (n : ℕ) (order : List ℕ) (r : Rearrangement n order) where
  in_order : (d : ℕ) → d < n → In d order
  in_order d h = let p = r.has d h in subst (λ z. In z order) p.2 (at_in order p.0 (omega (arith, p.1, r.size)))

  pub place-below : (d : ℕ) → d < n → place_in d order < n
  place-below d h = omega (arith, place-lt d order (in_order d h), r.size)

  pub listed_at : (d : ℕ) → d < n → get_or order (place_in d order) 0 ≡ d
  listed_at d h = at_place d order (in_order d h)

  pub place-of : (p : ℕ) → p < n → place_in (get_or order p 0) order ≡ p
  place-of p h =
      let d : ℕ = get_or order p 0 in
      let l : d < n = r.below p h in
      r.once (place_in d order) p (place-below d l) h (listed_at d l)

-- ---- numbers and coordinates

module _ (mesh order : List ℕ) (r : Rearrangement (devices mesh) order) where
  pub by_order : Numbering mesh (device_number order mesh) (device_coords order mesh)
  by_order = record {
    num_lt = λ {x} b. r.below (number mesh x) (number_lt b);
    found = λ {x} b. ap (coords mesh) (place-of (devices mesh) order r (number mesh x) (number_lt b)) ∙ coords-number b;
    below = λ d h. below-coords mesh (place_in d order) (place-below (devices mesh) order r d h);
    numbered = λ d h.
        ap (λ (p : ℕ). get_or order p 0) (number-coords mesh (place_in d order) (place-below (devices mesh) order r d h)) ∙ listed_at (devices mesh) order r d h;
  }

  -- ---- buffers

  module _ {W : Type 0} (shape : List ℕ) where
    pub length-tabulate-by : (w : StateOf W) → length (tabulate_by order mesh shape w) ≡ devices mesh * product shape
    unfolding tabulate_by
    length-tabulate-by w = length-tab (devices mesh * product shape) _

    pub held-tabulate-by : (z : W) (w : StateOf W) (rest : List W) {x i : List ℕ} → Below x mesh → Below i shape
        → held_by z order mesh shape (tabulate_by order mesh shape w ++ rest) x i ≡ w x i
    unfolding tabulate_by held_by
    held-tabulate-by z w rest bx bi = laid-held mesh shape (device_number order mesh) (device_coords order mesh) by_order z w rest bx bi

    pub tabulate-held-by : (z : W) (b : List W) → devices mesh * product shape ≤ length b
        → tabulate_by order mesh shape (held_by z order mesh shape b) ≡ take (devices mesh * product shape) b
    unfolding tabulate_by held_by
    tabulate-held-by z b h = held-laid mesh shape (device_number order mesh) (device_coords order mesh) by_order z b h

    pub tabulate-same-by : (v w : StateOf W) → ((x i : List ℕ) → Below x mesh → Below i shape → v x i ≡ w x i)
        → tabulate_by order mesh shape v ≡ tabulate_by order mesh shape w
    unfolding tabulate_by
    tabulate-same-by v w h = laid_same mesh shape (device_number order mesh) (device_coords order mesh) by_order v w h

    -- buffers with one front hold one state
    pub held-front : (z : W) (b c : List W) → take (devices mesh * product shape) b ≡ take (devices mesh * product shape) c
        → {x i : List ℕ} → Below x mesh → Below i shape → held_by z order mesh shape b x i ≡ held_by z order mesh shape c x i
    unfolding held_by
    held-front z b c e {x} {i} bx bi =
        let k : ℕ = devices mesh * product shape in
        let j : ℕ = device_number order mesh x * product shape + number shape i in
        let l : j < k = digits_lt (by_order.num_lt bx) (number_lt bi) in
        sym (get_or-take k b j z l) ∙ ap (λ (f : List W). get_or f j z) e ∙ get_or-take k c j z l

-- ---- the listing

map-map : {A B C : Type 0} (f : B → C) (g : A → B) (l : List A) → map f (map g l) ≡ map (λ a. f (g a)) l
map-map f g [] = refl
map-map {C} f g (a ∷ l) = ap (λ (k : List C). f (g a) ∷ k) (map-map f g l)

-- it is the listing by place, each number looked up
pub listing-places : (order mesh L : List ℕ) → listing order mesh L ≡ map (λ p. get_or order p 0) (places_listed mesh L)
unfolding listing places_listed
listing-places order mesh L = sym (map-map (λ p. get_or order p 0) (number mesh) (grouped mesh L))

get_or-map_at : (f : ℕ → ℕ) (l : List ℕ) (p : ℕ) → p < length l → get_or (map f l) p 0 ≡ f (get_or l p 0)
get_or-map_at f [] p h = absurd (omega arith)
get_or-map_at f (a ∷ l) zero h = refl
get_or-map_at f (a ∷ l) (suc p) h = get_or-map_at f l p (omega arith)

-- "The D numbers are a rearrangement of 0 to D-1."
pub listing-rearranges : (order mesh L : List ℕ) → Rearrangement (devices mesh) order → Rearrangement (devices mesh) (places_listed mesh L)
    → Rearrangement (devices mesh) (listing order mesh L)
listing-rearranges order mesh L o l =
    let n : ℕ = devices mesh in
    let places : List ℕ = places_listed mesh L in
    let at : (p : ℕ) → p < n → get_or (listing order mesh L) p 0 ≡ get_or order (get_or places p 0) 0 = λ p h.
    ap (λ (ds : List ℕ). get_or ds p 0) (listing-places order mesh L) ∙ get_or-map_at (λ d. get_or order d 0) places p (omega (arith, l.size)) in
    record {
      size = ap length (listing-places order mesh L) ∙ length-map places (λ d. get_or order d 0) ∙ l.size;
      below = λ p h. rw (at p h) (o.below (get_or places p 0) (l.below p h));
      once = λ p q hp hq e. l.once p q hp hq (o.once (get_or places p 0) (get_or places q 0) (l.below p hp) (l.below q hq) (sym (at p hp) ∙ e ∙ at q hq));
      has = λ d h. let i = o.has d h in let p = l.has i.0 i.1 in (p.0, p.1, at p.0 p.1 ∙ ap (λ (k : ℕ). get_or order k 0) p.2 ∙ i.2);
    }

-- under the plain order it is the listing by place
pub listing-plain : (mesh L : List ℕ) → Rearrangement (devices mesh) (places_listed mesh L) → listing (plain_order (devices mesh)) mesh L ≡ places_listed mesh L
listing-plain mesh L r = listing-places (plain_order (devices mesh)) mesh L ∙ go (places_listed mesh L) (λ p h. subst (λ n. p < n) r.size h) r.below
  where
    go : (l : List ℕ) → ((p : ℕ) → p < length l → p < devices mesh) → ((p : ℕ) → p < devices mesh → get_or l p 0 < devices mesh)
        → map (λ p. get_or (plain_order (devices mesh)) p 0) l ≡ l
    go l inside below = ext l (λ p h. get_or-tab (devices mesh) (get_or l p 0) (λ d. d) 0 (below p (inside p h)))
      where
        ext : (k : List ℕ) → ((p : ℕ) → p < length k → get_or (plain_order (devices mesh)) (get_or k p 0) 0 ≡ get_or k p 0) → map (λ p. get_or (plain_order (devices mesh)) p 0) k ≡ k
        ext [] h = refl
        ext (a ∷ k) h = ap₂ (λ (b : ℕ) (m : List ℕ). b ∷ m) (h 0 (omega arith)) (ext k (λ p l. h (suc p) (omega arith)))
