-- Shards by device number and by place. Those that a buffer holds by an order stand where they were put by place (`placed-stands`); by the inverse
-- they go back (`numbered`); the plain order moves nothing (`plain-stands`, `plain-tabulate`). For every element type. Assumes nothing.
use Prim.Native.Nat.{ℕ, ◌+◌, ◌*◌, ◌/◌, ◌%◌, ◌<◌, ◌≤◌}
use mathlib.Core.Path.{◌≡◌, sym, ap, ap₂, ◌∙◌}
use mathlib.Core.List.{List, ◌++◌}
use native.Mathlib.Nat.{mod-lt}
use native.Mathlib.Omega.{arith}
use lib.ListN.{length, get_or}
use lib.Seq.{get_or-take, take_at}
use lib.Arith.{digits_lt, digits_div, digits_mod}
use Rattle.rules.specs.Lists.{tab, product}
use Rattle.rules.specs.Mesh.{number, coords, devices, plain_order, place_in, Rearrangement}
use Rattle.rules.specs.Spread.{StateOf, tabulate, held, tabulate_by, held_by}
use Rattle.rules.specs.Collectives.{Shards, Stands}
use Rattle.laws.proofs.Lists.{length-tab, get_or-tab, tab-cong}
use Rattle.laws.proofs.Positions.{pos_of_lt, div-lt}
use Rattle.laws.proofs.Buffers.{number_lt, number-coords, length-tabulate, tabulate-held, tabulate-same}
use Rattle.laws.proofs.Orders.{plain-rearranged, place-below, place-of}
use Rattle.order.specs.Order.{places_of, words_by_place, ShardsFit}

-- ---- what is asked of an order, and of its inverse

shards-fit : {n : ℕ} (l : List ℕ) → length l ≡ n → ((p : ℕ) → p < n → get_or l p 0 < n) → (m : ℕ) {to from : ℕ} → n * m ≤ to → n * m ≤ from
    → ShardsFit l m to from
shards-fit l e below m room inside = record {
  below = λ p h. omega (arith, e, below p (omega (arith, e)));
  room = rw e room;
  inside = rw e inside;
}

module _ {n : ℕ} {order : List ℕ} (r : Rearrangement n order) where
  pub length-places : length (places_of order) ≡ n
  unfolding places_of
  length-places = length-tab (length order) (λ d. place_in d order) ∙ r.size

  pub place_at : (d : ℕ) → d < n → get_or (places_of order) d 0 ≡ place_in d order
  unfolding places_of
  place_at d h = get_or-tab (length order) d (λ d. place_in d order) 0 (omega (arith, r.size))

  pub order-fits : (m : ℕ) {to from : ℕ} → n * m ≤ to → n * m ≤ from → ShardsFit order m to from
  order-fits = shards-fit order r.size r.below

  pub inverse-fits : (m : ℕ) {to from : ℕ} → n * m ≤ to → n * m ≤ from → ShardsFit (places_of order) m to from
  inverse-fits = shards-fit (places_of order) length-places (λ d h. rw (place_at d h) (place-below n order r d h))

-- ---- there and back

module _ {W : Type 0} (z : W) (mesh order : List ℕ) (r : Rearrangement (devices mesh) order) where
  pub placed : (shape : List ℕ) (b : List W) → tabulate mesh shape (held_by z order mesh shape b) ≡ words_by_place z order (product shape) b
  unfolding tabulate held_by words_by_place
  placed shape b =
      let n : ℕ = devices mesh in
      let m : ℕ = product shape in
      let f : ℕ → W = λ t. get_or b (get_or order (t / m) 0 * m + t % m) z in
      tab-cong (n * m) _ f (λ t l.
      ap₂ (λ (p k : ℕ). get_or b (get_or order p 0 * m + k) z) (number-coords mesh (t / m) (div-lt n m l))
      (number-coords shape (t % m) (mod-lt t (pos_of_lt n m l))))
      ∙ ap (λ (k : ℕ). tab (k * m) f) (sym r.size)

  -- what the first copy of a run under an order leaves
  pub placed-stands : (shape : List ℕ) (b rest : List W)
      → Stands mesh (record { shape = shape; words = held_by z order mesh shape b }) (words_by_place z order (product shape) b ++ rest)
  placed-stands shape b rest =
      take_at _ rest _ (ap length (sym (placed shape b)) ∙ length-tabulate mesh shape (held_by z order mesh shape b)) ∙ sym (placed shape b)

  -- what its last copy leaves, by the inverse
  pub numbered : (v : Shards W) (b : List W) → Stands mesh v b
      → words_by_place z (places_of order) (product v.shape) b ≡ tabulate_by order mesh v.shape v.words
  unfolding words_by_place tabulate_by tabulate
  numbered v b h =
      let n : ℕ = devices mesh in
      let m : ℕ = product v.shape in
      let w : ℕ → ℕ → W = λ p k. v.words (coords mesh p) (coords v.shape k) in
      let word : (p k : ℕ) → p < n → k < m → get_or b (p * m + k) z ≡ w p k = λ p k lp lk.
      let l : p * m + k < n * m = digits_lt lp lk in
      sym (get_or-take (n * m) b (p * m + k) z l) ∙ ap (λ (a : List W). get_or a (p * m + k) z) h
      ∙ get_or-tab (n * m) (p * m + k) (λ t. w (t / m) (t % m)) z l ∙ ap₂ w (digits_div p lk) (digits_mod p lk) in
      ap (λ (k : ℕ). tab (k * m) (λ t. get_or b (get_or (places_of order) (t / m) 0 * m + t % m) z)) (length-places r)
      ∙ tab-cong (n * m) _ (λ t. w (place_in (t / m) order) (t % m)) (λ t l.
      let d : t / m < n = div-lt n m l in
      ap (λ (p : ℕ). get_or b (p * m + t % m) z) (place_at r (t / m) d)
      ∙ word (place_in (t / m) order) (t % m) (place-below n order r (t / m) d) (mod-lt t (pos_of_lt n m l)))

-- ---- the plain order

module _ {W : Type 0} (mesh : List ℕ) where
  pub plain-stands : (z : W) (shape : List ℕ) (b : List W) → devices mesh * product shape ≤ length b
      → Stands mesh (record { shape = shape; words = held_by z (plain_order (devices mesh)) mesh shape b }) b
  unfolding held_by held
  plain-stands z shape b h = sym (tabulate-same mesh shape _ (held z mesh shape b) (λ x i bx bi.
      ap (λ (d : ℕ). get_or b (d * product shape + number shape i) z) (get_or-tab (devices mesh) (number mesh x) (λ d. d) 0 (number_lt bx)))
      ∙ tabulate-held mesh shape z b h)

  pub plain-tabulate : (shape : List ℕ) (w : StateOf W) → tabulate_by (plain_order (devices mesh)) mesh shape w ≡ tabulate mesh shape w
  unfolding tabulate_by tabulate
  plain-tabulate shape w =
      let n : ℕ = devices mesh in
      let m : ℕ = product shape in
      tab-cong (n * m) _ _ (λ t l.
      let d : t / m < n = div-lt n m l in
      let e : place_in (t / m) (plain_order n) ≡ t / m =
      ap (λ (k : ℕ). place_in k (plain_order n)) (sym (get_or-tab n (t / m) (λ d. d) 0 d)) ∙ place-of n (plain_order n) (plain-rearranged n) (t / m) d in
      ap (λ (p : ℕ). w (coords mesh p) (coords shape (t % m))) e)
