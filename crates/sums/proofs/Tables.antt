-- The tables of a reduction. A device's first place and a member's shift make up the place of that member's shard (`place_is`); so the groups are
-- as the code asks (`groups-asked`), and what it leaves has the sums of the rules (`summed-is`, `reduced-all`). Assumes nothing.
use Rattle.std.proofs.Common.{◌≡◌, ℕ, zero, suc, ◌+◌, ◌-◌, ◌*◌, ◌/◌, ◌%◌, ◌<◌, ◌≤◌, Bool, true, false, ◌⊎◌, List, [], ◌∷◌, ◌++◌, map, length, get_or, drop, set, sym, refl, ap, ◌∙◌, subst, ap₂, inl, inr, le_refl, add-zero, mul-le-mul_right, mod-lt, mul-le-mul, mul-zero, div-add-mod', zero-add, zero-mul, mul-one, div-one, arith, length-take-le, get_or-drop, get_or-set_other, get_or-append-add, ext_get_or, le-ltb, lt-ltb}
use native.Mathlib.Decide.{ℕ_discrete, dec_lt}
use lib.ListN.{get_or-append}
use lib.Seq.{set_comm, length_front}
use Rattle.rules.specs.Lists.{tab, pick, product, In, Distinct, Below}
use Rattle.rules.specs.Mesh.{number, coords, span, position, member, members, IsGroup}
use Rattle.rules.specs.Spread.{tabulate, held}
use Rattle.rules.specs.Collectives.{Place, made, reduce_places, word}
use Rattle.laws.proofs.Lists.{length-tab, get_or-tab, tab-cong, map-tab}
use Rattle.laws.proofs.Positions.{div-lt, pos_of_lt, position-lt, below-member}
use Rattle.laws.proofs.Buffers.{number_lt, coords-number, below-coords, number-coords, tabulate-same}
use Rattle.laws.proofs.Groups.{group_by_position, group-few}
use Rattle.laws.proofs.Fronts.{part_in}
use Rattle.strided.specs.Strided.{offset, most_places, Counts}
use Rattle.digits.specs.Digits.{most_room, mesh_strides, dot, cleared, axis_digits, mesh_digits, HasStrides}
use Rattle.digits.proofs.Strides.{
  member_part,
  no_part,
  coords-length,
  strides-length,
  cleared-length,
  dot-strides,
  dot-member,
  counted-axes,
  counted-mesh,
  offset-axes,
  offset-mesh,
  nested-axes,
  nested-mesh,
}
use Rattle.mesh.proofs.Sizes.{group-pos}
use Rattle.sums.specs.Sums.{group_word, reduced_buffer, summed, summed_buffer, first_words, shift_words, Some, Groups, Summed, Shifting, Firsts, Tables}

-- ---- cleared strides

dot-clear : (strides xs : List ℕ) (a : ℕ) → dot (set strides a 0) xs ≤ dot strides xs
dot-clear [] xs a = omega arith
dot-clear (z ∷ strides) [] zero = omega arith
dot-clear (z ∷ strides) [] (suc a) = omega arith
dot-clear (z ∷ strides) (x ∷ xs) zero = omega (arith, mul-zero x)
dot-clear (z ∷ strides) (x ∷ xs) (suc a) = omega (arith, dot-clear strides xs a)

dot-cleared : (L strides xs : List ℕ) → dot (cleared L strides) xs ≤ dot strides xs
dot-cleared [] strides xs = omega arith
dot-cleared (a ∷ L) strides xs = omega (arith, dot-clear (cleared L strides) xs a, dot-cleared L strides xs)

cleared-set : (L strides : List ℕ) (a : ℕ) → cleared L (set strides a 0) ≡ set (cleared L strides) a 0
cleared-set [] strides a = refl
cleared-set (b ∷ L) strides a = ap (λ (l : List ℕ). set l b 0) (cleared-set L strides a) ∙ go (ℕ_discrete a b)
  where
    go : Dec (a ≡ b) → set (set (cleared L strides) a 0) b 0 ≡ set (set (cleared L strides) b 0) a 0
    go (yes e) = rw e
    go (no n) = set_comm (cleared L strides) a b 0 0 n

set_twice : (l : List ℕ) (a k : ℕ) → set (set l a k) a k ≡ set l a k
set_twice [] a k = refl
set_twice (x ∷ l) zero k = refl
set_twice (x ∷ l) (suc a) k = ap (λ (t : List ℕ). x ∷ t) (set_twice l a k)

cleared-twice : (L strides : List ℕ) → cleared L (cleared L strides) ≡ cleared L strides
cleared-twice [] strides = refl
cleared-twice (a ∷ L) strides =
    ap (λ (l : List ℕ). set l a 0) (cleared-set L (cleared L strides) a ∙ ap (λ (l : List ℕ). set l a 0) (cleared-twice L strides))
    ∙ set_twice (cleared L strides) a 0

-- a list's strides, cleared, are 0
set-none : (l : List ℕ) (a : ℕ) → get_or (set l a 0) a 0 ≡ 0
set-none [] a = refl
set-none (x ∷ l) zero = refl
set-none (x ∷ l) (suc a) = set-none l a

none_stays : (l : List ℕ) (a b : ℕ) → get_or l a 0 ≡ 0 → get_or (set l b 0) a 0 ≡ 0
none_stays l a b h = go (ℕ_discrete a b)
  where
    go : Dec (a ≡ b) → get_or (set l b 0) a 0 ≡ 0
    go (yes e) = rw e (set-none l b)
    go (no n) = get_or-set_other l b a 0 0 n ∙ h

cleared-none : (L strides : List ℕ) (a : ℕ) → get_or strides a 0 ≡ 0 → get_or (cleared L strides) a 0 ≡ 0
cleared-none [] strides a h = h
cleared-none (b ∷ L) strides a h = none_stays (cleared L strides) a b (cleared-none L strides a h)

cleared-in : (L strides : List ℕ) (a : ℕ) → In a L → get_or (cleared L strides) a 0 ≡ 0
cleared-in [] strides a x' = elim x' [ ]
cleared-in (b ∷ L) strides a (inl e) = rw e (set-none (cleared L strides) b)
cleared-in (b ∷ L) strides a (inr i) = none_stays (cleared L strides) a b (cleared-in L strides a i)

-- where the strides of a list are 0, its members add nothing
none-part : (mesh L strides : List ℕ) (q : ℕ) → ((a : ℕ) → In a L → get_or strides a 0 ≡ 0) → member_part mesh L strides q ≡ 0
none-part mesh [] strides q h = refl
none-part mesh (a ∷ L) strides q h =
    rw (
      cleared-none L strides a (h a (inl refl)),
      none-part mesh L strides (q % span mesh L) (λ b i. h b (inr i)),
      mul-zero (q / span mesh L),
    )

-- ---- the places

shift-at : (mesh L strides : List ℕ) (q : ℕ) → 0 < span mesh L → q < span mesh L → offset (axis_digits mesh L strides []) q ≡ member_part mesh L strides q
shift-at mesh L strides q p h =
    offset-axes mesh L strides [] q p (omega arith) (omega (arith, mul-one (span mesh L))) ∙ ap (λ (n : ℕ). member_part mesh L strides n + 0) (div-one q)
    ∙ add-zero _

first-at : (mesh strides : List ℕ) (d : ℕ) → length strides ≡ length mesh → d < product mesh → offset (mesh_digits mesh strides []) d ≡ dot strides (coords mesh d)
first-at mesh strides d e h =
    offset-mesh mesh strides [] d e (omega arith) (omega arith) (omega (arith, mul-one (product mesh)))
    ∙ ap (λ (n : ℕ). dot strides (coords mesh n) + 0) (div-one d) ∙ add-zero _

module _ (mesh L : List ℕ) (m : ℕ) (some : 0 < product mesh) (once : Distinct L) where
  -- a member's shard begins at its device's first place and its own shift
  place : {x : List ℕ} (q : ℕ) → Below x mesh → length x ≡ length mesh
      → dot (cleared L (mesh_strides mesh m)) x + member_part mesh L (mesh_strides mesh m) q ≡ number mesh (member mesh L q x) * m
  place {x} q b n =
      sym (dot-member mesh L (mesh_strides mesh m) q x once (n ∙ sym (strides-length mesh m))) ∙ dot-strides mesh (member mesh L q x) m

  pub firsts-length : length (first_words mesh L m) ≡ product mesh
  unfolding first_words
  firsts-length = length-tab (product mesh) _

  shifts-length : length (shift_words mesh L m) ≡ span mesh L
  unfolding shift_words
  shifts-length = length-tab (span mesh L) _

  cleared-strides : length (cleared L (mesh_strides mesh m)) ≡ length mesh
  cleared-strides = cleared-length L (mesh_strides mesh m) ∙ strides-length mesh m

  first_is : (d : ℕ) → d < product mesh → get_or (first_words mesh L m) d 0 ≡ dot (cleared L (mesh_strides mesh m)) (coords mesh d)
  unfolding first_words
  first_is d h = get_or-tab (product mesh) d _ 0 h ∙ first-at mesh (cleared L (mesh_strides mesh m)) d cleared-strides h

  shift_is : (q : ℕ) → q < span mesh L → get_or (shift_words mesh L m) q 0 ≡ member_part mesh L (mesh_strides mesh m) q
  unfolding shift_words
  shift_is q h = get_or-tab (span mesh L) q _ 0 h ∙ shift-at mesh L (mesh_strides mesh m) q (group-pos mesh L some) h

  pub place_is : (d q : ℕ) → d < product mesh → q < span mesh L
      → get_or (first_words mesh L m) d 0 + get_or (shift_words mesh L m) q 0 ≡ number mesh (member mesh L q (coords mesh d)) * m
  place_is d q hd hq = ap₂ ◌+◌ (first_is d hd) (shift_is q hq) ∙ place q (below-coords mesh d hd) (coords-length mesh d)

  shard-in : (d q : ℕ) → d < product mesh → q < span mesh L
      → get_or (first_words mesh L m) d 0 + get_or (shift_words mesh L m) q 0 + m ≤ product mesh * m
  shard-in d q hd hq =
      let e : ℕ = number mesh (member mesh L q (coords mesh d)) in
      rw (place_is d q hd hq)
      (part_in e (product mesh) m (product mesh * m) (number_lt (below-member mesh L q hq (below-coords mesh d hd))) (omega arith))

  -- the tables are small
  pub shift-few : (q : ℕ) → q < span mesh L → offset (axis_digits mesh L (mesh_strides mesh m) []) q ≤ product mesh * m
  shift-few q h = rw (shift-at mesh L (mesh_strides mesh m) q (group-pos mesh L some) h, ← shift_is q h) (omega (arith, shard-in 0 q some h))

  first-le : (d : ℕ) → d < product mesh → dot (cleared L (mesh_strides mesh m)) (coords mesh d) ≤ d * m
  first-le d h =
      let e : dot (mesh_strides mesh m) (coords mesh d) ≡ d * m = dot-strides mesh (coords mesh d) m ∙ ap (λ (n : ℕ). n * m) (number-coords mesh d h) in
      omega (arith, dot-cleared L (mesh_strides mesh m) (coords mesh d))

  pub first-few : (d : ℕ) → d < product mesh → offset (mesh_digits mesh (cleared L (mesh_strides mesh m)) []) d ≤ product mesh * m
  first-few d h =
      rw (first-at mesh (cleared L (mesh_strides mesh m)) d cleared-strides h)
      (omega (arith, first-le d h, mul-le-mul_right {m = d} {n = product mesh} m (omega arith)))

  -- the member of a device's group at a position: its first place is the device's
  member_at : ℕ → ℕ → ℕ
  member_at d q = number mesh (member mesh L q (coords mesh d))

  member-lt : (d q : ℕ) → d < product mesh → q < span mesh L → member_at d q < product mesh
  unfolding member_at
  member-lt d q hd hq = number_lt (below-member mesh L q hq (below-coords mesh d hd))

  member-first : (d q : ℕ) → d < product mesh → q < span mesh L → get_or (first_words mesh L m) (member_at d q) 0 ≡ get_or (first_words mesh L m) d 0
  unfolding member_at
  member-first d q hd hq =
      let x : List ℕ = coords mesh d in
      let strides : List ℕ = cleared L (mesh_strides mesh m) in
      let b : Below (member mesh L q x) mesh = below-member mesh L q hq (below-coords mesh d hd) in
      first_is (member_at d q) (number_lt b) ∙ ap (dot strides) (coords-number b)
      ∙ dot-member mesh L strides q x once (coords-length mesh d ∙ sym cleared-strides)
      ∙ ap₂ (λ (l : List ℕ) (n : ℕ). dot l x + n) (cleared-twice L (mesh_strides mesh m)) (none-part mesh L strides q (cleared-in L (mesh_strides mesh m)))
      ∙ add-zero _ ∙ sym (first_is d hd)

  shift-start : get_or (shift_words mesh L m) 0 0 ≡ 0
  shift-start = shift_is 0 (group-pos mesh L some) ∙ no_part mesh L (mesh_strides mesh m)

  -- the first member's shard begins at the device's first place
  first-place : (d : ℕ) → d < product mesh → get_or (first_words mesh L m) d 0 ≡ member_at d 0 * m
  unfolding member_at
  first-place d h = omega (arith, place_is d 0 h (group-pos mesh L some), shift-start)

-- two multiples of m
multiples-apart : (i j m : ℕ) → ¬ (i ≡ j) → (i * m + m ≤ j * m) ⊎ (j * m + m ≤ i * m)
multiples-apart i j m n = go (dec_lt i j)
  where
    go : Dec (i < j) → (i * m + m ≤ j * m) ⊎ (j * m + m ≤ i * m)
    go (yes l) = inl (part_in i j m (j * m) l (le_refl _))
    go (no l) = inr (part_in j i m (i * m) (omega (arith, n, l)) (le_refl _))

-- the groups are as the code asks
module _ (mesh L : List ℕ) (m : ℕ) (some : 0 < product mesh) (once : Distinct L) (of_mesh : (a : ℕ) → In a L → a < length mesh) where
  -- the shards of a group are apart
  shifts-apart : (p q : ℕ) → p < q → q < span mesh L
      → (get_or (shift_words mesh L m) p 0 + m ≤ get_or (shift_words mesh L m) q 0)
      ⊎ (get_or (shift_words mesh L m) q 0 + m ≤ get_or (shift_words mesh L m) p 0)
  unfolding member_at
  shifts-apart p q h k =
      rw (at p (omega arith), at q k)
      (multiples-apart (member_at mesh L m some once 0 p) (member_at mesh L m some once 0 q) m (λ e. omega (arith, same e)))
    where
      at : (q : ℕ) → q < span mesh L → get_or (shift_words mesh L m) q 0 ≡ member_at mesh L m some once 0 q * m
      at q k =
          let z : get_or (first_words mesh L m) 0 0 ≡ 0 =
          omega (arith, first_is mesh L m some once 0 some, first-le mesh L m some once 0 some, zero-mul m) in
          omega (arith, place_is mesh L m some once 0 q some k)

      same : member_at mesh L m some once 0 p ≡ member_at mesh L m some once 0 q → p ≡ q
      same e =
          let b : Below (coords mesh 0) mesh = below-coords mesh 0 some in
          let g : IsGroup mesh L (coords mesh 0) = group_by_position mesh L once of_mesh b in
          g.once p q (omega arith) k
          (sym (coords-number (g.of_mesh p (omega arith))) ∙ ap (coords mesh) e ∙ coords-number (g.of_mesh q k))

  -- a device is the member of its own group at its position
  own-position : (d : ℕ) → d < product mesh
      → (position mesh L (coords mesh d) < span mesh L)
      × (get_or (first_words mesh L m) d 0 + get_or (shift_words mesh L m) (position mesh L (coords mesh d)) 0 ≡ d * m)
  own-position d h =
      let b : Below (coords mesh d) mesh = below-coords mesh d h in
      let r = (group_by_position mesh L once of_mesh b).has (coords mesh d) b (λ a off. refl) in (
        r.0,
        place_is mesh L m some once d (position mesh L (coords mesh d)) h r.0 ∙ ap (λ (x : List ℕ). number mesh x * m) r.1
            ∙ ap (λ (n : ℕ). n * m) (number-coords mesh d h),
      )

  groups-are : (words : ℕ) → product mesh * m ≤ words → Groups (first_words mesh L m) (shift_words mesh L m) m words
  unfolding member_at
  groups-are words room =
      let ld = firsts-length mesh L m some once in
      let lq = shifts-length mesh L m some once in
      let zero_in : 0 < span mesh L = group-pos mesh L some in
      record {
        room = rw ld room;
        groups = λ d h.
            let hd : d < product mesh = subst (λ n. d < n) ld h in
            record {
              some = rw lq zero_in;
              first = shift-start mesh L m some once;
              apart = λ p q a k. shifts-apart p q a (subst (λ n. q < n) lq k);
              inside = λ q k. omega (arith, shard-in mesh L m some once d q hd (subst (λ n. q < n) lq k));
            };
        first = λ d h.
            let hd : d < product mesh = subst (λ n. d < n) ld h in
            let p = first-place mesh L m some once d hd in (
              member_at mesh L m some once d 0,
              omega (arith, p, first_is mesh L m some once d hd, first-le mesh L m some once d hd),
              p,
              member-first mesh L m some once d 0 hd zero_in ∙ p,
            );
        members = λ d q h k.
            let hd : d < product mesh = subst (λ n. d < n) ld h in
            let hq : q < span mesh L = subst (λ n. q < n) lq k in (
              member_at mesh L m some once d q,
              rw ld (member-lt mesh L m some once d q hd hq),
              place_is mesh L m some once d q hd hq,
              member-first mesh L m some once d q hd hq,
            );
      }

  -- all members of a group, or its first one, are some of them
  getting : (all : Bool) → Some (pick all (span mesh L) 1) (shift_words mesh L m)
  getting true = record { some = group-pos mesh L some; members = omega (arith, shifts-length mesh L m some once) }
  getting false = record { some = omega arith; members = omega (arith, shifts-length mesh L m some once, group-pos mesh L some) }

  pub groups-asked : (words : ℕ) → product mesh * m ≤ words → (all : Bool) {firsts shifts : List ℕ} {k n : ℕ} → firsts ≡ first_words mesh L m
      → shifts ≡ shift_words mesh L m → k ≡ span mesh L → n ≡ pick all k 1 → Groups firsts shifts m words × Some n shifts
  groups-asked words room all ef es ek en = rw (ef, es, en, ek) (groups-are words room, getting all)

  pub groups-leave : {W : Type 0} (addAll : List W → W) (z : W) {old new : List W} (all : Bool) {firsts shifts : List ℕ} {k n : ℕ}
      → firsts ≡ first_words mesh L m → shifts ≡ shift_words mesh L m → k ≡ span mesh L → n ≡ pick all k 1
      → Summed addAll z old firsts shifts m n (length firsts) new
      → Summed addAll z old (first_words mesh L m) (shift_words mesh L m) m (pick all (span mesh L) 1) (product mesh) new
  groups-leave addAll z all ef es ek en u = rw (ef, es, en, ek, firsts-length mesh L m some once) at u

-- what the code leaves has the sums of the rules, for elements of any type
module _ {W : Type 0} (addAll : List W → W) (z : W) (mesh shape L : List ℕ) (old : List W) (some : 0 < product mesh) (once : Distinct L) where
  word-is : (d o : ℕ) → d < product mesh → o < product shape
      → group_word addAll z old (shift_words mesh L (product shape)) (get_or (first_words mesh L (product shape)) d 0) o
      ≡ made addAll (reduce_places mesh L) (held z mesh shape old) (coords mesh d) (coords shape o)
  unfolding group_word made reduce_places members held
  word-is d o hd ho =
      let m : ℕ = product shape in
      let x : List ℕ = coords mesh d in
      let i : List ℕ = coords shape o in
      let shifts : List ℕ = shift_words mesh L m in
      let first : ℕ = get_or (first_words mesh L m) d 0 in
      let at : Place → W = word (held z mesh shape old) in
      ap addAll (ap (λ (n : ℕ). tab n (λ q. get_or old (first + get_or shifts q 0 + o) z)) (shifts-length mesh L m some once)
      ∙ tab-cong (span mesh L) _ _
      (λ q h. ap₂ (λ (a b : ℕ). get_or old (a + b) z) (place_is mesh L m some once d q hd h) (sym (number-coords shape o ho)))
      ∙ sym (ap (map at) (map-tab (λ y. record { device = y; index = i }) (span mesh L) (λ q. member mesh L q x))
      ∙ map-tab at (span mesh L) (λ q. record { device = member mesh L q x; index = i })))

  -- the words of a device, by its position
  pub summed-is : ((a : ℕ) → In a L → a < length mesh) → product mesh * product shape ≤ length old → {n : ℕ} (new : List W) → length new ≡ length old
      → Summed addAll z old (first_words mesh L (product shape)) (shift_words mesh L (product shape)) (product shape) n (product mesh) new
      → new ≡ summed_buffer addAll z mesh shape L n old
  unfolding tabulate held
  summed-is of_mesh room {n} new same u = ext_get_or z new (tab w f ++ drop w old) (same ∙ sym whole) (λ p h. go p (dec_lt p w))
    where
      m : ℕ
      m = product shape

      w : ℕ
      w = product mesh * m

      f : ℕ → W
      f p = summed addAll mesh L n (held z mesh shape old) (coords mesh (p / m)) (coords shape (p % m))

      whole : length (tab w f ++ drop w old) ≡ length old
      whole = length_front old (tab w f) w (length-tab w f ∙ sym (length-take-le w old room))

      sum : ℕ → ℕ → W
      sum d o = made addAll (reduce_places mesh L) (held z mesh shape old) (coords mesh d) (coords shape o)

      -- a device has the sum, or its own words, by its position
      at : (d o : ℕ) → d < product mesh → o < m → Dec (position mesh L (coords mesh d) < n)
          → get_or new (d * m + o) z ≡ summed addAll mesh L n (held z mesh shape old) (coords mesh d) (coords shape o)
      at d o hd ho (yes b) =
          let q : ℕ = position mesh L (coords mesh d) in
          let r = own-position mesh L m some once of_mesh d hd in
          let ld = firsts-length mesh L m some once in
          let first-lt : get_or (first_words mesh L m) d 0 < w =
          omega (arith, r.1, part_in d (product mesh) m w hd (le_refl _)) in
          ap (λ (k : ℕ). get_or new (k + o) z) (sym r.1) ∙ u.done d q o (rw ld hd) b ho first-lt ∙ word-is d o hd ho
          ∙ sym (ap (λ (t : Bool). pick t (sum d o) (held z mesh shape old (coords mesh d) (coords shape o))) (lt-ltb q n b))
      at d o hd ho (no b) =
          let q : ℕ = position mesh L (coords mesh d) in
          let r = own-position mesh L m some once of_mesh d hd in
          let ld = firsts-length mesh L m some once in
          let lq = shifts-length mesh L m some once in
          ap (λ (k : ℕ). get_or new (k + o) z) (sym r.1) ∙ u.left d q o (rw ld hd) (rw lq r.0) ho (inl (omega (arith, b)))
          ∙ ap (λ (k : ℕ). get_or old (k + o) z) r.1
          ∙ ap₂ (λ (a b : ℕ). get_or old (a * m + b) z) (sym (number-coords mesh d hd)) (sym (number-coords shape o ho))
          ∙ sym (ap (λ (t : Bool). pick t (sum d o) (held z mesh shape old (coords mesh d) (coords shape o))) (le-ltb q n (omega (arith, b))))

      go : (p : ℕ) → Dec (p < w) → get_or new p z ≡ get_or (tab w f ++ drop w old) p z
      go p (yes b) =
          let hd : p / m < product mesh = div-lt (product mesh) m b in
          let ho : p % m < m = mod-lt p (pos_of_lt (product mesh) m b) in
          ap (λ (k : ℕ). get_or new k z) (sym (div-add-mod' p m)) ∙ at (p / m) (p % m) hd ho (dec_lt (position mesh L (coords mesh (p / m))) n)
          ∙ sym (get_or-append (tab w f) (drop w old) z p (omega (arith, length-tab w f)) ∙ get_or-tab w p f z b)
      go p (no b) =
          let e : p ≡ length (tab w f) + (p - w) = omega (arith, length-tab w f) in
          let x : w + (p - w) ≡ p = omega arith in
          u.behind p (rw (firsts-length mesh L m some once) (omega (arith, b)))
          ∙ sym (ap (λ (k : ℕ). get_or (tab w f ++ drop w old) k z) e ∙ get_or-append-add (tab w f) (drop w old) (p - w) z ∙ get_or-drop w old (p - w) z
          ∙ ap (λ (k : ℕ). get_or old k z) x)

-- where all members have the sum, that is the reduction
pub reduced-all : {W : Type 0} (addAll : List W → W) (z : W) (mesh shape L : List ℕ) (old : List W)
    → summed_buffer addAll z mesh shape L (span mesh L) old ≡ reduced_buffer addAll z mesh shape L old
reduced-all {W} addAll z mesh shape L old =
    ap (λ (l : List W). l ++ drop (product mesh * product shape) old) (tabulate-same mesh shape _ _ (λ x i bx bi.
    ap (λ (t : Bool). pick t (made addAll (reduce_places mesh L) (held z mesh shape old) x i) (held z mesh shape old x i))
    (lt-ltb (position mesh L x) (span mesh L) (position-lt mesh L bx))))

-- ---- what the listing of places is asked, and what it leaves

pub mesh-offsets : {firsts strides mesh : List ℕ} → Firsts firsts strides mesh → Counts (mesh_digits mesh strides []) (length firsts) 0 most_places
mesh-offsets {firsts} {strides} {mesh} p = record {
  nested = nested-mesh mesh strides [] tt;
  whole = p.room ∙ sym (counted-mesh mesh strides [] p.has.places ∙ mul-one (product mesh));
  filled = rw p.room p.has.on.devices_pos;
  inside = λ t l. omega (arith, p.few t (subst (λ n. t < n) p.room l));
}

pub axes-offsets : {shifts strides mesh L : List ℕ} → Shifting shifts strides mesh L → Counts (axis_digits mesh L strides []) (span mesh L) 0 most_places
axes-offsets {strides} {mesh} {L} p = record {
  nested = nested-axes mesh L strides [] tt;
  whole = sym (counted-axes mesh L strides [] ∙ mul-one (span mesh L));
  filled = group-pos mesh L p.has.on.devices_pos;
  inside = λ t l. omega (arith, p.few t l);
}

pub from_zero : (n : ℕ) (digits : List ℕ) → tab n (λ t. 0 + offset digits t) ≡ tab n (offset digits)
from_zero n digits = tab-cong n _ _ (λ t l. zero-add (offset digits t))

-- ---- what the filling of both tables asks

module _ {firsts shifts strides mesh L : List ℕ} {m : ℕ} (t : Tables firsts shifts strides mesh L m) where
  pub strides-asked : HasStrides strides mesh × (product mesh * m ≤ most_room)
  strides-asked = (t.has, mul-le-mul t.has.on.devices_few t.words_few)

  pub shifts-asked : (strides' : List ℕ) → strides' ≡ mesh_strides mesh m → Shifting shifts strides' mesh L
  shifts-asked strides' e =
      let on = t.has.on in
      let g : span mesh L ≤ product mesh = group-few mesh L t.once t.of_mesh on.devices_pos in
      record {
        has = record { on = on; places = ap length e ∙ strides-length mesh m };
        of_mesh = t.of_mesh;
        room = omega (arith, on.devices_few, t.shifts_room);
        members = omega (arith, on.devices_few);
        few = λ q h. rw e (omega (arith, shift-few mesh L m on.devices_pos t.once q h, strides-asked.1));
      }

  pub firsts-asked : (strides' : List ℕ) → strides' ≡ cleared L (mesh_strides mesh m) → Firsts firsts strides' mesh
  firsts-asked strides' e =
      let on = t.has.on in
      record {
        has = record { on = on; places = ap length e ∙ cleared-strides mesh L m on.devices_pos t.once };
        room = t.firsts_room;
        few = λ d h. rw e (omega (arith, first-few mesh L m on.devices_pos t.once d h, strides-asked.1));
      }
