-- Document 02, Ask 7: what each kind of step moves between devices is its closed form (`step-charged`). A word of an all-reduce or a reduce-scatter is made
-- of those of its whole group (`group-others`). A step that only moves words gathers along some lists: of the words that a device gets, one in g is its
-- own, with g the group size along them (`near-count`). Then whole plans (`plans_charged`), rounds of blocks, and the one number of check and run.
-- Assumes nothing.
use Prim.Native.Nat.{ℕ, zero, suc, ◌+◌, ◌-◌, ◌*◌, ◌/◌, ◌%◌, ◌≤◌, ◌<◌}
use mathlib.Core.Path.{◌≡◌, refl, sym, ap, ap₂, ◌∙◌, subst}
use mathlib.Core.Logic.{◌⊎◌, inl, inr, ⊎_elim}
use mathlib.Core.Bool.{false, not, ◌||◌}
use mathlib.Core.List.{List, [], ◌∷◌, ◌++◌, map, append-nil}
use native.Mathlib.Nat.{mul-zero, mul-one, mul_comm, mul_assoc, mul-sub, add-mul, mul-div_cancel, mul-le-mul, div-le_self}
use native.Mathlib.Omega.{arith}
use lib.ListN.{length, get_or, replicate}
use lib.Seq.{ext_get_or}
use lib.Arith.{digits_lt, digits_div, digits_mod}
use lib.Dec.{T, T_not, eqb, eqb→eq, eqb_refl}
use Rattle.rules.specs.Lists.{tab, both, flat, in_turn, product, mem, keep, without, ascending, In, Distinct, Below}
use Rattle.rules.specs.Mesh.{number, coords, devices, plain_order, span, position, member, members}
use Rattle.rules.specs.Sharding.{Sharding, shard_sizes, first_indexes, IsSharding}
use Rattle.rules.specs.Spread.{from}
use Rattle.rules.specs.Collectives.{Step, all_slice, all_gather, all_reduce, all_to_all, reduce_scatter, step_axes, after, shape_after, Place, owner, slice_place, reduce_places, sources, made}
use Rattle.rules.specs.Limits.{most_axes, most_devices, most_words}
use Rattle.rules.specs.Refusals.{Judged, accept, refuse}
use Rattle.rules.specs.PlanFile.{plain, StepsRead, JudgesSteps, steps_at, item_at, Plan, judge, judge_by, announced, announced_shape}
use Rattle.rules.specs.Calls.{CheckAnswer, check_of, runnable, Ran, run_leaves, run_of}
use Rattle.rules.specs.Moved.{once_each, other_devices, moved_by, added_on, moved_from, words_moved, charge_of, charge_from, most_moved}
use Rattle.rules.specs.Ledger.{file_of}
use Rattle.laws.specs.Moved.{DividesExactly, PlansCharged, BlocksCharged, OneNumber}
use Rattle.laws.proofs.Lists.{
  length-tab,
  map-tab,
  T→true,
  n_t→false,
  T?,
  mem-in,
  in_mem,
  not-mem,
  below_length,
  distinct-split,
  in-flat,
  of-ascending,
  in-ascending,
  distinct-ascending,
  not-in-without,
  of-without,
  few-distinct,
}
use Rattle.laws.proofs.Positions.{div-lt, position-lt, span-append, length-member, member-other, position-member}
use Rattle.laws.proofs.Groups.{group_by_position, group-few, span-without}
use Rattle.laws.proofs.Buffers.{coords-number}
use Rattle.laws.proofs.Shapes.{Cut, cut, uncut, owner-other, below-owner, piece-below}
use Rattle.laws.proofs.Sizes.{cut_product, span_pos}
use Rattle.laws.proofs.Sums.{sum, sum-cong, sum-blocks}
use Rattle.laws.proofs.Judging.{never, accept-inj, bind_inv}
use Rattle.laws.proofs.Steps.{AcceptedStep, flat-empty, flat-only, shape-length, after-sharding}
use Rattle.laws.proofs.Turns.{Fine}
use Rattle.laws.proofs.Repeats.{IsRepeat, repeat-inv, positive-inv, steps-tell, item-tells}
use Rattle.laws.proofs.Accepted.{Within, AcceptedPlan, accepted}
use Rattle.laws.proofs.Room.{shard-words, state}
use Rattle.laws.proofs.Next.{step-ready, step-accepted}
use Rattle.laws.proofs.Whole.{run_fits, run_ends}
use Rattle.laws.proofs.Moves.{
  Off,
  off,
  off-left,
  off-right,
  Reshapes,
  Moving,
  gathers,
  slices,
  step-reshapes,
  fetched-made,
  gathers-distinct,
  gathers-below,
}
use Rattle.laws.proofs.Counting.{
  sum-const,
  sum-scale,
  sum-pick,
  sum_all,
  sum_all-cong,
  sum_all-const,
  sum_all-add,
  sum_all-scale,
  total-each,
  total-share,
  bit,
  bit-yes,
  bit-no,
  bit_and,
  both-eq,
  both_refl,
  tab-in,
  distinct-tab,
  others-count,
}

-- ---- one word

-- y is x itself
abbrev near : List ℕ → List ℕ → ℕ
near y x = bit (both eqb y x)

near-self : (x : List ℕ) → near x x ≡ 1
near-self x = bit-yes (both eqb x x) (both_refl x)

-- the places of distinct devices other than that of x
abbrev others : List ℕ → List ℕ → List ℕ → ℕ
others mesh x ns = length (once_each (keep (λ d. not (eqb d (number mesh x))) ns))

module _ (mesh : List ℕ) where
  same_number : {x y : List ℕ} → Below x mesh → Below y mesh → number mesh x ≡ number mesh y → x ≡ y
  same_number bx by e = sym (coords-number bx) ∙ ap (coords mesh) e ∙ coords-number by

  -- a word that is moved from y
  one-other : {x y : List ℕ} → Below x mesh → Below y mesh → others mesh x (number mesh y ∷ []) + near y x ≡ 1
  unfolding mem
  one-other {x} {y} bx by =
      let h : others mesh x (number mesh y ∷ []) + bit (eqb (number mesh x) (number mesh y) || false) ≡ 1 =
      others-count (number mesh x) (number mesh y ∷ []) ((λ b. b), tt) in
      let e : bit (eqb (number mesh x) (number mesh y) || false) ≡ near y x = go (T? (both eqb y x)) in
      omega (arith, h, e)
    where
      go : T (both eqb y x) ⊎ T (not (both eqb y x)) → bit (eqb (number mesh x) (number mesh y) || false) ≡ near y x
      go (inl t) =
          let q : y ≡ x = both-eq y x t in
          rw (q, T→true (eqb (number mesh x) (number mesh x)) (eqb_refl (number mesh x)), T→true (both eqb x x) (both_refl x))
      go (inr t) =
          let m : ¬ T (both eqb y x) = T_not (both eqb y x) t in
          rw (
            n_t→false (both eqb y x) m,
            n_t→false (eqb (number mesh x) (number mesh y))
                (λ s. m (subst (λ (z : List ℕ). T (both eqb y z)) (sym (same_number bx by (eqb→eq _ _ s))) (both_refl y))),
          )

  -- a word that is made of those of a group
  group-others : (L x i : List ℕ) → Below x mesh → Distinct L → ((a : ℕ) → In a L → a < length mesh)
      → other_devices mesh x (reduce_places mesh L x i) + 1 ≡ span mesh L
  unfolding other_devices reduce_places members
  group-others L x i bx d r =
      let g : ℕ = span mesh L in
      let f : ℕ → ℕ = λ q. number mesh (member mesh L q x) in
      let G = group_by_position mesh L d r bx in
      let k : ℕ = number mesh x in
      let ns : List ℕ = tab g f in
      let e : map (λ (p : Place). number mesh p.device) (reduce_places mesh L x i) ≡ ns =
      ap (map (λ (p : Place). number mesh p.device)) (map-tab (λ y. record { device = y; index = i }) g (λ q. member mesh L q x))
      ∙ map-tab (λ (p : Place). number mesh p.device) g (λ q. record { device = member mesh L q x; index = i }) in
      let once : Distinct ns = distinct-tab g f (λ p q lp lq h. G.once p q lp lq (same_number (G.of_mesh p lp) (G.of_mesh q lq) h)) in
      let h : others mesh x ns + bit (mem k ns) ≡ length ns = others-count k ns once in
      let own : member mesh L (position mesh L x) x ≡ x = (G.has x bx (λ a o. refl)).1 in
      let here : In k ns = subst (λ (j : ℕ). In j ns) (ap (number mesh) own) (tab-in g f (position mesh L x) (position-lt mesh L bx)) in
      rw e (omega (arith, h, bit-yes (mem k ns) (in_mem k ns here), length-tab g f))

-- ---- words that are moved: one in g is the device's own

-- s blocks of n: those of block p
pick-block : (s n p : ℕ) → p < s → sum (s * n) (λ i. bit (eqb (i / n) p)) ≡ n
pick-block s n p h =
    sum-blocks s n (λ i. bit (eqb (i / n) p))
    ∙ sum-cong s (λ k l. sum-cong n (λ r m. ap (λ (q : ℕ). bit (eqb q p)) (digits_div k m)) ∙ sum-const n (bit (eqb k p)) ∙ mul_comm n (bit (eqb k p)))
    ∙ sum-scale s n (λ k. bit (eqb k p))
    ∙ ap (λ (z : ℕ). z * n) (sum-pick s p (λ k. bit (eqb k p)) h (bit-yes (eqb p p) (eqb_refl p)) (λ q l ne. bit-no (eqb q p) (λ t. ne (eqb→eq q p t))))
    ∙ omega arith

-- Along each dimension: indexes o, o + 1, .. of k, where pieces of n each are joined along G. Each is of some piece, and one in span G of them is of x's own.
data Tiles (mesh x : List ℕ) : List (List ℕ) → List ℕ → List ℕ → List ℕ → Type 0 where
  last : Tiles mesh x [] [] [] []
  tile : {G : List ℕ} {Gs : List (List ℕ)} {n o k : ℕ} {ns os ks : List ℕ} → ((i : ℕ) → i < k → (o + i) / n < span mesh G)
      → sum k (λ i. bit (eqb ((o + i) / n) (position mesh G x))) * span mesh G ≡ k
      → Tiles mesh x Gs ns os ks → Tiles mesh x (G ∷ Gs) (n ∷ ns) (o ∷ os) (k ∷ ks)

module _ (mesh : List ℕ) where
  length-owner : (Gs : List (List ℕ)) (ns i x : List ℕ) → length (owner mesh Gs ns i x) ≡ length x
  length-owner Gs [] i x = refl
  length-owner [] (n ∷ ns) i x = refl
  length-owner (G ∷ Gs) (n ∷ ns) [] x = refl
  length-owner (G ∷ Gs) (n ∷ ns) (j ∷ i) x = length-member mesh G (j / n) (owner mesh Gs ns i x) ∙ length-owner Gs ns i x

  own-member : (G : List ℕ) (q : ℕ) (z x : List ℕ) → q < span mesh G → length z ≡ length x → ((a : ℕ) → In a G → get_or z a 0 ≡ get_or x a 0)
      → Below x mesh → ((a : ℕ) → In a G → a < length mesh) → Distinct G
      → near (member mesh G q z) x ≡ near z x * bit (eqb q (position mesh G x))
  own-member G q z x l e on bx r d =
      bit_and (both eqb z x) (eqb q (position mesh G x)) (both eqb (member mesh G q z) x)
      (λ t. let h : member mesh G q z ≡ x = both-eq (member mesh G q z) x t in (
        subst (λ (y : List ℕ). T (both eqb y x)) (sym (ext_get_or 0 z x e (λ a m. ⊎_elim (λ i. on a (mem-in a G i))
            (λ i. sym (member-other mesh G q z a (not-mem a G i)) ∙ ap (λ (y : List ℕ). get_or y a 0) h) (T? (mem a G))))) (both_refl x),
        subst (λ (p : ℕ). T (eqb q p)) (sym (position-member mesh G q z d (λ a i. rw (e, below_length bx) (r a i)) l) ∙ ap (position mesh G) h) (eqb_refl q),
      ))
      (λ t u. subst (λ (y : List ℕ). T (both eqb y x)) (sym (ap₂ (λ (p : ℕ) (y : List ℕ). member mesh G p y) (eqb→eq q (position mesh G x) u) (both-eq z x t)
      ∙ ((group_by_position mesh G d r bx).has x bx (λ a o. refl)).1)) (both_refl x))

  near-count : (x : List ℕ) {Gs : List (List ℕ)} {ns os ks : List ℕ} → Tiles mesh x Gs ns os ks → Distinct (flat Gs)
      → ((a : ℕ) → In a (flat Gs) → a < length mesh) → Below x mesh
      → sum_all ks (λ i. near (owner mesh Gs ns (from os i) x) x) * span mesh (flat Gs) ≡ product ks
  near-count x last d r bx = ap (λ (z : ℕ). z * 1) (near-self x)
  near-count x (tile {G} {Gs} {n} {o} {k} {ns} {os} {ks} b c t) d r bx =
      let s = distinct-split G (flat Gs) d in
      let N : ℕ = sum_all ks (λ is. near (owner mesh Gs ns (from os is) x) x) in
      let A : ℕ = sum k (λ i. bit (eqb ((o + i) / n) (position mesh G x))) in
      let ih : N * span mesh (flat Gs) ≡ product ks = near-count x t s.1 (λ a u. r a (in-flat a G Gs (inr u))) bx in
      let e : sum k (λ i. sum_all ks (λ is. near (member mesh G ((o + i) / n) (owner mesh Gs ns (from os is) x)) x)) ≡ A * N =
      sum-cong k (λ i l. sum_all-cong ks _ (λ is. near (owner mesh Gs ns (from os is) x) x * bit (eqb ((o + i) / n) (position mesh G x)))
      (λ is m. own-member G ((o + i) / n) (owner mesh Gs ns (from os is) x) x (b i l) (length-owner Gs ns (from os is) x)
      (λ a j. owner-other mesh Gs ns (from os is) x a (λ u. s.2 a j u)) bx (λ a j. r a (in-flat a G Gs (inl j))) s.0)
      ∙ sum_all-scale ks (bit (eqb ((o + i) / n) (position mesh G x))) (λ is. near (owner mesh Gs ns (from os is) x) x) ∙ mul_comm N _)
      ∙ sum-scale k N (λ i. bit (eqb ((o + i) / n) (position mesh G x))) in
      ap (λ (z : ℕ). z * span mesh (G ++ flat Gs)) e ∙ ap (λ (z : ℕ). A * N * z) (span-append mesh G (flat Gs))
      ∙ regroup A N (span mesh G) (span mesh (flat Gs)) ∙ ap₂ ◌*◌ c ih
    where
      regroup : (a b c d : ℕ) → a * b * (c * d) ≡ a * c * (b * d)
      regroup a b c d = omega arith

  -- an index below n * s is of one of s blocks
  block-lt : (n s : ℕ) {i k : ℕ} → k ≡ n * s → i < k → i / n < s
  block-lt n s {i} e l = div-lt s n (subst (λ (z : ℕ). i < z) (e ∙ mul_comm n s) l)

  tiles : {Gs Ss : List (List ℕ)} {wholes pieces news : List ℕ} (x : List ℕ) → Below x mesh → Off Gs Ss → Cut mesh Gs wholes pieces
      → Cut mesh Ss wholes news → Tiles mesh x Gs pieces (first_indexes mesh Ss news x) news
  tiles x bx off uncut uncut = last
  tiles x bx (off-left o) (cut {piece = n} e c) (cut {S} {piece = k} f d) =
      let w : (i : ℕ) → i < k → (position mesh S x * k + i) / n < 1 = λ i l.
      block-lt n 1 refl (subst (λ (z : ℕ). position mesh S x * k + i < z) (mul_comm (span mesh S) k ∙ sym f ∙ e) (digits_lt (position-lt mesh S bx) l)) in
      let all : sum k (λ i. bit (eqb ((position mesh S x * k + i) / n) 0)) ≡ k * 1 =
      sum-cong k {f = λ i. bit (eqb ((position mesh S x * k + i) / n) 0)} {g = λ i. 1} (λ i l.
      let h : (position mesh S x * k + i) / n < 1 = w i l in
      let z : (position mesh S x * k + i) / n ≡ 0 = omega arith in rw z) ∙ sum-const k 1 in
      tile {G = []} w (ap (λ (z : ℕ). z * 1) all ∙ omega arith) (tiles x bx o c d)
  tiles x bx (off-right {G} o) (cut {piece = n} e c) (cut {piece = k} f d) =
      let q : (i : ℕ) → 0 * k + i ≡ i = λ i. omega arith in
      let s : ℕ = span mesh G in
      let h : k ≡ n * s = sym (mul-one k) ∙ sym f ∙ e in
      let b : (i : ℕ) → i < k → (0 * k + i) / n < s = λ i l. rw (q i) (block-lt n s h l) in
      tile {G = G} b
      (ap (λ (z : ℕ). z * s) (sum-cong k (λ i l. ap (λ (j : ℕ). bit (eqb (j / n) (position mesh G x))) (q i))
      ∙ ap (λ (j : ℕ). sum j (λ i. bit (eqb (i / n) (position mesh G x)))) (h ∙ mul_comm n s) ∙ pick-block s n (position mesh G x) (position-lt mesh G bx)) ∙ sym h)
      (tiles x bx o c d)

  -- the words of x that come from other devices, g times, with its own once more
  far-count : {Gs Ss : List (List ℕ)} {shape new : List ℕ} (x : List ℕ) (far : List ℕ → ℕ) → Below x mesh → Reshapes mesh Gs Ss shape new
      → Distinct (flat Gs) → ((a : ℕ) → In a (flat Gs) → a < length mesh)
      → ((i : List ℕ) → Below i new → far i + near (owner mesh Gs shape (from (first_indexes mesh Ss new x) i) x) x ≡ 1)
      → sum_all new far * span mesh (flat Gs) + product new ≡ product new * span mesh (flat Gs)
  far-count {Gs} {Ss} {shape} {new} x far bx c once r h =
      let own : List ℕ → ℕ = λ i. near (owner mesh Gs shape (from (first_indexes mesh Ss new x) i) x) x in
      let g : ℕ = span mesh (flat Gs) in
      let e : sum_all new far + sum_all new own ≡ product new =
      sym (sum_all-add new far own) ∙ sum_all-cong new (λ i. far i + own i) (λ i. 1) h ∙ sum_all-const new 1 ∙ mul-one (product new) in
      let n : sum_all new own * g ≡ product new = near-count x (tiles x bx c.apart c.joins c.parts) once r bx in
      sym (ap (λ (z : ℕ). z * g) (sym e) ∙ add-mul (sum_all new far) (sum_all new own) g ∙ ap (λ (z : ℕ). sum_all new far * g + z) n)

-- ---- numbers

cancel : (a b g : ℕ) → 0 < g → a * g ≡ b * g → a ≡ b
cancel a b g p e = sym (mul-div_cancel a p) ∙ ap (λ (z : ℕ). z / g) e ∙ mul-div_cancel b p

less-own : (n a g : ℕ) → n * g + a ≡ a * g → n * g ≡ a * (g - 1)
less-own n a g e = omega (arith, e, mul-sub a g 1 ∙ ap (λ (z : ℕ). a * g - z) (mul-one a))

exactly : (n a g : ℕ) → 0 < g → n * g ≡ a → (n ≡ a / g) × (a % g ≡ 0)
exactly n a g p e =
    let w : a ≡ n * g + 0 = omega arith in
    (sym (mul-div_cancel n p) ∙ ap (λ (z : ℕ). z / g) e, ap (λ (z : ℕ). z % g) w ∙ digits_mod n p)

-- ---- the steps

flat-singles : {A : Type 0} (f : A → ℕ) (l : List A) → flat (map (λ a. f a ∷ []) l) ≡ map f l
flat-singles f [] = refl
flat-singles f (a ∷ l) = ap (λ (m : List ℕ). f a ∷ m) (flat-singles f l)

-- two lists of the same axes have groups of one size
span-ascending : (mesh L : List ℕ) → Distinct L → ((a : ℕ) → In a L → a < length mesh) → span mesh (ascending (length mesh) L) ≡ span mesh L
span-ascending mesh L d r =
    let A : List ℕ = ascending (length mesh) L in
    let none : without L A ≡ [] = nothing (without L A) (λ a i. not-in-without a A L (in-ascending (length mesh) L a (r a (of-without a A L i)) (of-without a A L i)) i) in
    let e : span mesh (without L A) * span mesh A ≡ span mesh L =
    span-without mesh A L (of-ascending (length mesh) L) (distinct-ascending (length mesh) L) d in
    let one : 1 * span mesh A ≡ span mesh L = subst (λ (l : List ℕ). span mesh l * span mesh A ≡ span mesh L) none e in
    omega arith
  where
    nothing : (l : List ℕ) → ((a : ℕ) → In a l → ⊥) → l ≡ []
    nothing [] h = refl
    nothing (b ∷ l) h = absurd (h b (inl refl))

module _ (mesh sizes : List ℕ) (pos : (a : ℕ) → zero < get_or mesh a 1) where
  abbrev shape_of : Sharding → List ℕ
  shape_of s = shard_sizes mesh sizes s.dims

  abbrev rank_of : Sharding → ℕ
  rank_of s = length (shape_of s)

  -- the device that a word is moved from, where the step only moves words
  moved-from : (t : Step) (s : Sharding) (x i : List ℕ) → Moving t → IsSharding mesh sizes s → AcceptedStep mesh sizes t s → Below x mesh
      → Below i (shape_after mesh t (shape_of s))
      → map (λ (p : Place). number mesh p.device) (sources mesh t (shape_of s) x i)
      ≡ number mesh (owner mesh (gathers t (rank_of s)) (shape_of s) (from (first_indexes mesh (slices t (rank_of s)) (shape_after mesh t (shape_of s)) x) i) x) ∷ []
  unfolding made
  moved-from t s x i m h f bx bi =
      sym (flat-singles (λ (p : Place). number mesh p.device) (sources mesh t (shape_of s) x i))
      ∙ sym (fetched-made mesh sizes pos {W = List ℕ} flat append-nil t s (λ y j. number mesh y ∷ []) x i m h f bx bi)

  -- of what a step that only moves words leaves, one word in g is a device's own, with g the group size along the lists that it gathers
  moving-count : (t : Step) (s : Sharding) → Moving t → IsSharding mesh sizes s → AcceptedStep mesh sizes t s
      → moved_by mesh t (shape_of s) * span mesh (flat (gathers t (rank_of s)))
      ≡ devices mesh * product (shape_after mesh t (shape_of s)) * (span mesh (flat (gathers t (rank_of s))) - 1)
  unfolding moved_by other_devices
  moving-count t s m h f =
      let new : List ℕ = shape_after mesh t (shape_of s) in
      let g : ℕ = span mesh (flat (gathers t (rank_of s))) in
      let far : List ℕ → List ℕ → ℕ = λ x i. other_devices mesh x (sources mesh t (shape_of s) x i) in
      let r : Reshapes mesh (gathers t (rank_of s)) (slices t (rank_of s)) (shape_of s) new = step-reshapes mesh sizes pos t s m h f in
      less-own (moved_by mesh t (shape_of s)) (devices mesh * product new) g
      (total-share mesh new far g (λ x bx. far-count mesh x (far x) bx r (gathers-distinct mesh sizes pos t s h f) (gathers-below mesh sizes pos t s f)
      (λ i bi. rw (moved-from t s x i m h f bx bi) (one-other mesh bx (below-owner mesh r.joins (piece-below mesh r.parts bx bi) bx)))))

  -- a step whose every word is made of those of its device's group
  summing-count : (t : Step) (shape L : List ℕ)
      → ((x i : List ℕ) → Below x mesh → Below i (shape_after mesh t shape) → other_devices mesh x (sources mesh t shape x i) + 1 ≡ span mesh L)
      → moved_by mesh t shape ≡ devices mesh * product (shape_after mesh t shape) * (span mesh L - 1)
  unfolding moved_by
  summing-count t shape L h =
      let new : List ℕ = shape_after mesh t shape in
      let c : ℕ = span mesh L - 1 in
      total-each mesh new (λ x i. other_devices mesh x (sources mesh t shape x i)) (product new * c) (λ x bx.
      sum_all-cong new (λ i. other_devices mesh x (sources mesh t shape x i)) (λ i. c) (λ i bi. omega (arith, h x i bx bi)) ∙ sum_all-const new c)
      ∙ sym (mul_assoc (devices mesh) (product new) c)

  reduce-word : (L shape x i : List ℕ) → Below x mesh → Distinct L → ((a : ℕ) → In a L → a < length mesh)
      → other_devices mesh x (sources mesh (all_reduce L) shape x i) + 1 ≡ span mesh L
  unfolding sources
  reduce-word L shape x i bx d r = group-others mesh L x i bx d r

  scatter-word : (Ss : List (List ℕ)) (shape x i : List ℕ) → Below x mesh → Distinct (flat Ss) → ((a : ℕ) → In a (flat Ss) → a < length mesh)
      → other_devices mesh x (sources mesh (reduce_scatter Ss) shape x i) + 1 ≡ span mesh (flat Ss)
  unfolding sources slice_place
  scatter-word Ss shape x i bx d r =
      let n : ℕ = length mesh in
      group-others mesh (ascending n (flat Ss)) x (slice_place mesh Ss shape x i).index bx (distinct-ascending n (flat Ss))
      (λ a j. r a (of-ascending n (flat Ss) a j))
      ∙ span-ascending mesh (flat Ss) d r

  -- THE CLOSED FORMS
  closed-form : (t : Step) (s : Sharding) → IsSharding mesh sizes s → AcceptedStep mesh sizes t s
      → (moved_by mesh t (shape_of s) ≡ charge_of mesh t (shape_of s)) × DividesExactly mesh t (shape_of s)
  unfolding charge_of
  closed-form (all_slice Ss) s h f =
      let n : ℕ = moved_by mesh (all_slice Ss) (shape_of s) in
      let a : ℕ = devices mesh * product (shard_sizes mesh (shape_of s) Ss) in
      let e : n * 1 ≡ a * 0 = subst (λ (l : List ℕ). n * span mesh l ≡ a * (span mesh l - 1)) (flat-empty (rank_of s)) (moving-count (all_slice Ss) s tt h f) in
      (omega (arith, e, mul-zero a), tt)
  closed-form (all_gather Gs) s h f =
      let t : Step = all_gather Gs in
      let m : ℕ = product (shape_of s) in
      let g : ℕ = span mesh (flat Gs) in
      let k : product (shape_after mesh t (shape_of s)) ≡ m * g = cut_product mesh (step-reshapes mesh sizes pos t s tt h f).joins in
      let e : moved_by mesh t (shape_of s) * g ≡ devices mesh * m * (g - 1) * g =
      moving-count t s tt h f ∙ ap (λ (z : ℕ). devices mesh * z * (g - 1)) k ∙ regroup (devices mesh) m g (g - 1) in
      (cancel (moved_by mesh t (shape_of s)) (devices mesh * m * (g - 1)) g (span_pos mesh pos (flat Gs)) e, tt)
    where
      regroup : (d m g h : ℕ) → d * (m * g) * h ≡ d * m * h * g
      regroup d m g h = omega arith
  closed-form (all_reduce L) s h f =
      (summing-count (all_reduce L) (shape_of s) L (λ x i bx bi. reduce-word L (shape_of s) x i bx f.by_kind.once f.axes), tt)
  closed-form (all_to_all source target L) s h f =
      let t : Step = all_to_all source target L in
      let r : ℕ = rank_of s in
      let m : ℕ = product (shape_of s) in
      let g : ℕ = span mesh L in
      let n : r ≡ length s.dims = shape-length mesh sizes pos s h in
      let fG : flat (gathers t r) ≡ L = flat-only r source L (omega (arith, n, f.by_kind.source-lt)) in
      let fS : flat (slices t r) ≡ L = flat-only r target L (omega (arith, n, f.by_kind.target-lt)) in
      let c : Reshapes mesh (gathers t r) (slices t r) (shape_of s) (shape_after mesh t (shape_of s)) = step-reshapes mesh sizes pos t s tt h f in
      let k : product (shape_after mesh t (shape_of s)) ≡ m =
      cancel (product (shape_after mesh t (shape_of s))) m g (span_pos mesh pos L)
      (ap (λ (l : List ℕ). product (shape_after mesh t (shape_of s)) * span mesh l) (sym fS) ∙ sym (cut_product mesh c.parts) ∙ cut_product mesh c.joins
      ∙ ap (λ (l : List ℕ). m * span mesh l) fG) in
      exactly (moved_by mesh t (shape_of s)) (devices mesh * m * (g - 1)) g (span_pos mesh pos L)
      (subst (λ (l : List ℕ). moved_by mesh t (shape_of s) * span mesh l ≡ devices mesh * product (shape_after mesh t (shape_of s)) * (span mesh l - 1)) fG (moving-count t s tt h f)
      ∙ ap (λ (z : ℕ). devices mesh * z * (g - 1)) k)
  closed-form (reduce_scatter Ss) s h f =
      let t : Step = reduce_scatter Ss in
      let g : ℕ = span mesh (flat Ss) in
      let q : ℕ = product (shard_sizes mesh (shape_of s) Ss) in
      let k : product (shape_of s) ≡ q * g = cut_product mesh (step-ready mesh sizes pos t s h f) in
      let e : moved_by mesh t (shape_of s) ≡ devices mesh * q * (g - 1) =
      summing-count t (shape_of s) (flat Ss) (λ x i bx bi. scatter-word Ss (shape_of s) x i bx f.by_kind.once f.axes) in
      exactly (moved_by mesh t (shape_of s)) (devices mesh * product (shape_of s) * (g - 1)) g (span_pos mesh pos (flat Ss))
      (ap (λ (z : ℕ). z * g) e ∙ regroup (devices mesh) q g (g - 1) ∙ ap (λ (z : ℕ). devices mesh * z * (g - 1)) (sym k))
    where
      regroup : (d q g h : ℕ) → d * q * h * g ≡ d * (q * g) * h
      regroup d q g h = omega arith

  -- an accepted step names no axis twice
  axes-once : (t : Step) (s : Sharding) → IsSharding mesh sizes s → AcceptedStep mesh sizes t s → Distinct (step_axes t)
  axes-once (all_slice Ss) s h f = f.by_kind.once
  axes-once (all_gather Gs) s h f = gathers-distinct mesh sizes pos (all_gather Gs) s h f
  axes-once (all_reduce L) s h f = f.by_kind.once
  axes-once (all_to_all source target L) s h f =
      subst Distinct (flat-only (rank_of s) source L (omega (arith, shape-length mesh sizes pos s h, f.by_kind.source-lt)))
      (gathers-distinct mesh sizes pos (all_to_all source target L) s h f)
  axes-once (reduce_scatter Ss) s h f = f.by_kind.once

-- no closed form is more than D·m·(g-1)
charge-le : (mesh : List ℕ) (t : Step) (shape : List ℕ) → charge_of mesh t shape ≤ devices mesh * product shape * (span mesh (step_axes t) - 1)
unfolding charge_of
charge-le mesh (all_slice Ss) shape = omega arith
charge-le mesh (all_gather Gs) shape = omega arith
charge-le mesh (all_reduce L) shape = omega arith
charge-le mesh (all_to_all source target L) shape = div-le_self _ _
charge-le mesh (reduce_scatter Ss) shape = div-le_self _ _

-- What an accepted step moves: its closed form, in numbers within their limits.
pub record Charged (mesh sizes : List ℕ) (t : Step) (s : Sharding) : Type 0 where
  pub closed : moved_from mesh sizes t s ≡ charge_from mesh sizes t s
  pub exact : DividesExactly mesh t (shard_sizes mesh sizes s.dims)
  pub axes_few : length (step_axes t) ≤ most_axes
  pub group_some : 0 < span mesh (step_axes t)
  pub group_most : span mesh (step_axes t) ≤ most_devices
  pub words_most : devices mesh * product (shard_sizes mesh sizes s.dims) ≤ most_devices * most_words
  pub most : moved_from mesh sizes t s ≤ most_moved

module _ (mesh sizes : List ℕ) (w : Within mesh sizes) where
  pub step-charged : (t : Step) (s : Sharding) → IsSharding mesh sizes s → AcceptedStep mesh sizes t s → Charged mesh sizes t s
  step-charged t s h f =
      let shape : List ℕ = shard_sizes mesh sizes s.dims in
      let g : ℕ = span mesh (step_axes t) in
      let c = closed-form mesh sizes w.sizes_pos t s h f in
      let once : Distinct (step_axes t) = axes-once mesh sizes w.sizes_pos t s h f in
      let few : g ≤ devices mesh = group-few mesh (step_axes t) once f.axes w.devices_pos in
      let words : devices mesh * product shape ≤ most_devices * most_words = mul-le-mul w.devices_few (shard-words mesh sizes w s h).words_few in
      let group : g - 1 ≤ 1023 = omega (arith, few, w.devices_few) in
      let most : devices mesh * product shape * (g - 1) ≤ most_devices * most_words * 1023 = mul-le-mul words group in
      record {
        closed = c.0;
        exact = c.1;
        axes_few = omega (arith, few-distinct (length mesh) (step_axes t) once f.axes, w.axes_few);
        group_some = span_pos mesh w.sizes_pos (step_axes t);
        group_most = omega (arith, few, w.devices_few);
        words_most = words;
        most = omega (arith, c.0, charge-le mesh t shape, most);
      }

  -- ---- steps in turn

  pub added-charged : (s : Sharding) (ts : List Step) → IsSharding mesh sizes s → Fine mesh sizes s ts
      → (added_on (moved_from mesh sizes) s ts ≡ added_on (charge_from mesh sizes) s ts) × (added_on (moved_from mesh sizes) s ts ≤ length ts * most_moved)
  added-charged s [] h f = (refl, omega arith)
  added-charged s (t ∷ ts) h f =
      let c : Charged mesh sizes t s = step-charged t s h f.0 in
      let r = added-charged (after t s) ts (after-sharding mesh sizes w.sizes_pos t s h f.0) f.1 in
      (ap₂ ◌+◌ c.closed r.0, omega (arith, c.most, r.1))

module _ (f : Step → Sharding → ℕ) where
  pub added-append : (l m : List Step) (s : Sharding) → added_on f s (l ++ m) ≡ added_on f s l + added_on f (in_turn after l s) m
  added-append [] m s = omega arith
  added-append (t ∷ l) m s = omega (arith, added-append l m (after t s))

  -- steps that lead back add as much each time
  pub added-times : (n : ℕ) (l : List Step) (s : Sharding) → in_turn after l s ≡ s → added_on f s (flat (replicate n l)) ≡ n * added_on f s l
  added-times zero l s e = omega arith
  added-times (suc n) l s e =
      added-append l (flat (replicate n l)) s ∙ ap (λ (z : Sharding). added_on f s l + added_on f z (flat (replicate n l))) e
      ∙ omega (arith, added-times n l s e)

-- ---- whole plans, rounds, and the run

pub plans_charged : PlansCharged
unfolding words_moved announced_shape announced
plans_charged file p e =
    let a : AcceptedPlan p = accepted file p e in
    let r = added-charged p.mesh p.sizes a.within p.start p.steps a.start_is a.fine in
    record {
      each_step = λ k t rest d.
          let c : Charged p.mesh p.sizes t (announced p k) =
          step-charged p.mesh p.sizes a.within t (announced p k) (state a k).sharding
          (step-accepted p.mesh p.sizes k t p.steps rest p.start d a.fine) in
          record { closed = c.closed; exact = c.exact; most = c.most };
      added = r.0;
      most = r.1;
    }

pub blocks_charged : BlocksCharged
blocks_charged known mesh sizes file depth k at s w block e b =
    let inner : JudgesSteps = steps_at (item_at known mesh sizes file depth) in
    let r : IsRepeat mesh sizes file inner k at s w = repeat-inv mesh sizes file inner k at s w e in
    let count : get_or file at 0 ≡ r.count = (positive-inv mesh sizes file k at r.count r.count_is).2 in
    let number : get_or file (at + 1) 0 ≡ r.number = (positive-inv mesh sizes file k (at + 1) r.number r.number_is).2 in
    let same : r.block ≡ block = accept-inj (sym r.block_is ∙ ap (λ (n : ℕ). inner n (k + 1) (at + 2) s) (sym number) ∙ b) in
    let back : in_turn after r.block.steps s ≡ s =
    (steps-tell mesh sizes file (item_at known mesh sizes file depth) (item-tells mesh sizes file known depth) r.number (k + 1) (at + 2) s r.block r.block_is).ends
    ∙ r.back in
    ap (λ (z : StepsRead). added_on (moved_from mesh sizes) s z.steps) (sym r.whole)
    ∙ added-times (moved_from mesh sizes) r.count r.block.steps s back
    ∙ ap₂ (λ (n : ℕ) (z : StepsRead). n * added_on (moved_from mesh sizes) s z.steps) (sym count) same

pub one_number : OneNumber
unfolding check_of run_of
one_number = record {
  finished = λ file work spare c e o.
      let j = bind_inv (judge file) _ c e in
      ap (λ (r : Ran). r.moved) (run_fits file j.0 j.1 work spare ((run_ends file j.0 j.1 work spare).0 o))
      ∙ ap (λ (x : CheckAnswer). x.moved) (accept-inj j.2);
  refused = λ file work spare n k e. none (runnable file work spare) work spare n k e;
}
  where
    none : (j : Judged Plan) (work spare : List ℕ) (n k : ℕ) → (run_leaves j work spare).outcome ≡ refuse n k → (run_leaves j work spare).moved ≡ 0
    none (accept p) work spare n k e = absurd (never (sym e))
    none (refuse m l) work spare n k e = refl

-- the bound of a step is reached, and is past 2 ^ 32
abbrev widest : List ℕ
widest = file_of (1024 ∷ []) (256 ∷ 256 ∷ []) ([] ∷ [] ∷ [] ∷ []) ((3 ∷ 1 ∷ 0 ∷ []) ∷ [])

moved-reached : (p : Plan) × (judge widest ≡ accept p) × (words_moved p ≡ 68_652_367_872)
unfolding file_of judge_by charge_of
moved-reached =
    let p : Plan = record {
      mesh = 1024 ∷ [];
      order = plain_order 1024;
      sizes = 256 ∷ 256 ∷ [];
      start = record { dims = [] ∷ [] ∷ []; unreduced = []; replicated = [] };
      records = plain (all_reduce (0 ∷ [])) ∷ [];
      steps = all_reduce (0 ∷ []) ∷ [];
      runs = 1 ∷ [];
    } in
    let e : judge widest ≡ accept p = refl in
    (p, e, (plans_charged widest p e).added ∙ refl)
