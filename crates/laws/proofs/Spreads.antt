-- Faithful spreads. An all-slice, an all-gather and an all-to-all keep them for every element type (`slice-faithful`, `gather-faithful`,
-- `all-to-all-faithful`), an all-reduce makes one of the table times a number (`reduce-scaled`; of unreduced axes, of the table itself: `reduce-faithful`),
-- a reduce-scatter keeps them for words (`scatter-faithful`), and every table of words has one, whatever the sharding (`spread-exists`). Assumes nothing.
use Prim.Native.Nat.{ℕ, ◌*◌, ◌%◌, ◌^◌, ◌<◌}
use mathlib.Core.Path.{◌≡◌, refl, sym, ap, ap₂, ◌∙◌, subst}
use mathlib.Core.Logic.{inl, inr, ⊎_map, ⊎_elim}
use mathlib.Core.Bool.{Bool, true, false}
use mathlib.Core.List.{List, [], ◌∷◌, ◌++◌, map}
use native.Mathlib.Nat.{mod-eq_of_lt, one-mul}
use native.Mathlib.Omega.{arith}
use lib.ListN.{length}
use lib.Dec.{eqb, eqb_refl, eqb→eq, lit<}
use Rattle.rules.specs.Lists.{each, pick, flat, without, ascending, In, Distinct, Below}
use Rattle.rules.specs.Mesh.{span, position, member, members, Agree}
use Rattle.rules.specs.Sharding.{Sharding, varying, shard_sizes, first_indexes}
use Rattle.rules.specs.Spread.{StateOf, Faithful, add_words, from}
use Rattle.rules.specs.Factor.{scaled}
use Rattle.rules.specs.Collectives.{
  sliced,
  cut_tail,
  gathered,
  reduced,
  grown,
  owner,
  within,
  slice_place,
  gather_place,
  reduce_places,
  single,
  sources,
  made,
  all_reduce,
  all_to_all,
  reduce_scatter,
  only,
  after,
  shape_after,
}
use Rattle.laws.proofs.Lists.{
  tab-cong,
  length-each,
  in_left,
  in_right,
  in-append,
  joined-left,
  joined-right,
  of-joined,
  T→true,
  n_t→false,
  distinct-split,
  Apart,
  split-joined,
  in_without,
  of-without,
  not-in-without,
  without_all,
  without-alike,
  distinct_without,
  of-ascending,
  distinct-ascending,
  without-ascending,
  below_length,
}
use Rattle.laws.proofs.Positions.{position-agree, position-lt, below-member, agree-member, member-other, position-member}
use Rattle.laws.proofs.Shapes.{
  Cut,
  cut-lengths,
  first-agree,
  piece-below,
  first-joined,
  below-owner,
  below-within,
  agree-owner,
  first-owner,
  owner-member,
}
use Rattle.laws.proofs.Factor.{mul-mod}
use Rattle.laws.proofs.Sources.{Ready, WordsIn, in-only, made-single, made_then, made-reduce, step_words}
use Rattle.laws.proofs.Sums.{
  sum_over,
  sum_one,
  sum_over-without,
  sum_over-positions,
  sum_over-mod,
  sum_over-group,
  sum_over-const,
  sum_over-scale,
  members-tab,
  members-cong,
  total-members,
  add_words-mod,
  add_words-members,
}

-- ---- every element type

module _ {W : Type 0} {addAll : List W → W} where
  -- a state with the same words is as faithful
  pub faithful-cong : {mesh : List ℕ} {s : Sharding} {shape : List ℕ} {table : List ℕ → W} {v w : StateOf W}
      → ((x i : List ℕ) → Below x mesh → Below i shape → v x i ≡ w x i) → Faithful addAll mesh s shape table v → Faithful addAll mesh s shape table w
  faithful-cong {mesh} {s} {v} {w} h F = record {
    same = λ x y i bx by bi g. sym (h x i bx bi) ∙ F.same x y i bx by bi g ∙ h y i by bi;
    sums = λ x i bx bi. ap addAll (members-cong (λ y. w y i) (λ y. v y i) mesh s.unreduced x bx (λ y by g. sym (h y i by bi))) ∙ F.sums x i bx bi;
  }

  module _ (one : (a : W) → addAll (a ∷ []) ≡ a) where
    pub slice-faithful : {mesh : List ℕ} {s : Sharding} {shape : List ℕ} {table : List ℕ → W} {w : StateOf W} (Ss : List (List ℕ))
        → length s.dims ≡ length Ss → Cut mesh Ss shape (shard_sizes mesh shape Ss) → ((a : ℕ) → In a (flat Ss) → ¬ In a s.unreduced)
        → Faithful addAll mesh s shape table w
        → Faithful addAll mesh (sliced Ss s) (shard_sizes mesh shape Ss) table (made addAll (single (slice_place mesh Ss shape)) w)
    unfolding sliced slice_place
    slice-faithful {mesh} {s} {shape} {table} {w} Ss len c off F =
        let new : List ℕ = shard_sizes mesh shape Ss in
        let dims : List (List ℕ) = s.dims in
        let U : List ℕ = s.unreduced in
        let joined : List ℕ = flat (each ◌++◌ dims Ss) in
        let first : List ℕ → List ℕ = λ x. first_indexes mesh Ss new x in
        faithful-cong {v = λ x i. w x (from (first x) i)} (λ x i bx bi. sym (made-single addAll one (slice_place mesh Ss shape) w x i))
        (record {
          same = λ x y i bx by bi g.
              ap (λ (l : List ℕ). w x (from l i)) (first-agree mesh Ss new x y (λ a u. g a (in_left a joined U (joined-right a dims Ss len u))))
              ∙ F.same x y (from (first y) i) bx by (piece-below mesh c by bi)
              (λ a u. g a (⊎_elim (λ d. in_left a joined U (joined-left a dims Ss len d)) (in_right a joined U) (in-append a (flat dims) U u)));
          sums = λ x i bx bi.
              ap addAll (members-cong (λ y. w y (from (first y) i)) (λ y. w y (from (first x) i)) mesh U x bx
              (λ y by g. ap (λ (l : List ℕ). w y (from l i)) (first-agree mesh Ss new y x (λ a u. sym (g a (off a u))))))
              ∙ F.sums x (from (first x) i) bx (piece-below mesh c bx bi)
              ∙ ap table (first-joined mesh dims x i c);
        })

    -- The lists are the tails of the dimensions' own: joined to what is left, they are these again.
    pub gather-faithful : {mesh : List ℕ} {s : Sharding} {shape : List ℕ} {table : List ℕ → W} {w : StateOf W} (Gs : List (List ℕ))
        → length s.dims ≡ length Gs → each ◌++◌ (each cut_tail s.dims Gs) Gs ≡ s.dims → Cut mesh Gs (grown mesh Gs shape) shape
        → Distinct (varying s) → ((a : ℕ) → In a (varying s) → a < length mesh)
        → Faithful addAll mesh s shape table w
        → Faithful addAll mesh (gathered Gs s) (grown mesh Gs shape) table (made addAll (single (gather_place mesh Gs shape)) w)
    unfolding gathered gather_place
    gather-faithful {mesh} {s} {shape} {table} {w} Gs len tails c once of_mesh F =
        let dims : List (List ℕ) = s.dims in
        let U : List ℕ = s.unreduced in
        let left : List (List ℕ) = each cut_tail dims Gs in
        let same_length : length left ≡ length Gs = length-each cut_tail dims Gs len in
        let parts : Distinct (flat dims) × Distinct U × ((a : ℕ) → In a (flat dims) → ¬ In a U) = distinct-split (flat dims) U once in
        let apart : Apart left Gs = split-joined left Gs same_length (subst (λ l. Distinct (flat l)) (sym tails) parts.0) in
        let of_dims : (a : ℕ) → In a (flat Gs) → In a (flat dims) = λ a u. subst (λ l. In a (flat l)) tails (joined-right a left Gs same_length u) in
        faithful-cong {v = λ x i. w (owner mesh Gs shape i x) (within shape i)}
        (λ x i bx bi. sym (made-single addAll one (gather_place mesh Gs shape) w x i))
        (record {
          same = λ x y i bx by bi g.
              F.same (owner mesh Gs shape i x) (owner mesh Gs shape i y) (within shape i)
              (below-owner mesh c bi bx) (below-owner mesh c bi by) (below-within mesh c bi)
              (λ a u. agree-owner mesh a c bi bx by
              (⊎_elim (λ d. ⊎_elim (λ k. inr (g a (in_left a (flat left) U k))) (λ k. inl k)
              (of-joined a left Gs (subst (λ l. In a (flat l)) (sym tails) d)))
              (λ k. inr (g a (in_right a (flat left) U k))) (in-append a (flat dims) U u)));
          sums = λ x i bx bi.
              let z : List ℕ = owner mesh Gs shape i x in
              ap addAll (members-tab (λ y. w (owner mesh Gs shape i y) (within shape i)) mesh U x
              ∙ tab-cong (span mesh U) _ _ (λ q l. ap (λ (y : List ℕ). w y (within shape i))
              (owner-member mesh Gs shape i U q x (λ a u. parts.2 a (of_dims a u))))
              ∙ sym (members-tab (λ y. w y (within shape i)) mesh U z))
              ∙ F.sums z (within shape i) (below-owner mesh c bi bx) (below-within mesh c bi)
              ∙ ap table (ap (λ (l : List (List ℕ)). from (first_indexes mesh l shape z) (within shape i)) (sym tails)
              ∙ first-owner mesh left x c bi (λ a u. rw (below_length bx) (of_mesh a (in_left a (flat dims) U (of_dims a u)))) apart.off apart.right);
        })

    -- An all-to-all is an all-gather and then an all-slice.
    pub all-to-all-faithful : {mesh : List ℕ} {s : Sharding} {shape : List ℕ} {table : List ℕ → W} {w : StateOf W} (source target : ℕ) (L : List ℕ)
        → length s.dims ≡ length shape
        → each ◌++◌ (each cut_tail s.dims (only (length shape) source L)) (only (length shape) source L) ≡ s.dims
        → Ready mesh (all_to_all source target L) shape → ((a : ℕ) → In a L → ¬ In a s.unreduced)
        → Distinct (varying s) → ((a : ℕ) → In a (varying s) → a < length mesh)
        → Faithful addAll mesh s shape table w
        → Faithful addAll mesh (after (all_to_all source target L) s) (shape_after mesh (all_to_all source target L) shape) table
        (made addAll (sources mesh (all_to_all source target L) shape) w)
    unfolding after sources gathered
    all-to-all-faithful {mesh} {s} {shape} {table} {w} source target L len tails c off once of_mesh F =
        let Gs : List (List ℕ) = only (length shape) source L in
        let Ss : List (List ℕ) = only (length shape) target L in
        let between : List ℕ = grown mesh Gs shape in
        let state : StateOf W = made addAll (single (gather_place mesh Gs shape)) w in
        let gather-length : length s.dims ≡ length Gs = len ∙ sym (cut-lengths mesh c.0).1 in
        let slice-length : length (each cut_tail s.dims Gs) ≡ length Ss =
        length-each cut_tail s.dims Gs gather-length ∙ (cut-lengths mesh c.0).0 ∙ sym (cut-lengths mesh c.1).0 in
        subst (Faithful addAll mesh (after (all_to_all source target L) s) (shard_sizes mesh between Ss) table)
        (sym (made_then addAll one (single (gather_place mesh Gs shape)) (slice_place mesh Ss between) w))
        (subst (λ (n : ℕ). Faithful addAll mesh (sliced (only n target L) (gathered (only n source L) s)) (shard_sizes mesh between Ss) table
        (made addAll (single (slice_place mesh Ss between)) state)) (sym len)
        (slice-faithful Ss slice-length c.1 (λ a u. off a (in-only a (length shape) target L u))
        (gather-faithful Gs gather-length tails c.0 once of_mesh F)))

-- ---- words

-- devices that agree on what an all-reduce leaves get equal words, for every element type
reduce-same : {W : Type 0} {addAll : List W → W} {mesh : List ℕ} {s : Sharding} {shape : List ℕ} {table : List ℕ → W} {w : StateOf W} (L : List ℕ)
    → Faithful addAll mesh s shape table w
    → (x y i : List ℕ) → Below x mesh → Below y mesh → Below i shape → Agree (λ a. In a (varying (reduced L s))) x y
    → made addAll (reduce_places mesh L) w x i ≡ made addAll (reduce_places mesh L) w y i
unfolding reduced
reduce-same {addAll} {mesh} {s} {shape} {w} L F x y i bx by bi g =
    let dims : List ℕ = flat s.dims in
    let U : List ℕ = s.unreduced in
    made-reduce addAll mesh L w x i
    ∙ ap addAll (members-tab (λ z. w z i) mesh L x
    ∙ tab-cong (span mesh L) _ _ (λ q l.
    F.same (member mesh L q x) (member mesh L q y) i (below-member mesh L q l bx) (below-member mesh L q l by) bi
    (λ a u. agree-member mesh L q a l bx by (⊎_elim (λ d. inr (g a (in_left a dims (without U L) d)))
    (λ k. ⊎_map (λ j. j) (λ j. g a (in_right a dims (without U L) j)) (in_without a L U k)) (in-append a dims U u))))
    ∙ sym (members-tab (λ z. w z i) mesh L y))
    ∙ sym (made-reduce addAll mesh L w y i)

-- An all-reduce along axes that split no dimension: the sums are those of before, times the product of the sizes of the axes that were replicated.
module _ {mesh : List ℕ} {s : Sharding} {shape : List ℕ} {table : List ℕ → ℕ} {w : StateOf ℕ} (L : List ℕ) (dL : Distinct L) (dU : Distinct s.unreduced)
    (off : (a : ℕ) → In a L → ¬ In a (flat s.dims)) (words : WordsIn mesh shape w) (F : Faithful add_words mesh s shape table w) where
  -- those of its axes that were replicated, and those that were unreduced
  abbrev R : List ℕ
  R = without L (varying s)

  abbrev K : List ℕ
  K = without L R

  in-U : (a : ℕ) → In a K → In a s.unreduced
  in-U a k =
      ⊎_elim (λ u. ⊎_elim (λ d. absurd (off a (of-without a R L k) d)) (λ u. u) (in-append a (flat s.dims) s.unreduced u))
      (λ r. absurd (not-in-without a R L r k)) (in_without a (varying s) L (of-without a R L k))

  in-K : (a : ℕ) → In a s.unreduced → In a L → In a K
  in-K a u i = ⊎_elim (λ r. absurd (not-in-without a (varying s) L (in_right a (flat s.dims) s.unreduced u) r)) (λ k. k) (in_without a R L i)

  -- along the replicated axes the words are one
  along : (i : List ℕ) → Below i shape → (y : List ℕ) → Below y mesh → sum_over mesh L (λ z. w z i) y ≡ span mesh R * sum_over mesh K (λ z. w z i) y
  along i bi y by =
      let f : List ℕ → ℕ = λ z. w z i in
      let same : (z : List ℕ) → Below z mesh → sum_over mesh R f z ≡ span mesh R * f z = λ z bz.
      sum_over-group mesh R f (λ v. f z) z bz (λ v bv e. F.same v z i bv bz bi (λ a u. sym (e a (λ r. not-in-without a (varying s) L u r))))
      ∙ sum_over-const mesh R (f z) z in
      sum_over-without mesh R L f y (λ a r. of-without a (varying s) L r) (distinct_without (varying s) L dL) dL
      ∙ sum_over-group mesh K (sum_over mesh R f) (λ z. span mesh R * f z) y by (λ z bz e. same z bz) ∙ sum_over-scale mesh K (span mesh R) f y

  reduced-sum : (x i : List ℕ) → Below x mesh → Below i shape
      → add_words (map (λ y. made add_words (reduce_places mesh L) w y i) (members mesh (without s.unreduced L) x))
      ≡ span mesh R * sum_over mesh s.unreduced (λ y. w y i) x % 2 ^ 32
  unfolding sources
  reduced-sum x i bx bi =
      let U : List ℕ = s.unreduced in
      let f : List ℕ → ℕ = λ y. w y i in
      let new : StateOf ℕ = made add_words (reduce_places mesh L) w in
      let g : ℕ = span mesh R in
      add_words-members (λ y. new y i) mesh (without U L) x bx (distinct_without L U dU)
      (λ y by e. step_words mesh (all_reduce L) shape w tt words y i by bi)
      ∙ sum_over-mod mesh (without U L) (2 ^ 32) (λ y. new y i) (sum_over mesh L f) x
      (λ y. ap (λ (z : ℕ). z % 2 ^ 32) (made-reduce add_words mesh L w y i) ∙ add_words-mod (map (λ z. w z i) (members mesh L y))
      ∙ ap (λ (z : ℕ). z % 2 ^ 32) (total-members (λ z. w z i) mesh L y dL))
      ∙ ap (λ (z : ℕ). z % 2 ^ 32) (sum_over-group mesh (without U L) (sum_over mesh L f) (λ y. g * sum_over mesh K f y) x bx (λ y by e. along i bi y by)
      ∙ sum_over-scale mesh (without U L) g (sum_over mesh K f) x
      ∙ ap (λ (l : List ℕ). g * sum_over mesh l (sum_over mesh K f) x) (without-alike L K U in-K (λ a u k. of-without a R L k))
      ∙ ap (λ (z : ℕ). g * z) (sym (sum_over-without mesh K U f x in-U (distinct_without R L dL) dU)))

  -- the sum before it is the table's word
  before : (x i : List ℕ) → Below x mesh → Below i shape
      → sum_over mesh s.unreduced (λ y. w y i) x % 2 ^ 32 ≡ table (from (first_indexes mesh s.dims shape x) i)
  before x i bx bi = sym (add_words-members (λ y. w y i) mesh s.unreduced x bx dU (λ y by e. words y i by bi)) ∙ F.sums x i bx bi

  pub reduce-scaled : Faithful add_words mesh (reduced L s) shape (scaled (span mesh (without L (varying s))) table) (made add_words (reduce_places mesh L) w)
  unfolding reduced scaled
  reduce-scaled = record {
    same = λ x y i bx by bi g. reduce-same L F x y i bx by bi g;
    sums = λ x i bx bi.
        reduced-sum x i bx bi ∙ sym (mul-mod (span mesh R) (sum_over mesh s.unreduced (λ y. w y i) x) (2 ^ 32))
        ∙ ap (λ (z : ℕ). span mesh R * z % 2 ^ 32) (before x i bx bi);
  }

  -- of unreduced axes alone, it is a spread of the same table
  pub reduce-faithful : ((a : ℕ) → In a L → In a s.unreduced) → Faithful add_words mesh (reduced L s) shape table (made add_words (reduce_places mesh L) w)
  unfolding reduced
  reduce-faithful sub = record {
    same = λ x y i bx by bi g. reduce-same L F x y i bx by bi g;
    sums = λ x i bx bi.
        reduced-sum x i bx bi
        ∙ ap (λ (l : List ℕ). span mesh l * sum_over mesh s.unreduced (λ y. w y i) x % 2 ^ 32)
        (without_all (varying s) L (λ a j. in_right a (flat s.dims) s.unreduced (sub a j)))
        ∙ ap (λ (z : ℕ). z % 2 ^ 32) (one-mul (sum_over mesh s.unreduced (λ y. w y i) x)) ∙ before x i bx bi;
  }

-- A reduce-scatter is an all-reduce of its axes in increasing order and then an all-slice.
pub scatter-faithful : {mesh : List ℕ} {s : Sharding} {shape : List ℕ} {table : List ℕ → ℕ} {w : StateOf ℕ} (Ss : List (List ℕ))
    → length s.dims ≡ length Ss → Ready mesh (reduce_scatter Ss) shape → ((a : ℕ) → In a (flat Ss) → a < length mesh) → Distinct (varying s)
    → ((a : ℕ) → In a (flat Ss) → In a s.unreduced) → WordsIn mesh shape w → Faithful add_words mesh s shape table w
    → Faithful add_words mesh (after (reduce_scatter Ss) s) (shape_after mesh (reduce_scatter Ss) shape) table (made add_words (sources mesh (reduce_scatter Ss) shape) w)
unfolding after sources reduced add_words
scatter-faithful {mesh} {s} {shape} {table} {w} Ss len c below once sub words F =
    let L : List ℕ = ascending (length mesh) (flat Ss) in
    let parts : Distinct (flat s.dims) × Distinct s.unreduced × ((a : ℕ) → In a (flat s.dims) → ¬ In a s.unreduced) =
    distinct-split (flat s.dims) s.unreduced once in
    let owed : (a : ℕ) → In a L → In a s.unreduced = λ a i. sub a (of-ascending (length mesh) (flat Ss) a i) in
    let between : Faithful add_words mesh (reduced (flat Ss) s) shape table (made add_words (reduce_places mesh L) w) =
    subst (λ (u : List ℕ). Faithful add_words mesh (record { dims = s.dims; unreduced = u; replicated = s.replicated }) shape table (made add_words (reduce_places mesh L) w))
    (without-ascending (length mesh) (flat Ss) s.unreduced below)
    (reduce-faithful L (distinct-ascending (length mesh) (flat Ss)) parts.1 (λ a i d. parts.2 a d (owed a i)) words F owed) in
    subst (Faithful add_words mesh (after (reduce_scatter Ss) s) (shard_sizes mesh shape Ss) table)
    (sym (made_then add_words (λ a. refl) (reduce_places mesh L) (slice_place mesh Ss shape) w))
    (slice-faithful (λ a. refl) Ss len c (λ a i. not-in-without a (flat Ss) s.unreduced i) between)

-- ---- there is a faithful spread

module _ (mesh : List ℕ) (s : Sharding) (shape : List ℕ) (table : List ℕ → ℕ) where
  -- the table's word that device x has at index i of its block
  abbrev pub block : StateOf ℕ
  block x i = table (from (first_indexes mesh s.dims shape x) i)

  -- the first device of each group along the unreduced axes holds its block, the others hold 0
  abbrev first_holds : StateOf ℕ
  first_holds x i = pick (eqb (position mesh s.unreduced x) 0) (block x i) 0

  first_holds-words : ((x i : List ℕ) → Below x mesh → Below i shape → block x i < 2 ^ 32) → WordsIn mesh shape first_holds
  first_holds-words h x i bx bi = go (eqb (position mesh s.unreduced x) 0)
    where
      go : (t : Bool) → pick t (block x i) 0 < 2 ^ 32
      go true = h x i bx bi
      go false = lit< tt

  -- Whatever axes are unreduced, a table of words has a faithful spread. No size need be positive: a mesh without devices asks nothing.
  pub spread-exists : Distinct (varying s) → ((a : ℕ) → In a s.unreduced → a < length mesh)
      → ((x i : List ℕ) → Below x mesh → Below i shape → block x i < 2 ^ 32)
      → (w : StateOf ℕ) × WordsIn mesh shape w × Faithful add_words mesh s shape table w
  spread-exists once of_mesh words =
      let dims : List (List ℕ) = s.dims in
      let U : List ℕ = s.unreduced in
      let parts : Distinct (flat dims) × Distinct U × ((a : ℕ) → In a (flat dims) → ¬ In a U) = distinct-split (flat dims) U once in
      let same_block : (x y i : List ℕ) → Agree (λ a. In a (flat dims)) x y → block x i ≡ block y i =
      λ x y i g. ap (λ (l : List ℕ). table (from l i)) (first-agree mesh dims shape x y g) in (
        first_holds,
        first_holds-words words,
        record {
          same = λ x y i bx by bi g.
              ap₂ (λ (p b : ℕ). pick (eqb p 0) b 0) (position-agree mesh U x y (λ a u. g a (in_right a (flat dims) U u)))
              (same_block x y i (λ a u. g a (in_left a (flat dims) U u)));
          sums = λ x i bx bi.
              let at : (q : ℕ) → q < span mesh U → first_holds (member mesh U q x) i ≡ pick (eqb q 0) (block x i) 0 =
              λ q l. ap₂ (λ (p b : ℕ). pick (eqb p 0) b 0) (position-member mesh U q x parts.1 (λ a u. rw (below_length bx) (of_mesh a u)) l)
              (same_block (member mesh U q x) x i (λ a u. member-other mesh U q x a (parts.2 a u))) in
              let some : 0 < span mesh U = omega (arith, position-lt mesh U bx) in
              add_words-members (λ y. first_holds y i) mesh U x bx parts.1 (λ y by g. first_holds-words words y i by bi)
              ∙ ap (λ (z : ℕ). z % 2 ^ 32) (sum_over-positions mesh U (λ y. first_holds y i) x parts.1
              ∙ sum_one (span mesh U) 0 (λ q. first_holds (member mesh U q x) i) some
              (λ q l p. at q l ∙ ap (λ (t : Bool). pick t (block x i) 0) (n_t→false (eqb q 0) (λ t. p (eqb→eq q 0 t))))
              ∙ at 0 some ∙ ap (λ (t : Bool). pick t (block x i) 0) (T→true (eqb 0 0) (eqb_refl 0)))
              ∙ mod-eq_of_lt (words x i bx bi);
        },
      )
