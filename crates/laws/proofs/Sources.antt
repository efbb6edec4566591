-- Laws of a step's sources. What a step makes goes by the words at its sources alone (`made-cong`), and these are on the mesh, in the shape and in
-- the device's group along the step's axes (`sources-near`). So two states that agree on a group give its devices the same words (`step_local`), and
-- words stay below 2 ^ 32 (`step_words`). All but the last hold for every element type. Assumes nothing.
use Prim.Native.Nat.{ℕ, zero, suc, ◌^◌, ◌<◌}
use mathlib.Core.Path.{◌≡◌, refl, sym, ap, fun_ext}
use mathlib.Core.Logic.{⊎_elim}
use mathlib.Core.List.{List, [], ◌∷◌, map}
use lib.ListN.{length, replicate}
use Rattle.rules.specs.Lists.{flat, ascending, In, All, done, ◌&◌, Below}
use Rattle.rules.specs.Mesh.{members, SameGroup}
use Rattle.rules.specs.Sharding.{shard_sizes, first_indexes}
use Rattle.rules.specs.Spread.{StateOf, add_words, from}
use Rattle.rules.specs.Collectives.{
  Step,
  all_slice,
  all_gather,
  all_reduce,
  all_to_all,
  reduce_scatter,
  step_axes,
  only,
  grown,
  shape_after,
  Place,
  word,
  Move,
  Sources,
  slice_place,
  gather_place,
  reduce_places,
  single,
  and_then,
  sources,
  made,
}
use Rattle.laws.proofs.Lists.{map-all, all_map, all-imp, flat_in, of-ascending}
use Rattle.laws.proofs.Shapes.{Cut, piece-below, owner-other, below-owner, below-within}
use Rattle.laws.proofs.Sums.{all-members, add_words-lt}

-- ---- what is made of sources

module _ {W : Type 0} (addAll : List W → W) where
  pub made-cong : (s : Sources) (v w : StateOf W) (x i : List ℕ) → All (λ p. word v p ≡ word w p) (s x i) → made addAll s v x i ≡ made addAll s w x i
  unfolding made
  made-cong s v w x i h = ap addAll (map-all (word v) (word w) (s x i) h)

  -- an all-reduce adds the words of the group
  pub made-reduce : (mesh L : List ℕ) (w : StateOf W) (x i : List ℕ)
      → made addAll (reduce_places mesh L) w x i ≡ addAll (map (λ y. w y i) (members mesh L x))
  unfolding made reduce_places
  made-reduce mesh L w x i = ap addAll (go (members mesh L x))
    where
      go : (l : List (List ℕ)) → map (word w) (map (λ y. record { device = y; index = i }) l) ≡ map (λ y. w y i) l
      go [] = refl
      go (y ∷ l) = ap (λ (m : List W). w y i ∷ m) (go l)

  module _ (one : (a : W) → addAll (a ∷ []) ≡ a) where
    -- a move takes the word unchanged
    pub made-single : (m : Move) (w : StateOf W) (x i : List ℕ) → made addAll (single m) w x i ≡ word w (m x i)
    unfolding made
    made-single m w x i = one (word w (m x i))

    -- a step and then a move, as one step
    pub made_then : (s : Sources) (m : Move) (w : StateOf W) → made addAll (and_then s m) w ≡ made addAll (single m) (made addAll s w)
    unfolding made
    made_then s m w = fun_ext (λ x. fun_ext (λ i. sym (one (addAll (map (word w) (s (m x i).device (m x i).index))))))

-- ---- where the sources are

-- the place p is of a mesh and a shape, and in x's group
pub record Near (mesh shape : List ℕ) (L : List ℕ) (x : List ℕ) (p : Place) : Type 0 where
  pub device_below : Below p.device mesh
  pub index_below : Below p.index shape
  pub in_group : SameGroup L x p.device

-- the sizes that a step's kind asks for
abbrev pub Ready : List ℕ → Step → List ℕ → Type 0
Ready mesh (all_slice Ss) shape = Cut mesh Ss shape (shard_sizes mesh shape Ss)
Ready mesh (all_gather Gs) shape = Cut mesh Gs (grown mesh Gs shape) shape
Ready mesh (all_reduce L) shape = Unit {0}
Ready mesh (all_to_all source target L) shape =
    Cut mesh (only (length shape) source L) (grown mesh (only (length shape) source L) shape) shape
    × Cut mesh (only (length shape) target L) (grown mesh (only (length shape) source L) shape) (shape_after mesh (all_to_all source target L) shape)
Ready mesh (reduce_scatter Ss) shape = Cut mesh Ss shape (shard_sizes mesh shape Ss)

-- every word of a state is one of 32 bits
abbrev pub WordsIn : List ℕ → List ℕ → StateOf ℕ → Type 0
WordsIn mesh shape w = (x i : List ℕ) → Below x mesh → Below i shape → w x i < 2 ^ 32

-- the axes of one dimension's list, the others empty
pub in-only : (a rank dim : ℕ) (L : List ℕ) → In a (flat (only rank dim L)) → In a L
in-only a zero dim L i = absurd i
in-only a (suc rank) zero L i = ⊎_elim (λ j. j) (λ j. absurd (none_in rank j)) (flat_in a L (replicate rank []) i)
  where
    none_in : (n : ℕ) → ¬ In a (flat (replicate n []))
    none_in zero j = j
    none_in (suc n) j = none_in n j
in-only a (suc rank) (suc dim) L i = in-only a rank dim L i

module _ (mesh : List ℕ) where
  reduce-near : (L shape x i : List ℕ) → Below x mesh → Below i shape → All (Near mesh shape L x) (reduce_places mesh L x i)
  unfolding reduce_places
  reduce-near L shape x i bx bi =
      all_map (Near mesh shape L x) (λ y. record { device = y; index = i }) (members mesh L x)
      (all-members (λ y. Near mesh shape L x (record { device = y; index = i })) mesh L x bx
      (λ y by g. record { device_below = by; index_below = bi; in_group = g }))

  -- the sources of a word of x are in x's group
  pub sources-near : (t : Step) (shape x i : List ℕ) → Ready mesh t shape → Below x mesh → Below i (shape_after mesh t shape)
      → All (Near mesh shape (step_axes t) x) (sources mesh t shape x i)
  unfolding sources slice_place gather_place
  sources-near (all_slice Ss) shape x i c bx bi =
      let near : Near mesh shape (flat Ss) x (slice_place mesh Ss shape x i) = record {
        device_below = bx;
        index_below = piece-below mesh c bx bi;
        in_group = λ a off. refl;
      } in near & done
  sources-near (all_gather Gs) shape x i c bx bi =
      let near : Near mesh shape (flat Gs) x (gather_place mesh Gs shape x i) = record {
        device_below = below-owner mesh c bi bx;
        index_below = below-within mesh c bi;
        in_group = λ a off. sym (owner-other mesh Gs shape i x a off);
      } in near & done
  sources-near (all_reduce L) shape x i c bx bi = reduce-near L shape x i bx bi
  sources-near (all_to_all source target L) shape x i c bx bi =
      let Gs : List (List ℕ) = only (length shape) source L in
      let Ss : List (List ℕ) = only (length shape) target L in
      let j : List ℕ = from (first_indexes mesh Ss (shard_sizes mesh (grown mesh Gs shape) Ss) x) i in
      let bj : Below j (grown mesh Gs shape) = piece-below mesh c.1 bx bi in
      let near : Near mesh shape L x (gather_place mesh Gs shape x j) = record {
        device_below = below-owner mesh c.0 bj bx;
        index_below = below-within mesh c.0 bj;
        in_group = λ a off. sym (owner-other mesh Gs shape j x a (λ u. off (in-only a (length shape) source L u)));
      } in near & done
  sources-near (reduce_scatter Ss) shape x i c bx bi =
      let L : List ℕ = ascending (length mesh) (flat Ss) in
      let j : List ℕ = from (first_indexes mesh Ss (shard_sizes mesh shape Ss) x) i in
      all-imp (Near mesh shape L x) (Near mesh shape (flat Ss) x) (reduce_places mesh L x j)
      (λ p n. record {
        device_below = n.device_below;
        index_below = n.index_below;
        in_group = λ a off. n.in_group a (λ u. off (of-ascending (length mesh) (flat Ss) a u));
      })
      (reduce-near L shape x j bx (piece-below mesh c bx bi))

  -- "Two buffers that agree on that group give that device the same shard."
  pub step_local : {W : Type 0} (addAll : List W → W) (t : Step) (shape : List ℕ) (v w : StateOf W) (x i : List ℕ) → Ready mesh t shape → Below x mesh
      → Below i (shape_after mesh t shape) → ((y j : List ℕ) → Below y mesh → Below j shape → SameGroup (step_axes t) x y → v y j ≡ w y j)
      → made addAll (sources mesh t shape) v x i ≡ made addAll (sources mesh t shape) w x i
  step_local addAll t shape v w x i r bx bi h =
      made-cong addAll (sources mesh t shape) v w x i
      (all-imp (Near mesh shape (step_axes t) x) (λ p. word v p ≡ word w p) (sources mesh t shape x i)
      (λ p n. h p.device p.index n.device_below n.index_below n.in_group) (sources-near t shape x i r bx bi))

  -- what a step makes of words are words
  pub step_words : (t : Step) (shape : List ℕ) (w : StateOf ℕ) → Ready mesh t shape → WordsIn mesh shape w
      → WordsIn mesh (shape_after mesh t shape) (made add_words (sources mesh t shape) w)
  unfolding made
  step_words t shape w r h x i bx bi =
      add_words-lt (map (word w) (sources mesh t shape x i)) (all_map (λ n. n < 2 ^ 32) (word w) (sources mesh t shape x i)
      (all-imp (Near mesh shape (step_axes t) x) (λ p. word w p < 2 ^ 32) (sources mesh t shape x i)
      (λ p n. h p.device p.index n.device_below n.index_below) (sources-near t shape x i r bx bi)))
