-- What the kernels ask for follows from an accepted step, and what they leave is what the rules make, in the buffer that the kind says. The elements
-- are of any type W: addAll is the sum of a group's elements, the sum of one is that element (`one`), and z is read outside a buffer. Assumes nothing.
use Prim.Native.Nat.{ℕ, ◌*◌, ◌≤◌, ◌<◌}
use mathlib.Core.Path.{◌≡◌, refl, sym, ap, ◌∙◌, subst, transport}
use mathlib.Core.Bool.{Bool, true, false}
use mathlib.Core.List.{List, [], ◌∷◌, ◌++◌}
use native.Mathlib.Omega.{arith}
use native.Mathlib.Nat.{le_trans}
use lib.ListN.{length, get_or, take, drop, set, replicate}
use Rattle.rules.specs.Lists.{pick, flat, product, ascending}
use Rattle.rules.specs.Mesh.{devices, OnMesh}
use Rattle.rules.specs.Sharding.{Sharding, shard_sizes, IsSharding}
use Rattle.rules.specs.Spread.{StateOf, tabulate, held, add_words}
use Rattle.rules.specs.Collectives.{
  Step,
  all_slice,
  all_gather,
  all_reduce,
  all_to_all,
  reduce_scatter,
  only,
  reduced,
  shape_after,
  sources,
  slice_place,
  reduce_places,
  made,
  moved,
}
use Rattle.rules.specs.Limits.{most_axes, most_dims, most_words}
use Rattle.types.specs.Types.{axes_of, dims_of, step_of}
use Rattle.types.specs.declared.AxisList.{AxisList}
use Rattle.types.specs.declared.Dim.{Dim}
use Rattle.types.specs.declared.Step.TheVariants.{AllToAll, ReduceScatter}
use Rattle.types.specs.declared.DimLists.{DimLists}
use Rattle.types.specs.declared.Step as code_step
use Rattle.laws.proofs.Lists.{take-replicate, of-ascending, distinct-ascending}
use Rattle.laws.proofs.Buffers.{held-tabulate, tabulate-same}
use Rattle.laws.proofs.Shapes.{Cut, cut-lengths, piece-below}
use Rattle.laws.proofs.Sources.{made-single, made_then}
use Rattle.laws.proofs.Steps.{only_at, AcceptedStep, facts, sharding-cut, shape-length, reduce-sharding, scatter-slices}
use Rattle.laws.proofs.Next.{step-ready}
use Rattle.laws.proofs.Moves as bridge
use Rattle.mesh.proofs.Sizes.{size_pos}
use Rattle.moves.specs.Moves.{Moving, Along, moved_shape, moved_buffer, first_buffer, lists}
use Rattle.sums.specs.Sums.{Reducing, reduced_buffer, summed_buffer}
use Rattle.step.specs.Stepping.{Stepping, stepped_buffer, spent_buffer, in_place}
use Rattle.step.proofs.Firsts.{first-sums}

-- the sum of one word is that word
pub one_word : (a : ℕ) → add_words (a ∷ []) ≡ a
unfolding add_words
one_word a = refl

pub sizes_pos : {mesh shape : List ℕ} {t : Step} {words old new : ℕ} → Stepping mesh shape t words old new → (a : ℕ) → 0 < get_or mesh a 1
sizes_pos {mesh} h a = size_pos mesh a h.on.devices_pos

-- ---- what an accepted step gives a kernel

record Accepts (mesh shape : List ℕ) (t : Step) (words : ℕ) : Type 0 where
  sizes : List ℕ
  before : Sharding
  sharding : IsSharding mesh sizes before
  fine : AcceptedStep mesh sizes t before
  shape_is : shard_sizes mesh sizes before.dims ≡ shape
  on : OnMesh mesh
  rank_few : length sizes ≤ most_dims
  words_pos : 0 < product sizes
  words_few : product sizes ≤ most_words
  words_are : words ≡ product (shape_after mesh t shape)

accepts : {mesh shape : List ℕ} {t : Step} {words old new : ℕ} → Stepping mesh shape t words old new → Accepts mesh shape t words
accepts {mesh} {t = t} h = record {
  sizes = h.sizes;
  before = h.before;
  sharding = h.sharding;
  fine = (facts mesh h.sizes h.number t h.before h.next h.judged).0;
  shape_is = h.shape_is;
  on = h.on;
  rank_few = h.rank_few;
  words_pos = h.words_pos;
  words_few = h.words_few;
  words_are = h.words_are;
}

module _ {mesh shape : List ℕ} {t : Step} {words : ℕ} (h : Accepts mesh shape t words) where
  mesh-pos : (a : ℕ) → 0 < get_or mesh a 1
  mesh-pos a = size_pos mesh a h.on.devices_pos

  dims-many : length shape ≡ length h.before.dims
  dims-many = ap length (sym h.shape_is) ∙ shape-length mesh h.sizes mesh-pos h.before h.sharding

  few-dims : length shape ≤ most_dims
  few-dims =
      let c = sharding-cut mesh h.sizes mesh-pos h.before h.sharding in
      omega (arith, dims-many, (cut-lengths mesh c).0, h.rank_few)

  no-lists : (none : DimLists) → dims_of none ≡ replicate most_dims [] → lists shape none ≡ replicate (length shape) []
  no-lists none z = ap (λ (l : List (List ℕ)). take (length shape) l) z ∙ take-replicate {A = List ℕ} [] (length shape) most_dims few-dims

  module _ (m : bridge.Moving t) (off on : DimLists)
      (p : lists shape off ≡ bridge.gathers t (length shape)) (q : lists shape on ≡ bridge.slices t (length shape)) where
    asked : bridge.Moves mesh h.sizes (bridge.gathers t (length shape)) (bridge.slices t (length shape)) shape (shape_after mesh t shape)
    asked = subst
        (λ (l : List ℕ). bridge.Moves mesh h.sizes (bridge.gathers t (length l)) (bridge.slices t (length l)) l (shape_after mesh t l))
        h.shape_is
        (bridge.step-moves mesh h.sizes mesh-pos t h.before m h.sharding h.fine h.words_pos)

    move_asks : Moving mesh shape (lists shape off) (lists shape on)
    move_asks = rw (p, q) (
        let a = asked in
        record {
          on = h.on;
          rank = omega (arith, a.rank, h.rank_few);
          old_pos = a.words_pos;
          old_few = le_trans a.words_few h.words_few;
          new_pos = rw a.shape_is a.new_words_pos;
          new_few = rw a.shape_is (le_trans a.new_words_few h.words_few);
          gathers = a.gathers_each;
          slices = a.slices_each;
          gathered = a.gathers_axes;
          sliced = a.slices_axes;
          gathered_once = a.gathers_once;
          sliced_once = a.slices_once;
        })

    move-words : words ≡ product (moved_shape mesh shape (lists shape off) (lists shape on))
    move-words = rw (p, q) (h.words_are ∙ ap product (sym asked.shape_is))

    move-leaves : {W : Type 0} (addAll : List W → W) (one : (a : W) → addAll (a ∷ []) ≡ a) (z : W) (olds news : List W)
        → moved_buffer z mesh shape (lists shape off) (lists shape on) words olds news ≡ stepped_buffer addAll z mesh shape t words olds news
    move-leaves {W} addAll one z olds news =
        let r : List ℕ → Type 0 = λ l. moved z mesh (bridge.gathers t (length l)) (bridge.slices t (length l)) l olds
        ≡ tabulate mesh (shape_after mesh t l) (made addAll (sources mesh t l) (held z mesh l olds)) in
        let e = subst r h.shape_is (bridge.step-moved mesh h.sizes mesh-pos addAll one z t h.before olds m h.sharding h.fine) in
        rw (p, q) (ap (λ (l : List W). l ++ drop (devices mesh * words) news) e)

-- ---- a reduce-scatter: what it makes is a reduction, and the slice of that

module _ {mesh shape : List ℕ} {Ss : List (List ℕ)} {words : ℕ} (h : Accepts mesh shape (reduce_scatter Ss) words) where
  -- its slice is an accepted one
  slice_of : Accepts mesh shape (all_slice Ss) words
  unfolding reduced
  slice_of = record {
    sizes = h.sizes;
    before = reduced (flat Ss) h.before;
    sharding = reduce-sharding mesh h.sizes (mesh-pos h) (flat Ss) h.before h.sharding;
    fine = scatter-slices mesh h.sizes (mesh-pos h) Ss h.before h.sharding h.fine;
    shape_is = h.shape_is;
    on = h.on;
    rank_few = h.rank_few;
    words_pos = h.words_pos;
    words_few = h.words_few;
    words_are = h.words_are;
  }

  pieces : Cut mesh Ss shape (shard_sizes mesh shape Ss)
  pieces = subst (λ (l : List ℕ). Cut mesh Ss l (shard_sizes mesh l Ss)) h.shape_is
      (step-ready mesh h.sizes (mesh-pos h) (reduce_scatter Ss) h.before h.sharding h.fine)

  -- the state between stands at the front of the old buffer
  then-sliced : {W : Type 0} (addAll : List W → W) (one : (a : W) → addAll (a ∷ []) ≡ a) (z : W) (olds rest news : List W)
      → stepped_buffer addAll z mesh shape (all_slice Ss) words
      (tabulate mesh shape (made addAll (reduce_places mesh (ascending (length mesh) (flat Ss))) (held z mesh shape olds)) ++ rest) news
      ≡ stepped_buffer addAll z mesh shape (reduce_scatter Ss) words olds news
  unfolding sources slice_place
  then-sliced {W} addAll one z olds rest news =
      let L : List ℕ = ascending (length mesh) (flat Ss) in
      let between : StateOf W = made addAll (reduce_places mesh L) (held z mesh shape olds) in
      ap (λ (l : List W). l ++ drop (devices mesh * words) news)
      (tabulate-same mesh (shard_sizes mesh shape Ss) _ _ (λ x i bx bi.
      made-single addAll one (slice_place mesh Ss shape) (held z mesh shape (tabulate mesh shape between ++ rest)) x i
      ∙ held-tabulate mesh shape z between rest bx (piece-below mesh pieces bx bi)
      ∙ sym (made-single addAll one (slice_place mesh Ss shape) between x i)
      ∙ ap (λ (w : StateOf W). w x i) (sym (made_then addAll one (reduce_places mesh L) (slice_place mesh Ss shape) (held z mesh shape olds)))))

-- what the code of a reduce-scatter asks for and leaves
module _ {mesh shape : List ℕ} {words old new : ℕ} (on : DimLists) (h : Stepping mesh shape (reduce_scatter (lists shape on)) words old new) where
  pub axes-asked : (length shape ≤ most_dims) × (length mesh ≤ most_axes)
  axes-asked = (few-dims (accepts h), h.on.axes_few)

  -- the step's axes, in increasing order
  module _ {L : List ℕ} (l : L ≡ ascending (length mesh) (flat (lists shape on))) where
    along : Along mesh L
    along = rw l (record {
      of_mesh = λ a i. (accepts h).fine.axes a (of-ascending (length mesh) (flat (lists shape on)) a i);
      once = distinct-ascending (length mesh) (flat (lists shape on));
    })

    pub sums-asked : Reducing mesh shape L old
    sums-asked = record {
      on = h.on;
      words_pos = h.shard_pos;
      words_few = h.shard_few;
      of_mesh = along.of_mesh;
      once = along.once;
      room = h.old_room;
    }

    module _ (none : DimLists) (e : dims_of none ≡ replicate most_dims []) where
      -- the slice of each group's sum
      slicing : Accepts mesh shape (all_slice (lists shape on)) words
      slicing = slice_of (accepts h)

      moving : Moving mesh shape (lists shape none) (lists shape on)
      moving = move_asks slicing tt none on (no-lists slicing none e) refl

      pub slice-asked : Moving mesh shape (lists shape none) (lists shape on)
          × (Along mesh L × ((words ≡ product (moved_shape mesh shape (lists shape none) (lists shape on)))
          × ((devices mesh * product shape ≤ old) × (devices mesh * words ≤ new))))
      slice-asked = (moving, (along, (move-words slicing tt none on (no-lists slicing none e) refl, (h.old_room, h.new_room))))

      pub scatter-leaves : {W : Type 0} (addAll : List W → W) (one : (a : W) → addAll (a ∷ []) ≡ a) (z : W) (olds news : List W) {here there : List W}
          → here ≡ summed_buffer addAll z mesh shape L 1 olds
          → there ≡ first_buffer z mesh shape L (lists shape none) (lists shape on) words here news
          → (here ≡ spent_buffer addAll z mesh shape (reduce_scatter (lists shape on)) olds)
          × (there ≡ stepped_buffer addAll z mesh shape (reduce_scatter (lists shape on)) words olds news)
      scatter-leaves {W} addAll one z olds news p q =
          let Ss : List (List ℕ) = lists shape on in
          let rest : List W = drop (devices mesh * product shape) olds in (
            p ∙ ap (λ (m : List ℕ). summed_buffer addAll z mesh shape m 1 olds) l,
            q ∙ ap (λ (b : List W). first_buffer z mesh shape L (lists shape none) Ss words b news) p
                ∙ ap (λ (b : List W). b ++ drop (devices mesh * words) news) (first-sums addAll mesh L moving along z (held z mesh shape olds) rest)
                ∙ move-leaves slicing tt none on (no-lists slicing none e) refl addAll one z (reduced_buffer addAll z mesh shape L olds) news
                ∙ ap (λ (m : List ℕ). stepped_buffer addAll z mesh shape (all_slice Ss) words (reduced_buffer addAll z mesh shape m olds) news) l
                ∙ then-sliced (accepts h) addAll one z olds rest news,
          )

-- a step that only moves words reads the old buffer
moving-spends : {W : Type 0} (addAll : List W → W) (z : W) (mesh shape : List ℕ) (t : Step) → bridge.Moving t → (olds : List W)
    → spent_buffer addAll z mesh shape t olds ≡ olds
moving-spends addAll z mesh shape (all_slice Ss) m olds = refl
moving-spends addAll z mesh shape (all_gather Gs) m olds = refl
moving-spends addAll z mesh shape (all_reduce L) m olds = refl
moving-spends addAll z mesh shape (all_to_all source target L) m olds = refl
moving-spends addAll z mesh shape (reduce_scatter Ss) m olds = absurd m

-- ---- by the kinds of the code

module _ {mesh shape : List ℕ} (step : code_step.Step) {words old new : ℕ} (h : Stepping mesh shape (step_of (length shape) step) words old new) where
  pub ranked : length shape ≤ most_dims
  ranked = few-dims (accepts h)

  pub nowhere : (none : DimLists) → dims_of none ≡ replicate most_dims [] → lists shape none ≡ replicate (length shape) []
  nowhere none z = no-lists (accepts h) none z

  module _ {s : code_step.Step} (e : step ≡ s) where
    of : Stepping mesh shape (step_of (length shape) s) words old new
    of = subst (λ (x : code_step.Step). Stepping mesh shape (step_of (length shape) x) words old new) e h

    -- what the step leaves in the buffer of the old state, and in the other one: the new state stands where its kind says
    abbrev Left : {W : Type 0} → (List W → W) → W → Bool → Step → (olds news here there : List W) → Type 0
    Left addAll z b t olds news here there =
        (here ≡ pick b (stepped_buffer addAll z mesh shape t words olds olds) (spent_buffer addAll z mesh shape t olds)) × (there ≡ pick b news (stepped_buffer addAll z mesh shape t words olds news))

    stands : {W : Type 0} (addAll : List W → W) (z : W) {b : Bool} → b ≡ in_place (step_of (length shape) s) → (olds news here there : List W)
        → Left addAll z b (step_of (length shape) s) olds news here there → Left addAll z (in_place (step_of (length shape) step)) (step_of (length shape) step) olds news here there
    stands addAll z {b} q olds news here there =
        let p : b ≡ in_place (step_of (length shape) step) = q ∙ ap (λ (x : code_step.Step). in_place (step_of (length shape) x)) (sym e) in
        transport (λ i. Left addAll z (p i) (step_of (length shape) (sym e i)) olds news here there)

    module _ (m : bridge.Moving (step_of (length shape) s)) (off on : DimLists)
        (p : lists shape off ≡ bridge.gathers (step_of (length shape) s) (length shape))
        (q : lists shape on ≡ bridge.slices (step_of (length shape) s) (length shape)) where
      pub move-requires : Moving mesh shape (lists shape off) (lists shape on)
          × ((words ≡ product (moved_shape mesh shape (lists shape off) (lists shape on)))
          × ((devices mesh * product shape ≤ old) × (devices mesh * words ≤ new)))
      move-requires = (move_asks (accepts of) m off on p q, (move-words (accepts of) m off on p q, (h.old_room, h.new_room)))

      pub moved-so : {W : Type 0} (addAll : List W → W) (one : (a : W) → addAll (a ∷ []) ≡ a) (z : W) → false ≡ in_place (step_of (length shape) s) → (olds news there : List W)
          → there ≡ moved_buffer z mesh shape (lists shape off) (lists shape on) words olds news
          → Left addAll z (in_place (step_of (length shape) step)) (step_of (length shape) step) olds news olds there
      moved-so addAll one z b olds news there l =
          stands addAll z b olds news olds there (
            sym (moving-spends addAll z mesh shape (step_of (length shape) s) m olds),
            l ∙ move-leaves (accepts of) m off on p q addAll one z olds news,
          )

    module _ (L : List ℕ) (r : step_of (length shape) s ≡ all_reduce L) where
      reducing : Stepping mesh shape (all_reduce L) words old new
      reducing = subst (λ (t : Step). Stepping mesh shape t words old new) r of

      pub reduce-requires : Reducing mesh shape L old
      reduce-requires =
          let f = (accepts reducing).fine in
          record {
            on = h.on;
            words_pos = h.shard_pos;
            words_few = h.shard_few;
            of_mesh = f.axes;
            once = f.by_kind.once;
            room = h.old_room;
          }

      pub reduced-so : {W : Type 0} (addAll : List W → W) (z : W) → true ≡ in_place (step_of (length shape) s) → (olds news here there : List W)
          → (here ≡ reduced_buffer addAll z mesh shape L olds) × (there ≡ news)
          → Left addAll z (in_place (step_of (length shape) step)) (step_of (length shape) step) olds news here there
      unfolding sources
      reduced-so addAll z b olds news here there l =
          stands addAll z b olds news here there (
            l.0 ∙ ap (λ (n : ℕ). tabulate mesh shape (made addAll (reduce_places mesh L) (held z mesh shape olds)) ++ drop (devices mesh * n) olds)
                (sym reducing.words_are)
                ∙ ap (λ (t : Step). stepped_buffer addAll z mesh shape t words olds olds) (sym r),
            l.1,
          )

  module _ {lists : DimLists} (e : step ≡ ReduceScatter lists) where
    pub scatter-requires : Stepping mesh shape (reduce_scatter (take (length shape) (dims_of lists))) words old new
    scatter-requires = of e

    pub scattered-so : {W : Type 0} (addAll : List W → W) (z : W) → (olds news here there : List W)
        → (here ≡ spent_buffer addAll z mesh shape (reduce_scatter (take (length shape) (dims_of lists))) olds)
        × (there ≡ stepped_buffer addAll z mesh shape (reduce_scatter (take (length shape) (dims_of lists))) words olds news)
        → Left e addAll z (in_place (step_of (length shape) step)) (step_of (length shape) step) olds news here there
    scattered-so addAll z olds news here there l = stands e addAll z refl olds news here there l

  -- one list at a dimension
  module _ {source target : Dim} {list : AxisList} (e : step ≡ AllToAll source target list) (none : DimLists) (z : dims_of none ≡ replicate most_dims []) (ds : DimLists) where
    pub at_source : dims_of ds ≡ set (dims_of none) source.0 (axes_of list)
        → lists shape ds ≡ only (length shape) source.0 (axes_of list)
    at_source q =
        let f = (accepts (of e)).fine.by_kind.source-lt in
        only_at (length shape) source.0 _ (dims_of none) (dims_of ds) ranked (omega (arith, dims-many (accepts (of e)), f)) z q

    pub at_target : dims_of ds ≡ set (dims_of none) target.0 (axes_of list)
        → lists shape ds ≡ only (length shape) target.0 (axes_of list)
    at_target q =
        let f = (accepts (of e)).fine.by_kind.target-lt in
        only_at (length shape) target.0 _ (dims_of none) (dims_of ds) ranked (omega (arith, dims-many (accepts (of e)), f)) z q
