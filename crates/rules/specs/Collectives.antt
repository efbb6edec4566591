-- Document 01, "The four steps", and the fifth of document 02, Ask 5. Each collective is defined once, by its sources: the places of the old words that each new word is made from.
-- The words, the locality of a step and the bounds of the code all follow from them. Source document 001 decides on what a collective does to a
-- sharding. Assumes nothing.
use Rattle.std.specs.Prelude.{ℕ, ◌-◌, ◌*◌, ◌/◌, ◌%◌, ◌≡◌, List, [], ◌∷◌, ◌++◌, map, length, set, take, drop, replicate, T}
use Rattle.rules.specs.Lists.{each, flat, product, without, ascending}
use Rattle.rules.specs.Mesh.{span, devices, member, members}
use Rattle.rules.specs.Sharding.{Sharding, divisible, shard_sizes, first_indexes}
use Rattle.rules.specs.Spread.{StateOf, tabulate, held, from}

-- "All-slice has one axis list per dimension", "All-gather has one list per dimension", "All-reduce has one list", "All-to-all has a source
-- dimension, another target dimension and one list." Document 02, Ask 5, of reduce-scatter: "with one list per dimension as in all-slice".
pub data Step : Type 0 where
  all_slice all_gather : List (List ℕ) → Step
  all_reduce : List ℕ → Step
  all_to_all : ℕ → ℕ → List ℕ → Step
  reduce_scatter : List (List ℕ) → Step

-- the step's axes, in file order
abbrev pub step_axes : Step → List ℕ
step_axes (all_slice Ss) = flat Ss
step_axes (all_gather Gs) = flat Gs
step_axes (all_reduce L) = L
step_axes (all_to_all source target L) = L
step_axes (reduce_scatter Ss) = flat Ss

-- one list per dimension: L at one dimension, none at the others
abbrev pub only : ℕ → ℕ → List ℕ → List (List ℕ)
only rank dim L = set (replicate rank []) dim L

-- ---- the sharding after a step; document 02, Ask 3: "No step changes the list" of explicitly replicated axes

-- "Each list is joined to the end of its dimension's list."
unfoldable pub sliced : List (List ℕ) → Sharding → Sharding
sliced Ss s = record { dims = each ◌++◌ s.dims Ss; unreduced = s.unreduced; replicated = s.replicated }

-- "Each must be the tail of that dimension's list, in the same order, and is cut off it."
abbrev pub cut_tail : List ℕ → List ℕ → List ℕ
cut_tail d G = take (length d - length G) d

unfoldable pub gathered : List (List ℕ) → Sharding → Sharding
gathered Gs s = record { dims = each cut_tail s.dims Gs; unreduced = s.unreduced; replicated = s.replicated }

-- "Each axis must be unreduced; it becomes replicated." An axis that nothing names is replicated already (02, Ask 6).
unfoldable pub reduced : List ℕ → Sharding → Sharding
unfolding without
reduced L s = record { dims = s.dims; unreduced = without s.unreduced L; replicated = s.replicated }

-- "It means: all-gather of that list off the source, then all-slice of it on the target." An axis of a reduce-scatter "leaves the unreduced list and
-- joins the end of its dimension's list" (02, Ask 5).
unfoldable pub after : Step → Sharding → Sharding
unfolding sliced gathered reduced
after (all_slice Ss) s = sliced Ss s
after (all_gather Gs) s = gathered Gs s
after (all_reduce L) s = reduced L s
after (all_to_all source target L) s = sliced (only (length s.dims) target L) (gathered (only (length s.dims) source L) s)
after (reduce_scatter Ss) s = sliced Ss (reduced (flat Ss) s)

-- ---- the shape after a step, by the step itself

-- "All-slice divides each size, without remainder, by the product of the mesh sizes of its axes there; all-gather multiplies by it; all-reduce keeps
-- the shape; all-to-all goes by its meaning." A reduce-scatter's words and shape "are those of an all-reduce over all the step's axes in increasing
-- order, then the all-slice with the step's lists" (02, Ask 5).
abbrev pub grown : List ℕ → List (List ℕ) → List ℕ → List ℕ
grown mesh Gs shape = each (λ n G. span mesh G * n) shape Gs

abbrev pub shape_after : List ℕ → Step → List ℕ → List ℕ
shape_after mesh (all_slice Ss) shape = shard_sizes mesh shape Ss
shape_after mesh (all_gather Gs) shape = grown mesh Gs shape
shape_after mesh (all_reduce L) shape = shape
shape_after mesh (all_to_all source target L) shape =
    shard_sizes mesh (grown mesh (only (length shape) source L) shape) (only (length shape) target L)
shape_after mesh (reduce_scatter Ss) shape = shard_sizes mesh shape Ss

-- "without remainder": of an all-slice and a reduce-scatter, the sizes that it is given; of an all-to-all, those that its gather leaves
abbrev pub WithoutRemainder : List ℕ → Step → List ℕ → Type 0
WithoutRemainder mesh (all_slice Ss) shape = T (divisible mesh shape Ss)
WithoutRemainder mesh (all_gather Gs) shape = Unit {0}
WithoutRemainder mesh (all_reduce L) shape = Unit {0}
WithoutRemainder mesh (all_to_all source target L) shape =
    T (divisible mesh (grown mesh (only (length shape) source L) shape) (only (length shape) target L))
WithoutRemainder mesh (reduce_scatter Ss) shape = T (divisible mesh shape Ss)

-- ---- the words after a step; `shape` is the shards' shape before it

-- a word's place: a device, and an index of its shard
pub record Place : Type 0 where
  pub device : List ℕ
  pub index : List ℕ

abbrev pub word : {W : Type 0} → StateOf W → Place → W
word w p = w p.device p.index

-- For each device and each index of its new shard: the place that the word is moved from, and the places that it is made of, in order.
abbrev pub Move : Type 0
Move = List ℕ → List ℕ → Place

abbrev pub Sources : Type 0
Sources = List ℕ → List ℕ → List Place

-- "A device keeps, along each dimension, the equal piece whose number is its position for the step's list there."
unfoldable pub slice_place : List ℕ → List (List ℕ) → List ℕ → Move
slice_place mesh Ss shape x i = record { device = x; index = from (first_indexes mesh Ss (shard_sizes mesh shape Ss) x) i }

-- "A device's new shard joins, along each dimension, the shards of its group in order of position for that list."
-- So index i is that of the device at position i / n, of the shards of size n, and i % n is the index there.
abbrev pub owner : List ℕ → List (List ℕ) → List ℕ → List ℕ → List ℕ → List ℕ
owner mesh Gs [] i x = x
owner mesh [] (n ∷ shape) i x = x
owner mesh (G ∷ Gs) (n ∷ shape) [] x = x
owner mesh (G ∷ Gs) (n ∷ shape) (j ∷ i) x = member mesh G (j / n) (owner mesh Gs shape i x)

abbrev pub within : List ℕ → List ℕ → List ℕ
within shape i = each (λ n j. j % n) shape i

unfoldable pub gather_place : List ℕ → List (List ℕ) → List ℕ → Move
gather_place mesh Gs shape x i = record { device = owner mesh Gs shape i x; index = within shape i }

-- "Each device gets the word_by_word sum over its group."
unfoldable pub reduce_places : List ℕ → List ℕ → Sources
unfolding members
reduce_places mesh L x i = map (λ y. record { device = y; index = i }) (members mesh L x)

-- one source; the step s and then the move m, with no state between
abbrev pub single : Move → Sources
single m x i = m x i ∷ []

abbrev pub and_then : Sources → Move → Sources
and_then s m x i = s (m x i).device (m x i).index

unfoldable pub sources : List ℕ → Step → List ℕ → Sources
unfolding slice_place gather_place reduce_places ascending
sources mesh (all_slice Ss) shape = single (slice_place mesh Ss shape)
sources mesh (all_gather Gs) shape = single (gather_place mesh Gs shape)
sources mesh (all_reduce L) shape = reduce_places mesh L
sources mesh (all_to_all source target L) shape =
    and_then (single (gather_place mesh (only (length shape) source L) shape))
    (slice_place mesh (only (length shape) target L) (grown mesh (only (length shape) source L) shape))
sources mesh (reduce_scatter Ss) shape = and_then (reduce_places mesh (ascending (length mesh) (flat Ss))) (slice_place mesh Ss shape)

-- what is made of the words at the sources
unfoldable pub made : {W : Type 0} → (List W → W) → Sources → StateOf W → StateOf W
made addAll s w x i = addAll (map (word w) (s x i))

-- "A shard has words, by the rules above, and a shape, one size per dimension."
pub record Shards (W : Type 0) : Type 0 where
  pub shape : List ℕ
  pub words : StateOf W

-- the shards after a step, from the shards that it is given
unfoldable pub stepped : {W : Type 0} → (List W → W) → List ℕ → Step → Shards W → Shards W
unfolding sources made
stepped addAll mesh s v = record { shape = shape_after mesh s v.shape; words = made addAll (sources mesh s v.shape) v.words }

-- A slice and a gather in one piece, from buffer to buffer, as the kernels state their moves: each device's shard is sliced along the lists Ss, and
-- the slices are then gathered along the lists Gs. That this is what a step that only moves words makes is `step-moved` of proofs/Moves.antt.
abbrev pub moved : {W : Type 0} → W → (mesh : List ℕ) (Gs Ss : List (List ℕ)) (shape : List ℕ) (old : List W) → List W
moved z mesh Gs Ss shape old = tabulate mesh (grown mesh Gs (shard_sizes mesh shape Ss))
    (λ x i. held z mesh shape old (owner mesh Gs (shard_sizes mesh shape Ss) i x)
    (from (first_indexes mesh Ss (shard_sizes mesh shape Ss) x) (within (shard_sizes mesh shape Ss) i)))

-- The first D times m words of a buffer are the shards; and the buffer that begins with them, its other words as they were.
abbrev pub Stands : {W : Type 0} → List ℕ → Shards W → List W → Type 0
Stands mesh v buffer = take (devices mesh * product v.shape) buffer ≡ tabulate mesh v.shape v.words

abbrev pub with_shards : {W : Type 0} → List ℕ → Shards W → List W → List W
with_shards mesh v buffer = tabulate mesh v.shape v.words ++ drop (devices mesh * product v.shape) buffer
