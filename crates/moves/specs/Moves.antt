-- A step that only moves words: along each dimension a device takes a piece of its shard, by one list of axes, and joins the pieces of its group,
-- by another. All-slice, all-gather and all-to-all are such steps. The new buffer is row-major over digits: the mesh's axes, then for each dimension
-- its gathered axes and the words of one piece. A gathered axis has its stride at its own digit and none at the mesh's; slicing makes the strides
-- of its axes larger. A step may also read, for each device, the first member of its group in place of the device: the strides of the group's axes
-- are then cleared at the start. Assumes nothing.
use Rattle.std.specs.Prelude.{ℕ, ◌+◌, ◌*◌, ◌/◌, ◌≤◌, ◌<◌, ◌≡◌, List, [], ◌∷◌, ◌++◌, length, get_or, set, take, drop, replicate}
use Rattle.rules.specs.Lists.{flat, product, In, Distinct}
use Rattle.rules.specs.Mesh.{devices, span, member, OnMesh}
use Rattle.rules.specs.Sharding.{shard_sizes, first_indexes}
use Rattle.rules.specs.Spread.{from, tabulate, held}
use Rattle.rules.specs.Collectives.{grown, owner, within, moved}
use Rattle.rules.specs.Limits.{most_axes, most_dims, most_words}
use Rattle.types.specs.Types.{dims_of}
use Rattle.types.specs.declared.DimLists.{DimLists}
use Rattle.digits.specs.Digits.{most_room, mesh_strides, push, cleared, axis_digits, mesh_digits, HasStrides, Front}

-- ---- the step

-- the shape of the new shards, by the gathered and the sliced axes of each dimension
abbrev pub moved_shape : (mesh shape : List ℕ) → (Gs Ss : List (List ℕ)) → List ℕ
moved_shape mesh shape Gs Ss = grown mesh Gs (shard_sizes mesh shape Ss)

-- the lists of a step of the code, one for each dimension of a shape
abbrev pub lists : List ℕ → DimLists → List (List ℕ)
lists shape l = take (length shape) (dims_of l)

-- the buffer that the step leaves, of elements of any type: the new state, of shards of `words` words, and what was behind it; z is read outside the
-- old buffer, which no code does
abbrev pub moved_buffer : {W : Type 0} → W → (mesh shape : List ℕ) → (Gs Ss : List (List ℕ)) → ℕ → (old new : List W) → List W
moved_buffer z mesh shape Gs Ss words old new = moved z mesh Gs Ss shape old ++ drop (devices mesh * words) new

-- the same where each device's shard is read from the first member of its group along L; with no axes that is the device itself, and this is `moved`
abbrev pub moved_first : {W : Type 0} → W → (mesh L : List ℕ) → (Gs Ss : List (List ℕ)) → (shape : List ℕ) → List W → List W
moved_first z mesh L Gs Ss shape old = tabulate mesh (moved_shape mesh shape Gs Ss)
    (λ x i. held z mesh shape old (member mesh L 0 (owner mesh Gs (shard_sizes mesh shape Ss) i x))
    (from (first_indexes mesh Ss (shard_sizes mesh shape Ss) x) (within (shard_sizes mesh shape Ss) i)))

abbrev pub first_buffer : {W : Type 0} → W → (mesh shape L : List ℕ) → (Gs Ss : List (List ℕ)) → ℕ → (old new : List W) → List W
first_buffer z mesh shape L Gs Ss words old new = moved_first z mesh L Gs Ss shape old ++ drop (devices mesh * words) new

-- ---- its digits

-- the strides that are left where each dimension's gathered axes are cleared
abbrev pub left : List (List ℕ) → List ℕ → List ℕ
left [] strides = strides
left (G ∷ Gs) strides = cleared G (left Gs strides)

-- the digits of the dimensions, of the given sizes, with pieces of the given sizes
abbrev pub dim_digits : List ℕ → List ℕ → List ℕ → List (List ℕ) → List ℕ → List ℕ
dim_digits mesh [] ws Gs strides = []
dim_digits mesh (n ∷ ns) [] Gs strides = []
dim_digits mesh (n ∷ ns) (w ∷ ws) [] strides = []
dim_digits mesh (n ∷ ns) (w ∷ ws) (G ∷ Gs) strides = axis_digits mesh G (left Gs strides) (push w (product ns) (dim_digits mesh ns ws Gs strides))

-- the strides with those of a sliced list added, where the pieces are v words apart; and of all dimensions
abbrev pub with_slice : List ℕ → List ℕ → ℕ → List ℕ → List ℕ
with_slice mesh [] v added = added
with_slice mesh (a ∷ S) v added = set (with_slice mesh S v added) a (get_or (with_slice mesh S v added) a 0 + span mesh S * v)

abbrev pub with_slices : List ℕ → List ℕ → List ℕ → List (List ℕ) → List ℕ → List ℕ
with_slices mesh [] ws Ss added = added
with_slices mesh (n ∷ ns) [] Ss added = added
with_slices mesh (n ∷ ns) (w ∷ ws) [] added = added
with_slices mesh (n ∷ ns) (w ∷ ws) (S ∷ Ss) added = with_slice mesh S (w * product ns) (with_slices mesh ns ws Ss added)

-- the strides of the shards that are read, those of the devices, and all digits
abbrev pub first_strides : (mesh shape L : List ℕ) → List ℕ
first_strides mesh shape L = cleared L (mesh_strides mesh (product shape))

abbrev pub device_strides : (mesh shape L : List ℕ) → (Gs Ss : List (List ℕ)) → List ℕ
device_strides mesh shape L Gs Ss =
    from (left Gs (first_strides mesh shape L)) (with_slices mesh shape (shard_sizes mesh shape Ss) Ss (replicate (length mesh) 0))

abbrev pub step_digits : (mesh shape L : List ℕ) → (Gs Ss : List (List ℕ)) → List ℕ
step_digits mesh shape L Gs Ss =
    mesh_digits mesh (device_strides mesh shape L Gs Ss) (dim_digits mesh shape (shard_sizes mesh shape Ss) Gs (first_strides mesh shape L))

-- the most numbers of a step's digits: those of the mesh's axes, of the dimensions and of the gathered axes
abbrev pub digit_room : ℕ
digit_room = 3 * (most_axes + most_dims + most_axes)

-- the most that slices add to a stride
abbrev pub most_added : ℕ
most_added = most_words * most_axes

-- ---- what the code asks

-- a step that the code can do
pub record Moving (mesh shape : List ℕ) (Gs Ss : List (List ℕ)) : Type 0 where
  pub on : OnMesh mesh
  pub rank : length shape ≤ most_dims
  pub old_pos : 0 < product shape
  pub old_few : product shape ≤ most_words
  pub new_pos : 0 < product (moved_shape mesh shape Gs Ss)
  pub new_few : product (moved_shape mesh shape Gs Ss) ≤ most_words
  pub gathers : length Gs ≡ length shape
  pub slices : length Ss ≡ length shape
  pub gathered : (a : ℕ) → In a (flat Gs) → a < length mesh
  pub sliced : (a : ℕ) → In a (flat Ss) → a < length mesh
  pub gathered_once : Distinct (flat Gs)
  pub sliced_once : Distinct (flat Ss)

-- the axes of a group on a mesh: each is an axis of the mesh, and none is there twice
pub record Along (mesh L : List ℕ) : Type 0 where
  pub of_mesh : (a : ℕ) → In a L → a < length mesh
  pub once : Distinct L

-- the strides of the shards that are read: a mesh, places for them, the axes that are cleared, and shards of m words
pub record Reading (strides mesh L : List ℕ) (m : ℕ) : Type 0 where
  pub has : HasStrides strides mesh
  pub few : product mesh * m ≤ most_room
  pub of_mesh : (a : ℕ) → In a L → a < length mesh

-- a list of sliced axes, pieces that are v words apart, and strides with room for what is added
pub record Slicing (added mesh S : List ℕ) (v : ℕ) : Type 0 where
  pub has : HasStrides added mesh
  pub of_mesh : (a : ℕ) → In a S → a < length mesh
  pub few : span mesh S * v ≤ most_words
  pub added_few : (k : ℕ) → get_or added k 0 + most_words * length S ≤ most_added

-- strides to be added to others
pub record Adding (strides added : List ℕ) : Type 0 where
  pub places : length added ≡ length strides
  pub few : (k : ℕ) → get_or strides k 0 + get_or added k 0 ≤ most_room + most_added

-- one dimension of size n, whose words are w apart, with gathered axes G and sliced axes S
pub record Dimension (digits strides added mesh G S : List ℕ) (n w end inner : ℕ) : Type 0 where
  pub front : Front digits end inner (3 * length G + 3)
  pub has : HasStrides strides mesh
  pub added_places : length added ≡ length mesh
  pub gathered : (a : ℕ) → In a G → a < length mesh
  pub sliced : (a : ℕ) → In a S → a < length mesh
  pub new_pos : 0 < span mesh G * (n / span mesh S * inner)
  pub new_few : span mesh G * (n / span mesh S * inner) ≤ most_words
  pub old_pos : 0 < w
  pub old_few : n * w ≤ most_words
  pub added_few : (k : ℕ) → get_or added k 0 + most_words * length S ≤ most_added

-- all dimensions: room for the digits, strides of the devices, and none added yet
pub record Dimensions (digits strides added mesh shape : List ℕ) (Gs Ss : List (List ℕ)) : Type 0 where
  pub step : Moving mesh shape Gs Ss
  pub room : 3 * (length mesh + (length shape + length (flat Gs))) ≤ length digits
  pub strides_places : length strides ≡ length mesh
  pub added_places : length added ≡ length mesh
  pub none : (k : ℕ) → get_or added k 0 ≡ 0

-- the loop over the dimensions with j of them left
pub record DimensionsAt (mesh shape : List ℕ) (Gs Ss : List (List ℕ)) (strides₀ added₀ digits strides added : List ℕ) (first count w j : ℕ) : Type 0 where
  pub made : drop first digits ≡ dim_digits mesh (drop j shape) (shard_sizes mesh (drop j shape) (drop j Ss)) (drop j Gs) strides₀
  pub strides_are : strides ≡ left (drop j Gs) strides₀
  pub added_are : added ≡ with_slices mesh (drop j shape) (shard_sizes mesh (drop j shape) (drop j Ss)) (drop j Ss) added₀
  pub count_is : count ≡ product (moved_shape mesh (drop j shape) (drop j Gs) (drop j Ss))
  pub w_is : w ≡ product (drop j shape)
  pub room_is : first + 3 * (length (drop j shape) + length (flat (drop j Gs))) ≡ length digits
  pub added_few : (k : ℕ) → get_or added k 0 ≤ most_words * length (flat (drop j Ss))

-- a step, with places for its digits and strides
pub record Setting (digits strides added mesh shape L : List ℕ) (Gs Ss : List (List ℕ)) (words : ℕ) : Type 0 where
  pub step : Moving mesh shape Gs Ss
  pub along : Along mesh L
  pub room : length digits ≡ digit_room
  pub strides_places : length strides ≡ length mesh
  pub none : added ≡ replicate (length mesh) 0
  pub words_are : words ≡ product (moved_shape mesh shape Gs Ss)
