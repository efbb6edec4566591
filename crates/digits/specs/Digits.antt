-- The digits (crate strided) that lead through the shards of devices. A device is a place on the mesh: each axis has a stride in the buffer, and the
-- device's first word there is the sum of its coordinates times the strides. To go along the members of a group is to count with digits of the group's
-- axes, while their strides are cleared for the device itself. Assumes nothing.
use Rattle.std.specs.Prelude.{ℕ, ◌+◌, ◌*◌, ◌≤◌, ◌<◌, ◌≡◌, List, [], ◌∷◌, length, get_or, set, drop}
use Rattle.rules.specs.Lists.{product, In}
use Rattle.rules.specs.Mesh.{span, OnMesh}
use Rattle.rules.specs.Limits.{most_devices, most_words}
use Rattle.strided.specs.Strided.{counted}

-- the most words of a state
abbrev pub most_room : ℕ
most_room = most_devices * most_words

-- the strides of the mesh's axes, where a shard has m words; and the sum of coordinates times strides
abbrev pub mesh_strides : List ℕ → ℕ → List ℕ
mesh_strides [] m = []
mesh_strides (s ∷ ss) m = product ss * m ∷ mesh_strides ss m

abbrev pub dot : List ℕ → List ℕ → ℕ
dot [] xs = 0
dot (z ∷ strides) [] = 0
dot (z ∷ strides) (x ∷ xs) = x * z + dot strides xs

-- one digit more, in front
abbrev pub push : ℕ → ℕ → List ℕ → List ℕ
push size stride digits = size ∷ counted digits ∷ stride ∷ digits

-- the strides with those of a list of axes cleared
abbrev pub cleared : List ℕ → List ℕ → List ℕ
cleared [] strides = strides
cleared (a ∷ L) strides = set (cleared L strides) a 0

-- the digits of a list of axes, before others; and those of all axes of the mesh
abbrev pub axis_digits : List ℕ → List ℕ → List ℕ → List ℕ → List ℕ
axis_digits mesh [] strides r = r
axis_digits mesh (a ∷ L) strides r = push (get_or mesh a 1) (get_or (cleared L strides) a 0) (axis_digits mesh L strides r)

abbrev pub mesh_digits : List ℕ → List ℕ → List ℕ → List ℕ
mesh_digits [] strides r = r
mesh_digits (s ∷ ss) [] r = r
mesh_digits (s ∷ ss) (z ∷ strides) r = push s z (mesh_digits ss strides r)

-- ---- what the code asks

-- a mesh, and a place for the stride of each of its axes
pub record HasStrides (strides mesh : List ℕ) : Type 0 where
  pub on : OnMesh mesh
  pub places : length strides ≡ length mesh

-- the digits that stand from place `end` on count `inner` words, and leave room for n numbers before them
pub record Front (digits : List ℕ) (end inner n : ℕ) : Type 0 where
  pub room : n ≤ end
  pub inside : end ≤ length digits
  pub count : inner ≡ counted (drop end digits)
  pub filled : 0 < inner

-- before such digits, those of a list of axes, and those of all axes
pub record Axes (digits strides mesh L : List ℕ) (end inner : ℕ) : Type 0 where
  pub front : Front digits end inner (3 * length L)
  pub has : HasStrides strides mesh
  pub of_mesh : (a : ℕ) → In a L → a < length mesh
  pub few : span mesh L * inner ≤ most_room

pub record Devices (digits strides mesh : List ℕ) (end inner : ℕ) : Type 0 where
  pub front : Front digits end inner (3 * length mesh)
  pub has : HasStrides strides mesh
  pub few : product mesh * inner ≤ most_room
