-- What the leaves of src/lib.rt ask of sizes, of a place and of a group; what was judged before gives each of them. Assumes nothing.
use Rattle.std.specs.Prelude.{ℕ, ◌<◌, ◌≤◌, List}
use Rattle.rules.specs.Lists.{product}
use Rattle.rules.specs.Mesh.{devices, span, OnMesh}
use Rattle.rules.specs.Limits.{most_words}

-- The sizes of a mesh, or of a shard: none is 0, and their product is at most the words of a table.
pub record Factors (sizes : List ℕ) : Type 0 where
  pub some : 0 < product sizes
  pub few : product sizes ≤ most_words

-- A place on a mesh: the row-major number of coordinates.
pub record IsPlace (mesh : List ℕ) (p : ℕ) : Type 0 where
  pub on : OnMesh mesh
  pub below : p < devices mesh

-- A list of axes, and as many members of a group as the code can count.
pub record Members (mesh L : List ℕ) : Type 0 where
  pub on : OnMesh mesh
  pub few : span mesh L ≤ most_words
