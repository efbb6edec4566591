-- One step of an accepted plan, given in shards of the announced shape, the buffer that it leaves, whether that is the buffer that it was given, and
-- what it leaves there else. Assumes nothing.
use Rattle.std.specs.Prelude.{ℕ, ◌*◌, ◌≤◌, ◌<◌, ◌≡◌, Bool, true, false, List, ◌++◌, length, drop}
use Rattle.rules.specs.Lists.{flat, product, ascending}
use Rattle.rules.specs.Mesh.{devices, OnMesh}
use Rattle.rules.specs.Sharding.{Sharding, shard_sizes, IsSharding}
use Rattle.rules.specs.Spread.{tabulate, held}
use Rattle.rules.specs.Collectives.{Step, all_slice, all_gather, all_reduce, all_to_all, reduce_scatter, shape_after, sources, made, Shards, with_shards}
use Rattle.sums.specs.Sums.{summed, summed_buffer}
use Rattle.rules.specs.Limits.{most_dims, most_words}
use Rattle.rules.specs.Refusals.{accept}
use Rattle.rules.specs.PlanFile.{judge_step}

-- a step that was accepted of a sharding of a table within the limits, and buffers with room for the old state and for the new one
pub record Stepping (mesh shape : List ℕ) (t : Step) (words old new : ℕ) : Type 0 where
  pub sizes : List ℕ
  pub before : Sharding
  pub number : ℕ
  pub next : Sharding
  pub judged : judge_step mesh sizes number t before ≡ accept next
  pub sharding : IsSharding mesh sizes before
  pub shape_is : shard_sizes mesh sizes before.dims ≡ shape
  pub on : OnMesh mesh
  pub rank_few : length sizes ≤ most_dims
  pub words_pos : 0 < product sizes
  pub words_few : product sizes ≤ most_words
  pub shard_pos : 0 < product shape
  pub shard_few : product shape ≤ most_words
  pub words_are : words ≡ product (shape_after mesh t shape)
  pub old_room : devices mesh * product shape ≤ old
  pub new_room : devices mesh * words ≤ new

-- the new state, as the rules make it, and what was behind it, for elements of any type: addAll is the sum of a group's elements, z is read outside
-- the buffer, which no code does
abbrev pub stepped_buffer : {W : Type 0} → (List W → W) → W → (mesh shape : List ℕ) → Step → ℕ → (old new : List W) → List W
stepped_buffer addAll z mesh shape t words old new =
    tabulate mesh (shape_after mesh t shape) (made addAll (sources mesh t shape) (held z mesh shape old)) ++ drop (devices mesh * words) new

-- whether the state stays in its buffer: a reduction keeps the shape of the shards
abbrev pub in_place : Step → Bool
in_place (all_slice Ss) = false
in_place (all_gather Gs) = false
in_place (all_reduce L) = true
in_place (all_to_all source target L) = false
in_place (reduce_scatter Ss) = false

-- What stands in the buffer of the old state where the new one stands in the other: a reduce-scatter has put each group's sum in place of its first
-- member's shard, every other step has only read.
abbrev pub spent_buffer : {W : Type 0} → (List W → W) → W → (mesh shape : List ℕ) → Step → List W → List W
spent_buffer addAll z mesh shape (all_slice Ss) old = old
spent_buffer addAll z mesh shape (all_gather Gs) old = old
spent_buffer addAll z mesh shape (all_reduce L) old = old
spent_buffer addAll z mesh shape (all_to_all source target L) old = old
spent_buffer addAll z mesh shape (reduce_scatter Ss) old = summed_buffer addAll z mesh shape (ascending (length mesh) (flat Ss)) 1 old

-- the same of any shards that stood in it
abbrev pub spent_shards : {W : Type 0} → (List W → W) → (mesh : List ℕ) → Step → Shards W → List W → List W
spent_shards addAll mesh (all_slice Ss) v old = old
spent_shards addAll mesh (all_gather Gs) v old = old
spent_shards addAll mesh (all_reduce L) v old = old
spent_shards addAll mesh (all_to_all source target L) v old = old
spent_shards addAll mesh (reduce_scatter Ss) v old =
    with_shards mesh (record { shape = v.shape; words = summed addAll mesh (ascending (length mesh) (flat Ss)) 1 v.words }) old
