-- The proofs of what specs/WorkedScatters.antt states and of its worked cases. Assumes nothing.
use Rattle.std.specs.Prelude.{ℕ, ◌≡◌, refl, List, [], ◌∷◌, length}
use Rattle.std.proofs.Common.{sym}
use Rattle.rules.specs.Lists.{flat, ascending, All, done, ◌&◌}
use Rattle.rules.specs.Collectives.{Place, all_slice, all_reduce, reduce_scatter, sources, Shards, stepped}
use Rattle.rules.specs.Collectives as changes
use Rattle.rules.specs.Sharding.{Sharding}
use Rattle.rules.specs.PlanFile.{judge_by}
use Rattle.rules.specs.Calls.{check_of, place_of, run_of}
use Rattle.rules.specs.Ledger.{Holds, file_in, file_of}
use Rattle.rules.specs.WorkedScatters.{scatters, ScattersRead}

pub scattered : All Holds scatters
unfolding file_in file_of check_of place_of run_of
scattered =
    refl & refl & refl & refl & refl & refl & refl & refl & refl & refl & refl & refl
    & refl & refl & refl & refl & refl & refl & refl & refl & refl & refl & refl & refl
    & refl & refl & refl & refl & refl & refl & refl & refl & refl & refl & refl & refl
    & refl & refl & refl & refl & refl & refl & refl & refl & refl & refl & refl & refl & refl & refl & refl & refl & refl & done

pub scatters_read : ScattersRead
unfolding file_in file_of judge_by sources check_of
scatters_read = record {
  unknown = refl;
  read = refl;
  in_increasing_order = refl;
  before = refl;
  before_second = refl;
  before_reads = refl;
  without_repeats_same = refl;
}

-- "The words and the shape are those of an all-reduce over all the step's axes in increasing order, then the all-slice with the step's lists", of any words
-- whose sum of one is itself; and so is the sharding
pub scatter-means : (W : Type 0) (addAll : List W → W) → ((w : W) → addAll (w ∷ []) ≡ w) → (mesh : List ℕ) (Ss : List (List ℕ)) (v : Shards W) (x i : List ℕ)
    → (stepped addAll mesh (reduce_scatter Ss) v).words x i
    ≡ (stepped addAll mesh (all_slice Ss) (stepped addAll mesh (all_reduce (ascending (length mesh) (flat Ss))) v)).words x i
unfolding stepped
scatter-means W addAll single mesh Ss v x i = sym (single _)

pub scatter-shards : (Ss : List (List ℕ)) (s : Sharding) → changes.after (reduce_scatter Ss) s ≡ changes.after (all_slice Ss) (changes.after (all_reduce (flat Ss)) s)
unfolding changes.after
scatter-shards Ss s = refl
