-- Document 02, Ask 6: the factor of a table whose spread is reduced along replicated axes. Assumes nothing.
use Rattle.std.specs.Prelude.{ℕ, ◌*◌, ◌%◌, ◌^◌, List, [], ◌∷◌, take}
use Rattle.rules.specs.Lists.{flat, without}
use Rattle.rules.specs.Mesh.{span}
use Rattle.rules.specs.Sharding.{Sharding, varying}
use Rattle.rules.specs.Collectives.{Step, all_slice, all_gather, all_reduce, all_to_all, reduce_scatter, after}
use Rattle.rules.specs.PlanFile.{Plan}

-- "the starting table multiplied, modulo 2^32, by one factor"
unfoldable pub scaled : ℕ → (table : List ℕ → ℕ) → List ℕ → ℕ
scaled c table i = c * table i % 2 ^ 32

-- the axes that a step reduces
abbrev pub reduced_axes : Step → List ℕ
reduced_axes (all_slice Ss) = []
reduced_axes (all_gather Gs) = []
reduced_axes (all_reduce L) = L
reduced_axes (all_to_all source target L) = []
reduced_axes (reduce_scatter Ss) = flat Ss

-- "the product of the sizes of all axes reduced so far that were replicated just before their own step": of one step, from the sharding before it.
-- Replicated are the axes along which shards do not vary.
abbrev pub step_factor : (mesh : List ℕ) → Step → Sharding → ℕ
step_factor mesh t s = span mesh (without (reduced_axes t) (varying s))

-- "each counted as often as it was so reduced": of steps in turn
abbrev pub factor_of : (mesh : List ℕ) → List Step → Sharding → ℕ
factor_of mesh [] s = 1
factor_of mesh (t ∷ ts) s = step_factor mesh t s * factor_of mesh ts (after t s)

-- of the first k plain steps that a plan runs
unfoldable pub factor_after : Plan → ℕ → ℕ
unfolding after without
factor_after p k = factor_of p.mesh (take k p.steps) p.start
