-- Document 02, Ask 7: the words that cross between devices, by the places that each new word is made from (`sources`), so of the five kinds of step at
-- once and whatever the words are; and the closed forms of one step, which laws/proofs prove it equal to. Assumes nothing.
use Rattle.std.specs.Prelude.{ℕ, ◌+◌, ◌-◌, ◌*◌, ◌/◌, not, List, [], ◌∷◌, map, length, eqb}
use Rattle.rules.specs.Lists.{pick, product, total, mem, keep}
use Rattle.rules.specs.Mesh.{number, devices, span}
use Rattle.rules.specs.Sharding.{Sharding, shard_sizes}
use Rattle.rules.specs.Spread.{tabulate}
use Rattle.rules.specs.Collectives.{
  Step,
  all_slice,
  all_gather,
  all_reduce,
  all_to_all,
  reduce_scatter,
  step_axes,
  after,
  shape_after,
  Place,
  sources,
}
use Rattle.rules.specs.PlanFile.{Plan}

-- ---- what is counted

-- the entries of a list, each once
unfoldable pub once_each : List ℕ → List ℕ
unfolding mem
once_each [] = []
once_each (a ∷ l) = pick (mem a l) (once_each l) (a ∷ once_each l)

-- "For each new word, count the other devices whose word it is made from": of a word of device x, how many devices hold one of the places, x itself left
-- out. A device is told by its place, the row-major number of its coordinates: no order of the devices changes how many there are.
unfoldable pub other_devices : (mesh x : List ℕ) → List Place → ℕ
unfolding keep once_each
other_devices mesh x ps = length (once_each (keep (λ d. not (eqb d (number mesh x))) (map (λ (p : Place). number mesh p.device) ps)))

-- of the word at index i of the new shard of device x, after a step that is given shards of this shape
abbrev pub moved_at : (mesh : List ℕ) → Step → (shape x i : List ℕ) → ℕ
moved_at mesh t shape x i = other_devices mesh x (sources mesh t shape x i)

-- "add over all words"
unfoldable pub moved_by : (mesh : List ℕ) → Step → (shape : List ℕ) → ℕ
unfolding other_devices sources tabulate
moved_by mesh t shape = total (tabulate mesh (shape_after mesh t shape) (moved_at mesh t shape))

-- "and steps": a number of each step and of the sharding that it is given, added up from a sharding on
abbrev pub added_on : (Step → Sharding → ℕ) → Sharding → List Step → ℕ
added_on f s [] = 0
added_on f s (t ∷ ts) = f t s + added_on f (after t s) ts

abbrev pub moved_from : (mesh sizes : List ℕ) → Step → Sharding → ℕ
moved_from mesh sizes t s = moved_by mesh t (shard_sizes mesh sizes s.dims)

-- "The total of Ask 7 adds over them" (Ask 11): the plain steps in running order
unfoldable pub words_moved : Plan → ℕ
unfolding after moved_by
words_moved p = added_on (moved_from p.mesh p.sizes) p.start p.steps

-- ---- the closed forms

-- "with g the group size along all axes of the step and m the shard before it: nothing for all-slice, D·m·(g-1) for all-gather and all-reduce,
-- D·m·(g-1)/g for all-to-all and reduce-scatter"
abbrev pub closed_form : Step → (D m g : ℕ) → ℕ
closed_form (all_slice Ss) D m g = 0
closed_form (all_gather Gs) D m g = D * m * (g - 1)
closed_form (all_reduce L) D m g = D * m * (g - 1)
closed_form (all_to_all source target L) D m g = D * m * (g - 1) / g
closed_form (reduce_scatter Ss) D m g = D * m * (g - 1) / g

unfoldable pub charge_of : (mesh : List ℕ) → Step → (shape : List ℕ) → ℕ
charge_of mesh t shape = closed_form t (devices mesh) (product shape) (span mesh (step_axes t))

abbrev pub charge_from : (mesh sizes : List ℕ) → Step → Sharding → ℕ
charge_from mesh sizes t s = charge_of mesh t (shard_sizes mesh sizes s.dims)

-- "the per-step bound of Ask 7 becomes 1,023 times that" (Ask 12): the most room
abbrev pub most_moved : ℕ
most_moved = 1023 * 67108864
