-- Document 02, Ask 2: a plan given as records, and the bytes of the file that is written of it. Assumes nothing.
use Rattle.std.specs.Prelude.{ℕ, zero, suc, ◌+◌, ◌*◌, ◌/◌, ◌%◌, List, [], ◌∷◌, ◌++◌, map, length, leb}
use Rattle.rules.specs.Lists.{pick}
use Rattle.rules.specs.Mesh.{devices, plain_order}
use Rattle.rules.specs.Sharding.{Sharding}
use Rattle.rules.specs.Collectives.{Step, all_slice, all_gather, all_reduce, all_to_all, reduce_scatter}
use Rattle.rules.specs.Limits.{least_bytes}
use Rattle.rules.specs.PlanFile.{same, some, Record, plain, repeat, Plan}

-- what a step record gives: one of the kinds that there are, or of a kind that there is not
pub data Given : Type 0 where
  known : Record → Given
  unknown : Given

-- "Given mesh, table, sharding and steps as records": a step record for each kind byte, in file order; an order of no numbers is none
pub record Records : Type 0 where
  pub mesh : List ℕ
  pub order : List ℕ
  pub sizes : List ℕ
  pub start : Sharding
  pub steps : List Given

-- the records of a plan; the plain order is not given
abbrev pub records_of : Plan → Records
records_of p = record {
  mesh = p.mesh;
  order = pick (same p.order (plain_order (devices p.mesh))) [] p.order;
  sizes = p.sizes;
  start = p.start;
  steps = map known p.records;
}

-- ---- outermost steps

-- how many steps a record says to stand right inside it
abbrev pub inner_of : Given → ℕ
inner_of (known (plain t)) = 0
inner_of (known (repeat count number)) = number
inner_of unknown = 0

-- The records that stand in no block, where so many are still to come of the blocks that are open; a block that the records end in is one of them.
unfoldable pub outermost_from : (still : ℕ) → List Given → ℕ
outermost_from n [] = 0
outermost_from zero (g ∷ gs) = suc (outermost_from (inner_of g) gs)
outermost_from (suc n) (g ∷ gs) = outermost_from (inner_of g + n) gs

abbrev pub outermost : List Given → ℕ
outermost gs = outermost_from 0 gs

-- ---- the bytes

-- "All 16-bit numbers are little-endian."
abbrev pub u16_bytes : ℕ → List ℕ
u16_bytes k = k % 256 ∷ k / 256 % 256 ∷ []

unfoldable pub u16s_bytes : List ℕ → List ℕ
u16s_bytes [] = []
u16s_bytes (k ∷ ks) = u16_bytes k ++ u16s_bytes ks

-- "A list is a count byte and that many axis bytes."
abbrev pub list_bytes : List ℕ → List ℕ
list_bytes l = length l ∷ l

unfoldable pub lists_bytes : List (List ℕ) → List ℕ
lists_bytes [] = []
lists_bytes (l ∷ ls) = list_bytes l ++ lists_bytes ls

-- "The writer makes edition 1 for an empty list and 2 otherwise." (Ask 3); edition 3 where an order is given (Ask 9)
abbrev pub edition_of : Records → ℕ
edition_of r = pick (some r.order) 3 (pick (some r.start.replicated) 2 1)

-- "The sharding is one list per dimension, then the unreduced list.", then the replicated one, from edition 2 on
unfoldable pub replicated_bytes : (edition : ℕ) → List ℕ → List ℕ
replicated_bytes e l = pick (leb 2 e) (list_bytes l) []

unfoldable pub sharding_bytes : (edition : ℕ) → Sharding → List ℕ
unfolding lists_bytes replicated_bytes
sharding_bytes e s = lists_bytes s.dims ++ (list_bytes s.unreduced ++ replicated_bytes e s.replicated)

-- "A step is a kind byte and its lists"
unfoldable pub step_bytes : Step → List ℕ
unfolding lists_bytes
step_bytes (all_slice Ss) = 1 ∷ lists_bytes Ss
step_bytes (all_gather Gs) = 2 ∷ lists_bytes Gs
step_bytes (all_reduce L) = 3 ∷ list_bytes L
step_bytes (all_to_all source target L) = 4 ∷ source ∷ target ∷ list_bytes L
step_bytes (reduce_scatter Ss) = 5 ∷ lists_bytes Ss

-- "Step kind 9 is a repeat: a count byte .., a byte with the number of inner steps" (Ask 11); of a kind that there is not a byte stands there that is no
-- kind's
unfoldable pub given_bytes : Given → List ℕ
unfolding step_bytes
given_bytes (known (plain t)) = step_bytes t
given_bytes (known (repeat count number)) = 9 ∷ count ∷ number ∷ []
given_bytes unknown = 0 ∷ []

unfoldable pub steps_bytes : List Given → List ℕ
unfolding given_bytes
steps_bytes [] = []
steps_bytes (g ∷ gs) = given_bytes g ++ steps_bytes gs

-- "Every offset is where the section before it ends; the mesh sizes start at 18."
abbrev pub tensor_start : Records → ℕ
tensor_start r = least_bytes + 2 * length r.mesh + 2 * length r.order

abbrev pub sharding_start : Records → ℕ
sharding_start r = tensor_start r + 2 * length r.sizes

unfoldable pub steps_start : Records → ℕ
unfolding sharding_bytes
steps_start r = sharding_start r + length (sharding_bytes (edition_of r) r.start)

unfoldable pub file_length : Records → ℕ
unfolding steps_start steps_bytes
file_length r = steps_start r + length (steps_bytes r.steps)

-- "The header is nine of them: edition, n, rank, step count, offset of mesh sizes, of tensor sizes, of the starting sharding, of the steps, total
-- length."
unfoldable pub header : Records → List ℕ
unfolding outermost_from steps_start file_length
header r =
    edition_of r ∷ length r.mesh ∷ length r.sizes ∷ outermost r.steps ∷ least_bytes ∷ tensor_start r ∷ sharding_start r ∷ steps_start r
    ∷ file_length r ∷ []

-- "Mesh, tensor, sharding and steps", the order right after the mesh sizes
unfoldable pub file_of : Records → List ℕ
unfolding u16s_bytes header sharding_bytes steps_bytes
file_of r =
    u16s_bytes (header r)
    ++ (u16s_bytes r.mesh ++ (u16s_bytes r.order ++ (u16s_bytes r.sizes ++ (sharding_bytes (edition_of r) r.start ++ steps_bytes r.steps))))
