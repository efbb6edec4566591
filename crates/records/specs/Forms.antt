-- Document 02, Ask 2: what the arguments of the writer's call stand for. A list counts as many axes as its count says, also where it has fewer places, so
-- that 8 is given for it; step records are bytes. Assumes nothing.
use Rattle.std.specs.Prelude.{ℕ, ◌+◌, ◌*◌, ◌/◌, List, [], ◌∷◌, ◌++◌, map, length, get_or, take, replicate, leb, eqb, Option, Some, None, Result, Ok, Err}
use Rattle.rules.specs.Lists.{tab, pick, flat}
use Rattle.rules.specs.Limits.{most_axes}
use Rattle.rules.specs.Sharding.{Sharding}
use Rattle.rules.specs.Collectives.{all_slice, all_gather, all_reduce, all_to_all, reduce_scatter}
use Rattle.rules.specs.Collectives as rules
use Rattle.rules.specs.PlanFile.{kind_of, Record, plain, repeat}
use Rattle.types.specs.Types.{axes_of, four_places, kind_from}
use Rattle.types.specs.declared.Axis.{Axis}
use Rattle.types.specs.declared.AxisList.{AxisList}
use Rattle.types.specs.declared.DimLists.{DimLists}
use Rattle.types.specs.declared.Sharding as code
use Rattle.types.specs.declared.Kind.{Kind}
use Rattle.types.specs.declared.Kind.TheVariants.{AllSlice, AllGather, AllReduce, AllToAll, ReduceScatter}
use Rattle.types.specs.declared.Reason.{Reason}
use Rattle.types.specs.declared.Step.{Step}
use Rattle.types.specs.declared.Step.TheVariants as step
use Rattle.records.specs.Records.{Given, known, unknown, Records}

-- ---- lists and shardings

unfoldable pub list_given : AxisList → List ℕ
unfolding axes_of
list_given l = pick (leb l.count most_axes) (axes_of l) (replicate l.count 0)

unfoldable pub dims_given : (rank : ℕ) → DimLists → List (List ℕ)
unfolding list_given
dims_given rank l = take rank (map list_given l.0)

abbrev pub sharding_given : (rank : ℕ) → code.Sharding → Sharding
sharding_given rank s = record { dims = dims_given rank s.dims; unreduced = list_given s.unreduced; replicated = list_given s.replicated }

-- ---- step records

-- A record has 38 bytes: kind, source, target, the counts of five lists, and six places for each. The lists by dimension are the first four, a step's one
-- list is the fifth; a repeat has its count in source and its number of inner steps in target.
abbrev pub record_bytes : ℕ
record_bytes = 38

abbrev pub axis_at : List ℕ → ℕ → Axis
axis_at bytes at = record { 0 = get_or bytes at 0 }

abbrev pub places_at : List ℕ → ℕ → List Axis
places_at bytes at =
    axis_at bytes at ∷ axis_at bytes (at + 1) ∷ axis_at bytes (at + 2) ∷ axis_at bytes (at + 3) ∷ axis_at bytes (at + 4) ∷ axis_at bytes (at + 5) ∷ []

abbrev pub list_record : List ℕ → (at list : ℕ) → AxisList
list_record bytes at j = record { count = get_or bytes (at + 3 + j) 0; axes = places_at bytes (at + 8 + 6 * j); align = [] }

abbrev pub lists_record : List ℕ → (at : ℕ) → DimLists
lists_record bytes at = record { 0 = list_record bytes at 0 ∷ list_record bytes at 1 ∷ list_record bytes at 2 ∷ list_record bytes at 3 ∷ [] }

-- a step of a kind, with what the record has for it
abbrev pub step_of_kind : Kind → List ℕ → (at : ℕ) → Step
step_of_kind AllSlice bytes at = step.AllSlice (lists_record bytes at)
step_of_kind AllGather bytes at = step.AllGather (lists_record bytes at)
step_of_kind AllReduce bytes at = step.AllReduce (list_record bytes at 4)
step_of_kind AllToAll bytes at =
    step.AllToAll (record { 0 = get_or bytes (at + 1) 0 }) (record { 0 = get_or bytes (at + 2) 0 }) (list_record bytes at 4)
step_of_kind ReduceScatter bytes at = step.ReduceScatter (lists_record bytes at)

-- none of a kind that there is not
abbrev pub step_if_kind : Result Kind Reason → List ℕ → (at : ℕ) → Option Step
step_if_kind (Ok kind) bytes at = Some (step_of_kind kind bytes at)
step_if_kind (Err reason) bytes at = None

abbrev pub step_record : List ℕ → ℕ → Option Step
step_record bytes at = step_if_kind (kind_from (kind_of (get_or bytes at 0))) bytes at

abbrev pub step_given : (rank : ℕ) → Step → rules.Step
step_given rank (step.AllSlice lists) = all_slice (dims_given rank lists)
step_given rank (step.AllGather lists) = all_gather (dims_given rank lists)
step_given rank (step.AllReduce list) = all_reduce (list_given list)
step_given rank (step.AllToAll source target list) = all_to_all source.0 target.0 (list_given list)
step_given rank (step.ReduceScatter lists) = reduce_scatter (dims_given rank lists)

abbrev pub given_kind : (rank : ℕ) → Option Step → Given
given_kind rank (Some t) = known (plain (step_given rank t))
given_kind rank None = unknown

unfoldable pub given_at : (rank : ℕ) → List ℕ → ℕ → Given
unfolding dims_given
given_at rank bytes at =
    pick (eqb (get_or bytes at 0) 9) (known (repeat (get_or bytes (at + 1) 0) (get_or bytes (at + 2) 0)))
    (given_kind rank (step_record bytes at))

-- as many records as there are whole ones; bytes after the last of them count for nothing
abbrev pub record_count : List ℕ → ℕ
record_count bytes = length bytes / record_bytes

unfoldable pub steps_given : (rank : ℕ) → List ℕ → List Given
unfolding given_at
steps_given rank bytes = tab (record_count bytes) (λ i. given_at rank bytes (record_bytes * i))

abbrev pub records_given : (mesh order sizes : List ℕ) → code.Sharding → (steps : List ℕ) → Records
records_given mesh order sizes start steps = record {
  mesh = mesh;
  order = order;
  sizes = sizes;
  start = sharding_given (length sizes) start;
  steps = steps_given (length sizes) steps;
}

-- ---- the other way: the bytes of a record, every place of them; those that are not used hold 0

-- kind, source and target
abbrev pub record_head : Record → List ℕ
record_head (plain (all_slice Ss)) = 1 ∷ 0 ∷ 0 ∷ []
record_head (plain (all_gather Gs)) = 2 ∷ 0 ∷ 0 ∷ []
record_head (plain (all_reduce L)) = 3 ∷ 0 ∷ 0 ∷ []
record_head (plain (all_to_all source target L)) = 4 ∷ source ∷ target ∷ []
record_head (plain (reduce_scatter Ss)) = 5 ∷ 0 ∷ 0 ∷ []
record_head (repeat count number) = 9 ∷ count ∷ number ∷ []

-- the five lists: those by dimension, then the one
abbrev pub five_lists : List (List ℕ) → List ℕ → List (List ℕ)
five_lists ls l = four_places [] ls ++ l ∷ []

abbrev pub record_lists : Record → List (List ℕ)
record_lists (plain (all_slice Ss)) = five_lists Ss []
record_lists (plain (all_gather Gs)) = five_lists Gs []
record_lists (plain (all_reduce L)) = five_lists [] L
record_lists (plain (all_to_all source target L)) = five_lists [] L
record_lists (plain (reduce_scatter Ss)) = five_lists Ss []
record_lists (repeat count number) = five_lists [] []

-- how many axes each has, then the axes, in six places each
abbrev pub six_places : List ℕ → List ℕ
six_places l = tab most_axes (λ i. get_or l i 0)

abbrev pub form_bytes : (head : List ℕ) → (lists : List (List ℕ)) → List ℕ
form_bytes head lists = head ++ (map length lists ++ flat (map six_places lists))

unfoldable pub record_of : Record → List ℕ
record_of g = form_bytes (record_head g) (record_lists g)

unfoldable pub records_bytes : List Record → List ℕ
unfolding record_of
records_bytes [] = []
records_bytes (g ∷ gs) = record_of g ++ records_bytes gs
