-- C's structs of a sharding and of a step: the numbers that stand for one, every place of them, and what the library takes of a sharding that is given.
-- Assumes nothing.
use Rattle.std.specs.Prelude.{ℕ, ◌+◌, ◌*◌, ◌/◌, ◌%◌, List, [], ◌∷◌, ◌++◌, map, length, get_or, replicate, Option, Some, None}
use Rattle.rules.specs.Lists.{tab, flat}
use Rattle.rules.specs.Limits.{most_axes, most_dims}
use Rattle.rules.specs.Sharding.{Sharding}
use Rattle.rules.specs.PlanFile.{Record}
use Rattle.types.specs.Types.{axes_of, dims_of, four_places}
use Rattle.types.specs.declared.AxisList.{AxisList}
use Rattle.types.specs.declared.Sharding as code
use Rattle.types.specs.declared.Step.{Step}
use Rattle.types.specs.declared.Step.TheVariants as step
use Rattle.records.specs.Forms.{places_at, record_head, record_lists, five_lists, six_places}
use Rattle.marshal.specs.declared.ShardingReply.{ShardingReply}
use Rattle.marshal.specs.declared.StepReply.{StepReply}

-- ---- shardings

-- how many lists a sharding has, and the places of their axes
abbrev pub lists : ℕ
lists = most_dims + 2

abbrev pub places : ℕ
places = lists * most_axes

-- six lists: those of dimensions 0 to 3, no axes past the rank, then the unreduced axes, then the replicated ones
abbrev pub lists_of : Sharding → List (List ℕ)
lists_of s = four_places [] s.dims ++ s.unreduced ∷ s.replicated ∷ []

-- how many axes each list has
abbrev pub list_counts : Sharding → List ℕ
list_counts s = map length (lists_of s)

-- the axes of each list, in six places; places not used are 0
abbrev pub axis_among : List (List ℕ) → ℕ → ℕ
axis_among ls i = get_or (get_or ls (i / most_axes) []) (i % most_axes) 0

abbrev pub axis_in : Sharding → ℕ → ℕ
axis_in s = axis_among (lists_of s)

abbrev pub list_axes : Sharding → List ℕ
list_axes s = tab places (axis_in s)

-- a sharding; and none, beside a refusal
abbrev pub sharding_reply : Sharding → ShardingReply
sharding_reply s = record { counts = list_counts s; axes = list_axes s }

abbrev pub blank_sharding : ShardingReply
blank_sharding = record { counts = replicate lists 0; axes = replicate places 0 }

-- the other way: a sharding that is given has each list with its count as it stands, also one past the places, and its six places
abbrev pub list_in : ShardingReply → ℕ → AxisList
list_in s d = record { count = get_or s.counts d 0; axes = places_at s.axes (most_axes * d); align = [] }

abbrev pub sharding_in : ShardingReply → code.Sharding
sharding_in s = record {
  dims = record { 0 = list_in s 0 ∷ list_in s 1 ∷ list_in s 2 ∷ list_in s 3 ∷ [] };
  unreduced = list_in s 4;
  replicated = list_in s 5;
}

-- ---- steps

-- a step record; and none
abbrev pub step_reply : Record → StepReply
step_reply g = record {
  kind = get_or (record_head g) 0 0;
  source = get_or (record_head g) 1 0;
  target = get_or (record_head g) 2 0;
  counts = map length (record_lists g);
  axes = flat (map six_places (record_lists g));
}

abbrev pub blank_step : StepReply
blank_step = record { kind = 0; source = 0; target = 0; counts = replicate 5 0; axes = replicate 30 0 }

-- its numbers one after the other are the bytes of the record, as the writer takes them
abbrev pub reply_bytes : StepReply → List ℕ
reply_bytes r = r.kind ∷ r.source ∷ r.target ∷ (r.counts ++ r.axes)

-- the same numbers, from a step of the library: its lists by dimension, and its one list
abbrev pub record_reply : (kind source target : ℕ) → (dims : List (List ℕ)) → (list : List ℕ) → StepReply
record_reply kind source target dims list = record {
  kind = kind;
  source = source;
  target = target;
  counts = map length (five_lists dims list);
  axes = tab 30 (axis_among (five_lists dims list));
}

abbrev pub step_numbers : Step → StepReply
step_numbers (step.AllSlice lists) = record_reply 1 0 0 (dims_of lists) []
step_numbers (step.AllGather lists) = record_reply 2 0 0 (dims_of lists) []
step_numbers (step.AllReduce list) = record_reply 3 0 0 [] (axes_of list)
step_numbers (step.AllToAll source target list) = record_reply 4 source.0 target.0 [] (axes_of list)
step_numbers (step.ReduceScatter lists) = record_reply 5 0 0 (dims_of lists) []

-- the same of a place of a plan, which may have no step
abbrev pub step_in_place : Option Step → StepReply
step_in_place (Some t) = step_numbers t
step_in_place None = blank_step
