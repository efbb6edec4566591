-- What the types of the code (src/lib.rt) stand for in the rules, and the values of the code that an answer is made of. Assumes nothing.
use Rattle.std.specs.Prelude.{ℕ, ◌≤◌, ◌≡◌, List, [], map, length, get_or, take, Result, Ok, Err}
use Rattle.rules.specs.Lists.{tab}
use Rattle.rules.specs.Limits.{most_axes, most_devices, most_dims}
use Rattle.rules.specs.Sharding.{Sharding}
use Rattle.rules.specs.Collectives as rules
use Rattle.rules.specs.PlanFile as plan
use Rattle.types.specs.declared.Axis.{Axis}
use Rattle.types.specs.declared.AxisList.{AxisList}
use Rattle.types.specs.declared.Mesh.{Mesh}
use Rattle.types.specs.declared.Table.{Table}
use Rattle.types.specs.declared.DimLists.{DimLists}
use Rattle.types.specs.declared.Sharding as code
use Rattle.types.specs.declared.Kind.{Kind}
use Rattle.types.specs.declared.Kind.TheVariants.{AllSlice, AllGather, AllReduce, AllToAll, ReduceScatter}
use Rattle.types.specs.declared.Reason.{Reason}
use Rattle.types.specs.declared.Reason.TheVariants.{UnknownKind}
use Rattle.types.specs.declared.Step.{Step}
use Rattle.types.specs.declared.Step.TheVariants as step

-- the sizes of a mesh, and those of a table
abbrev pub mesh_of : Mesh → List ℕ
mesh_of m = take m.n m.sizes

abbrev pub sizes_of : Table → List ℕ
sizes_of t = take t.rank t.sizes

-- each size is from 1 to the most devices; so is the size 1 that an axis past the last is read with
pub record Sized (mesh : List ℕ) : Type 0 where
  pub least : (a : ℕ) → 1 ≤ get_or mesh a 1
  pub most : (a : ℕ) → get_or mesh a 1 ≤ most_devices

-- a mesh and a table within their places, and mesh sizes from 1 to the most devices; an accepted file gives it
pub record WithinPlaces (mesh : Mesh) (table : Table) : Type 0 where
  pub axes : mesh.n ≤ most_axes
  pub rank : table.rank ≤ most_dims
  pub sized : Sized (mesh_of mesh)

-- the numbers of axes
unfoldable pub numbers_of : List Axis → List ℕ
numbers_of axes = map (λ (a : Axis). a.0) axes

-- the axes of a list, in order
unfoldable pub axes_of : AxisList → List ℕ
axes_of l = take l.count (map (λ (a : Axis). a.0) l.axes)

-- the lists of all places for a dimension, and the sharding of a table of a rank
unfoldable pub dims_of : DimLists → List (List ℕ)
unfolding axes_of
dims_of l = map axes_of l.0

abbrev pub sharding_of : ℕ → code.Sharding → Sharding
sharding_of rank s = record { dims = take rank (dims_of s.dims); unreduced = axes_of s.unreduced; replicated = axes_of s.replicated }

-- the kind that one of the code stands for, and what a kind byte is read as
abbrev pub kind_meaning : Kind → plan.Kind
kind_meaning AllSlice = plan.AllSlice
kind_meaning AllGather = plan.AllGather
kind_meaning AllReduce = plan.AllReduce
kind_meaning AllToAll = plan.AllToAll
kind_meaning ReduceScatter = plan.ReduceScatter

abbrev pub kind_from : plan.Kind → Result Kind Reason
kind_from plan.AllSlice = Ok AllSlice
kind_from plan.AllGather = Ok AllGather
kind_from plan.AllReduce = Ok AllReduce
kind_from plan.AllToAll = Ok AllToAll
kind_from plan.ReduceScatter = Ok ReduceScatter
kind_from plan.Unknown = Err UnknownKind

abbrev pub kind_read : ℕ → Result Kind Reason → Type 0
kind_read byte r = r ≡ kind_from (plan.kind_of byte)

-- a step of a plan for a table of a rank
abbrev pub step_of : ℕ → Step → rules.Step
step_of rank (step.AllSlice lists) = rules.all_slice (take rank (dims_of lists))
step_of rank (step.AllGather lists) = rules.all_gather (take rank (dims_of lists))
step_of rank (step.AllReduce list) = rules.all_reduce (axes_of list)
step_of rank (step.AllToAll source target list) = rules.all_to_all source.0 target.0 (axes_of list)
step_of rank (step.ReduceScatter lists) = rules.reduce_scatter (take rank (dims_of lists))

-- ---- the other way: every place of an answer is fixed, and those that are not used hold 0

-- an entry for each of four dimensions, z past the list's end
abbrev pub four_places : {A : Type 0} → A → List A → List A
four_places z l = tab most_dims (λ d. get_or l d z)

-- a list of axes, in six places
unfoldable pub list_from : List ℕ → AxisList
list_from l = record { count = length l; axes = tab most_axes (λ i. record { 0 = get_or l i 0 }); align = [] }

-- a list for each of four dimensions, no axes past the rank
unfoldable pub lists_from : List (List ℕ) → DimLists
unfolding list_from
lists_from l = record { 0 = map list_from (four_places [] l) }

-- a sharding; and one that names no axis
abbrev pub sharding_from : Sharding → code.Sharding
sharding_from s = record { dims = lists_from s.dims; unreduced = list_from s.unreduced; replicated = list_from s.replicated }

abbrev pub no_lists : Sharding
no_lists = record { dims = []; unreduced = []; replicated = [] }
