-- What the reader's answers (src/lib.rt) stand for: the judgements themselves are those of rules/specs/PlanFile.antt.
-- An array is told by its first places, as many as were asked for; what stands in the others is free, and nothing reads them. Assumes nothing.
use Rattle.std.specs.Prelude.{ℕ, ◌+◌, ◌*◌, ◌≡◌, Bool, true, false, List, length, take, Result, IfOk}
use Rattle.rules.specs.Lists.{tab}
use Rattle.rules.specs.Limits.{most_devices}
use Rattle.rules.specs.Mesh.{devices as devices_of, plain_order}
use Rattle.rules.specs.Refusals.{Judged, accept, ◌>>=◌, ◌>>◌}
use Rattle.types.specs.Answers.{judged_as}
use Rattle.rules.specs.PlanFile.{Read, edition, axis_count, rank_count, step_count, mesh_offset, tensor_offset, sharding_offset, steps_offset}
use Rattle.rules.specs.PlanFile.{u16_at, judge_header, judge_header_by, sizes_at, carries_order, order_at, MeshAndTable}
use Rattle.types.specs.Types.{mesh_of, sizes_of}
use Rattle.types.specs.declared.Mesh.{Mesh}
use Rattle.types.specs.declared.Table.{Table}
use Rattle.types.specs.declared.Refusal.{Refusal}
use Rattle.reader.specs.declared.Read as code
use Rattle.reader.specs.declared.Header.{Header}
use Rattle.reader.specs.declared.Sizes.{Sizes}
use Rattle.reader.specs.declared.Shape.{Shape}

-- a value that stands for one of the rules, with where the next byte is; or the refusal
abbrev pub reading : {A B : Type 0} → (A → B) → Result (code.Read A) Refusal → Judged (Read B)
reading {A} f r = judged_as (λ (x : code.Read A). record { value = f x.value; next = x.next }) r

-- ---- the header

-- its numbers by name
abbrev pub numbers_of : List ℕ → Header
numbers_of file = record {
  edition = edition file;
  axes = axis_count file;
  rank = rank_count file;
  steps = step_count file;
  mesh_at = mesh_offset file;
  table_at = tensor_offset file;
  sharding_at = sharding_offset file;
  steps_at = steps_offset file;
}

-- they are judged
unfoldable pub header_of : List ℕ → Judged Header
unfolding judge_header_by
header_of file = do
  judge_header file
  accept (numbers_of file)

-- ---- sizes

-- the sizes that were asked for
abbrev pub first_sizes : {N : ℕ} → ℕ → Sizes N → List ℕ
first_sizes count s = take count s.sizes

-- the order of so many devices, which a file has at a position where it carries one: a function of its bytes, so that no answer holds it
abbrev pub order_of : (carried : Bool) → (devices : ℕ) → List ℕ → ℕ → List ℕ
order_of true devices file at = tab devices (λ i. u16_at file (at + 2 * i))
order_of false devices file at = plain_order devices

-- it stands right after the n sizes of the mesh
abbrev pub order_in : List ℕ → (n devices : ℕ) → List ℕ
order_in file n devices = order_of (carries_order (edition file)) devices file (18 + 2 * n)

-- the mesh section: the n sizes, and where the next byte is after the order
unfoldable pub mesh_at : (carried : Bool) → (n offset : ℕ) → List ℕ → Judged (Read (List ℕ))
unfolding sizes_at order_at
mesh_at carried n offset file = do
  m ← sizes_at most_devices 10 11 n offset file 18
  o ← order_at carried (devices_of m.value) file m.next
  accept (record { value = m.value; next = o.next })

-- D is the product of the mesh sizes; a mesh and a table have as many sizes as they say
pub record Counted (devices : ℕ) (mesh : Mesh) (table : Table) : Type 0 where
  pub devices_are : devices ≡ devices_of (mesh_of mesh)
  pub n_is : mesh.n ≡ length (mesh_of mesh)
  pub rank_is : table.rank ≡ length (sizes_of table)

-- the sizes of mesh and table, with the file's order
abbrev pub shape_of : List ℕ → Shape → MeshAndTable
shape_of file s = record { mesh = mesh_of s.mesh; order = order_in file s.mesh.n s.devices; sizes = sizes_of s.table }

-- an answer tells a judgement: the sizes of mesh and table and where the next byte is, or the refusal
pub record ShapeTells (file : List ℕ) (j : Judged (Read MeshAndTable)) (r : Result (code.Read Shape) Refusal) : Type 0 where
  pub reads : reading (shape_of file) r ≡ j
  pub counted : IfOk r (λ (x : code.Read Shape). Counted x.value.devices x.value.mesh x.value.table)
