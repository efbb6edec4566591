-- What stands before the steps, as the code answers it, in the rules' own judgement. A mesh is told by its n sizes, a table by the sizes up to its rank,
-- a sharding by the lists up to the rank; the places past these are free, and nothing reads them. Assumes nothing.
use Rattle.std.specs.Prelude.{ℕ, ◌≡◌, List, Result, IfOk}
use Rattle.rules.specs.Sharding.{Sharding}
use Rattle.rules.specs.Refusals.{Judged, ◌>>◌, need}
use Rattle.types.specs.Answers.{judged_as}
use Rattle.rules.specs.PlanFile.{step_count, judge_start, one_meaning, Front, judge_front}
use Rattle.types.specs.Types.{sharding_of, mesh_of, sizes_of}
use Rattle.types.specs.declared.Refusal.{Refusal}
use Rattle.reader.specs.Reading.{order_in, Counted}
use Rattle.opening.specs.declared.Opening.{Opening}

-- the starting sharding of a file of an edition
unfoldable pub judge_opening : (edition : ℕ) → (mesh sizes : List ℕ) → Sharding → Judged (Unit {0})
unfolding judge_start
judge_opening edition mesh sizes s = do
  judge_start mesh sizes s
  need (one_meaning edition s.replicated) 18

-- an opening of a file, and what an answer stands for
abbrev pub front_of : List ℕ → Opening → Front
front_of file r = record {
  mesh = mesh_of r.mesh;
  order = order_in file r.mesh.n r.devices;
  sizes = sizes_of r.table;
  start = sharding_of r.table.rank r.start;
  next = r.at;
}

abbrev pub open_read : List ℕ → Result Opening Refusal → Judged Front
open_read file r = judged_as (front_of file) r

-- what an opening has beside it
pub record Told (file : List ℕ) (r : Opening) : Type 0 where
  pub counted : Counted r.devices r.mesh r.table
  pub steps_are : r.steps ≡ step_count file

pub record Opened (file : List ℕ) (r : Result Opening Refusal) : Type 0 where
  pub reads : open_read file r ≡ judge_front file
  pub told : IfOk r (λ o. Told file o)
