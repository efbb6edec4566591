-- What the functions of the reading call ask of a file, and what they answer of it. Assumes nothing.
use Rattle.std.specs.Prelude.{ℕ, ◌+◌, ◌≤◌, ◌≡◌, List, [], ◌++◌, map, length, drop}
use Rattle.std.proofs.lemmas.List.Edits.{sets}
use Rattle.rules.specs.Limits.{most_dims, most_bytes}
use Rattle.rules.specs.Refusals.{Judged, accept, refuse}
use Rattle.rules.specs.PlanFile.{Record, Plan, judge}
use Rattle.types.specs.Types.{mesh_of, sizes_of, sharding_of}
use Rattle.records.specs.Records.{known, given_bytes, steps_bytes}
use Rattle.records.specs.RoundTrip.{Ranked, AllRanked, ShortGiven, AllShort}
use Rattle.records.specs.Forms.{record_of}
use Rattle.records.specs.Reading.{ReadAnswer}
use Rattle.plan.specs.declared.Whole.{Whole}

-- ---- one record

-- a record's bytes stand in a file at a place; its lists are as many as the rank and have places for their axes
pub record Stands (file : List ℕ) (at rank : ℕ) (g : Record) : Type 0 where
  pub rest : List ℕ
  pub is : drop at file ≡ given_bytes (known g) ++ rest
  pub inside : at ≤ length file
  pub ranked : Ranked rank (known g)
  pub short : ShortGiven (known g)

pub record SomeStands (file : List ℕ) (at rank : ℕ) : Type 0 where
  pub one : Record
  pub stands : Stands file at rank one

-- its 38 bytes were stored from `to` on, and `next` is behind its bytes in the file
pub record Copied (entry exit : List ℕ) (to at next : ℕ) (g : Record) : Type 0 where
  pub is : exit ≡ sets entry to (record_of g)
  pub ends : next ≡ at + length (given_bytes (known g))

abbrev pub Copies : (file : List ℕ) (at rank : ℕ) (entry exit : List ℕ) (to next : ℕ) → Type 0
Copies file at rank entry exit to next = (g : Record) → Stands file at rank g → Copied entry exit to at next g

-- ---- all records

-- those of an accepted file
abbrev pub records_read : Judged Plan → List Record
records_read (accept p) = p.records
records_read (refuse n k) = []

unfoldable pub records_in : List ℕ → List Record
records_in file = records_read (judge file)

-- they stand from a place on up to the file's end, in the form that `Stands` asks of each
pub record StepsStand (file : List ℕ) (at rank : ℕ) : Type 0 where
  pub is : drop at file ≡ steps_bytes (map known (records_in file))
  pub inside : at ≤ length file
  pub ranked : AllRanked rank (map known (records_in file))
  pub short : AllShort (records_in file)
  pub few : rank ≤ most_dims
  pub limited : length file ≤ most_bytes

-- ---- the answer

abbrev pub answer_of : Whole → (order steps : ℕ) → ReadAnswer
answer_of w order steps = record {
  mesh = mesh_of w.mesh;
  sizes = sizes_of w.table;
  start = sharding_of w.table.rank w.start;
  order = order;
  steps = steps;
}
