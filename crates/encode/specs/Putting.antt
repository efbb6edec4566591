-- What the writing functions leave in a buffer (`Put`), and what they ask of lists: no more axes than there are places, as the judgement has found before
-- (8). Assumes nothing.
use Rattle.std.specs.Prelude.{ℕ, ◌+◌, ◌*◌, ◌≤◌, ◌<◌, ◌≡◌, List, [], ◌∷◌, ◌++◌, length}
use Rattle.std.proofs.lemmas.List.Edits.{sets}
use Rattle.rules.specs.Limits.{most_axes, most_devices, most_dims, most_steps, least_bytes, most_bytes}
use Rattle.rules.specs.Sharding.{Sharding}
use Rattle.types.specs.declared.Sharding as code
use Rattle.records.specs.Records.{u16s_bytes, sharding_bytes, outermost, file_length}
use Rattle.records.specs.Writing.{most_records}
use Rattle.records.specs.RoundTrip.{ShortSharding, ShortGiven}
use Rattle.records.specs.Forms.{sharding_given, record_bytes, record_count, given_at, steps_given, records_given}

-- ---- what is left

-- the bytes were stored from `at` on, those past the buffer's end left out; `r` is the place behind them
pub record Put (entry exit : List ℕ) (at r : ℕ) (bytes : List ℕ) : Type 0 where
  pub is : exit ≡ sets entry at bytes
  pub next : r ≡ at + length bytes

-- a place that no file of as many records as are taken reaches, so that sums of places are safe
abbrev pub farthest : ℕ
farthest = 4000000

-- ---- what is asked

-- each of the records
abbrev pub ShortSteps : (rank : ℕ) → List ℕ → Type 0
ShortSteps rank bytes = (i : ℕ) → i < record_count bytes → ShortGiven (given_at rank bytes (record_bytes * i))

-- What is written as records: within the limits that are judged before. Steps within them may still make a file that is too long.
pub record Encodable (mesh order sizes : List ℕ) (start : code.Sharding) (bytes : List ℕ) : Type 0 where
  pub axes : length mesh ≤ most_axes
  pub devices : length order ≤ most_devices
  pub rank : length sizes ≤ most_dims
  pub records : record_count bytes ≤ most_records
  pub short_start : ShortSharding (sharding_given (length sizes) start)
  pub short_steps : ShortSteps (length sizes) bytes

-- and a file of them: outermost steps within their limit, and its length within the limit and within the buffer
pub record Writable (mesh order sizes : List ℕ) (start : code.Sharding) (bytes out : List ℕ) : Type 0 where
  pub encodable : Encodable mesh order sizes start bytes
  pub few : outermost (steps_given (length sizes) bytes) ≤ most_steps
  pub short : file_length (records_given mesh order sizes start bytes) ≤ most_bytes
  pub room : file_length (records_given mesh order sizes start bytes) ≤ length out

-- ---- parts of the file

-- what stands between the header and the steps
abbrev pub front_bytes : (edition : ℕ) (mesh order sizes : List ℕ) → Sharding → List ℕ
front_bytes e mesh order sizes s = u16s_bytes mesh ++ (u16s_bytes order ++ (u16s_bytes sizes ++ sharding_bytes e s))

-- the header's numbers, by the numbers of axes, of devices in the order, of dimensions and of outermost steps
abbrev pub header_of : (edition n devices rank outer first total : ℕ) → List ℕ
header_of e n devices rank outer first total =
    e ∷ n ∷ rank ∷ outer ∷ least_bytes ∷ (least_bytes + 2 * n + 2 * devices) ∷ (least_bytes + 2 * n + 2 * devices + 2 * rank) ∷ first ∷ total ∷ []
