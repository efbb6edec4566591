-- Document 02, Ask 2: what the writer's definitions promise of themselves. "What is written reads back as the same records, unused places aside, and every
-- accepted file, read and written again, comes out byte for byte." These are statements; proofs/Promises.antt proves them. Assumes nothing.
use Rattle.std.specs.Prelude.{ℕ, ◌≤◌, ◌<◌, ◌≡◌, List, [], ◌∷◌, length, get_or, T}
use Rattle.rules.specs.Mesh.{devices}
use Rattle.rules.specs.Sharding.{Sharding}
use Rattle.rules.specs.Collectives.{Step, all_slice, all_gather, all_reduce, all_to_all, reduce_scatter}
use Rattle.rules.specs.Limits.{most_axes, most_bytes}
use Rattle.rules.specs.Refusals.{accept}
use Rattle.rules.specs.PlanFile.{Record, plain, repeat, some, Plan, judge}
use Rattle.records.specs.Records.{Given, known, unknown, Records, records_of, file_length, file_of}
use Rattle.records.specs.Writing.{judge_records, write_of}

-- numbers of 16 bits, and bytes
abbrev pub Shorts : List ℕ → Type 0
Shorts ks = (i : ℕ) → get_or ks i 0 < 65536

abbrev pub Bytes : List ℕ → Type 0
Bytes file = (j : ℕ) → get_or file j 0 < 256

-- a list for each dimension
abbrev pub RankedStep : ℕ → Step → Type 0
RankedStep rank (all_slice Ss) = length Ss ≡ rank
RankedStep rank (all_gather Gs) = length Gs ≡ rank
RankedStep rank (all_reduce L) = Unit {0}
RankedStep rank (all_to_all source target L) = Unit {0}
RankedStep rank (reduce_scatter Ss) = length Ss ≡ rank

abbrev pub Ranked : ℕ → Given → Type 0
Ranked rank (known (plain t)) = RankedStep rank t
Ranked rank (known (repeat count number)) = Unit {0}
Ranked rank unknown = Unit {0}

abbrev pub AllRanked : ℕ → List Given → Type 0
AllRanked rank [] = Unit {0}
AllRanked rank (g ∷ gs) = Ranked rank g × AllRanked rank gs

-- no more axes in a list than there are places for them
abbrev pub ShortLists : List (List ℕ) → Type 0
ShortLists ls = (d : ℕ) → length (get_or ls d []) ≤ most_axes

pub record ShortSharding (s : Sharding) : Type 0 where
  pub dims : ShortLists s.dims
  pub unreduced : length s.unreduced ≤ most_axes
  pub replicated : length s.replicated ≤ most_axes

abbrev pub ShortStep : Step → Type 0
ShortStep (all_slice Ss) = ShortLists Ss
ShortStep (all_gather Gs) = ShortLists Gs
ShortStep (all_reduce L) = length L ≤ most_axes
ShortStep (all_to_all source target L) = length L ≤ most_axes
ShortStep (reduce_scatter Ss) = ShortLists Ss

abbrev pub ShortGiven : Given → Type 0
ShortGiven (known (plain t)) = ShortStep t
ShortGiven (known (repeat count number)) = Unit {0}
ShortGiven unknown = Unit {0}

abbrev pub AllShort : List Record → Type 0
AllShort [] = Unit {0}
AllShort (g ∷ gs) = ShortGiven (known g) × AllShort gs

-- What every call's records are by their form: 16-bit sizes and device numbers, and lists for each dimension of the table.
pub record Proper (r : Records) : Type 0 where
  pub mesh_shorts : Shorts r.mesh
  pub order_shorts : Shorts r.order
  pub sizes_shorts : Shorts r.sizes
  pub dims_ranked : length r.start.dims ≡ length r.sizes
  pub steps_ranked : AllRanked (length r.sizes) r.steps

-- The bytes of such records are a file: within the limit, and with an order, where one is given, of every device. (An axis, a count, a source or a target
-- past 255 would be no byte, but every such one is refused first.)
pub record Fits (r : Records) : Type 0 where
  pub proper : Proper r
  pub short : file_length r ≤ most_bytes
  pub order_all : T (some r.order) → length r.order ≡ devices r.mesh

-- "Records that the check would refuse get that refusal": the judgement of records, accepted or refused, is the check's of their bytes
abbrev pub FileJudged : Type 0
FileJudged = (r : Records) → Fits r → judge (file_of r) ≡ judge_records r

-- "What is written reads back as the same records"
abbrev pub ReadsBack : Type 0
ReadsBack =
    (r : Records) → Proper r → (out : List ℕ) (n : ℕ) → write_of r out ≡ accept n
    → (p : Plan) × (judge (file_of r) ≡ accept p) × (records_of p ≡ r) × (length (file_of r) ≡ n)

-- "every accepted file, read and written again, comes out byte for byte", into every buffer that is long enough
abbrev pub WrittenAgain : Type 0
WrittenAgain =
    (file : List ℕ) → Bytes file → (p : Plan) → judge file ≡ accept p
    → (file_of (records_of p) ≡ file) × ((out : List ℕ) → length file ≤ length out → write_of (records_of p) out ≡ accept (length file))

-- one meaning keeps one file
abbrev pub OneFile : Type 0
OneFile = (file other : List ℕ) → Bytes file → Bytes other → (p : Plan) → judge file ≡ accept p → judge other ≡ accept p → file ≡ other

pub record RecordsPromise : Type 0 where
  pub file_judged : FileJudged
  pub reads_back : ReadsBack
  pub written_again : WrittenAgain
  pub one_file : OneFile
