-- Document 02, Ask 2: the judgement of records, made of the tests of PlanFile, and what the writer answers and leaves. Assumes nothing.
use Rattle.std.specs.Prelude.{ℕ, not, ◌||◌, List, [], ◌∷◌, ◌++◌, length, drop, leb}
use Rattle.rules.specs.Lists.{pick}
use Rattle.rules.specs.Mesh.{devices, plain_order}
use Rattle.rules.specs.Sharding.{Sharding}
use Rattle.rules.specs.Limits.{most_devices, most_words, most_steps, most_bytes, every_kind}
use Rattle.rules.specs.Refusals.{Judged, accept, refuse, ◌>>=◌, ◌>>◌, need}
use Rattle.rules.specs.PlanFile.{axes_allowed, rank_allowed, judge_sizes, order_allowed, some, judge_start, outermost_at, Plan}
use Rattle.records.specs.Records.{Records, outermost, outermost_from, steps_bytes, file_length, file_of}

-- 8: "list count above n"
unfoldable pub judge_counts : ℕ → List (List ℕ) → Judged (Unit {0})
judge_counts n [] = accept tt
judge_counts n (l ∷ ls) = do
  need (leb (length l) n) 8
  judge_counts n ls

-- a sharding: 8 over all its lists, then 14, 15, 16 axis by axis, then 17
unfoldable pub judge_sharding : (mesh sizes : List ℕ) → Sharding → Judged (Unit {0})
unfolding judge_counts judge_start
judge_sharding mesh sizes s = do
  judge_counts (length mesh) s.dims
  judge_counts (length mesh) (s.unreduced ∷ s.replicated ∷ [])
  judge_start mesh sizes s

-- "An order of no numbers counts as none"; 19 of one that is given
unfoldable pub judge_order : (devices : ℕ) → List ℕ → Judged (Unit {0})
unfolding order_allowed
judge_order n order = need (not (some order) || order_allowed n order) 19

abbrev pub order_of : (devices : ℕ) → List ℕ → List ℕ
order_of n order = pick (some order) order (plain_order n)

-- "Records that the check would refuse get that refusal (5, 8, 10 to 17, 20 to 28), in 01's order.": what stands before the steps
unfoldable pub judge_opening : Records → Judged (Unit {0})
unfolding outermost_from judge_sizes judge_order judge_sharding
judge_opening r = do
  need (axes_allowed (length r.mesh)) 5
  need (rank_allowed (length r.sizes)) 5
  need (leb (outermost r.steps) most_steps) 5
  judge_sizes most_devices 10 11 1 r.mesh
  judge_order (devices r.mesh) r.order
  judge_sizes most_words 12 13 1 r.sizes
  judge_sharding r.mesh r.sizes r.start

-- A step number has 16 bits. Records beyond these are judged too; a refusal there has no number to go with it, and is the byte limit's 2, which a file
-- of so many records passes.
abbrev pub most_records : ℕ
most_records = 65535

abbrev pub step_numbered : {A : Type 0} → Judged A → Judged A
step_numbered (accept a) = accept a
step_numbered (refuse n k) = pick (leb k most_records) (refuse n k) (refuse 2 0)

-- then the steps: their bytes are read and judged as the check does, from the first on. "7 for records that end inside a block" (Ask 11).
unfoldable pub judge_records : Records → Judged Plan
unfolding judge_opening steps_bytes outermost_at
judge_records r = do
  judge_opening r
  ts ← step_numbered (outermost_at every_kind r.mesh r.sizes (steps_bytes r.steps) 0 (outermost r.steps) 1 0 r.start)
  accept (record {
    mesh = r.mesh;
    order = order_of (devices r.mesh) r.order;
    sizes = r.sizes;
    start = r.start;
    records = ts.records;
    steps = ts.steps;
    runs = ts.runs;
  })

-- "a file that would pass the byte limit gets the writer's 2, just before 35" (Ask 11). "A buffer shorter than the file gets a new number 35, after all
-- others, and then nothing is written." It answers the bytes written.
unfoldable pub write_of : Records → (out : List ℕ) → Judged ℕ
unfolding judge_records file_length
write_of r out = do
  judge_records r
  need (leb (file_length r) most_bytes) 2
  need (leb (file_length r) (length out)) 35
  accept (file_length r)

-- "Bytes after the file stay."
abbrev pub write_out : Judged ℕ → Records → (out : List ℕ) → List ℕ
write_out (accept n) r out = file_of r ++ drop n out
write_out (refuse n k) r out = out

unfoldable pub write_leaves : Records → (out : List ℕ) → List ℕ
unfolding write_of file_of
write_leaves r out = write_out (write_of r out) r out
