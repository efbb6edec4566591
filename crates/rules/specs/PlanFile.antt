-- Document 01, "The plan file", and "Order" of "Refusal numbers": reading and judging a file, test by test in that order.
-- A file is the list of its bytes; `at` is where the next byte is read. What a reader takes is a parameter of the judgement (`..By`): `judge` is that of
-- the present reader. Assumes nothing.
use Rattle.std.specs.Prelude.{ℕ, zero, suc, ◌+◌, ◌-◌, ◌*◌, Bool, true, false, not, ◌&&◌, ◌||◌, List, [], ◌∷◌, ◌++◌, length, get_or, take, drop, replicate, ltb, leb, eqb}
use Rattle.rules.specs.Lists.{tab, both, flat, pick, in_turn, product, total, largest, mem}
use Rattle.rules.specs.Mesh.{devices, plain_order}
use Rattle.rules.specs.Sharding.{Sharding, varying, named, divisible, shard_sizes}
use Rattle.rules.specs.Collectives.{Step, all_slice, all_gather, all_reduce, all_to_all, reduce_scatter, step_axes, only, sliced, gathered, reduced, after}
use Rattle.rules.specs.Limits.{most_axes, most_dims, most_steps, most_run, most_depth, least_bytes, Reader, present}
use Rattle.rules.specs.Refusals.{Judged, accept, refuse, ◌>>=◌, ◌>>◌, need, need_at}

-- What was read, and where the next byte is.
pub record Read (A : Type 0) : Type 0 where
  pub value : A
  pub next : ℕ

-- ---- the header

-- "All 16-bit numbers are little-endian."
unfoldable pub u16_at : List ℕ → ℕ → ℕ
u16_at file at = get_or file at 0 + get_or file (at + 1) 0 * 256

-- "The header is nine of them: edition, n, rank, step count, offset of mesh sizes, of tensor sizes, of the starting sharding, of the steps,
-- total length."
abbrev pub edition : List ℕ → ℕ
edition file = u16_at file 0

abbrev pub axis_count : List ℕ → ℕ
axis_count file = u16_at file 2

abbrev pub rank_count : List ℕ → ℕ
rank_count file = u16_at file 4

abbrev pub step_count : List ℕ → ℕ
step_count file = u16_at file 6

abbrev pub mesh_offset : List ℕ → ℕ
mesh_offset file = u16_at file 8

abbrev pub tensor_offset : List ℕ → ℕ
tensor_offset file = u16_at file 10

abbrev pub sharding_offset : List ℕ → ℕ
sharding_offset file = u16_at file 12

abbrev pub steps_offset : List ℕ → ℕ
steps_offset file = u16_at file 14

abbrev pub total_length : List ℕ → ℕ
total_length file = u16_at file 16

-- 3: the edition is none of 1 to the latest that the reader knows
abbrev pub edition_known : Reader → ℕ → Bool
edition_known r e = leb 1 e && leb e r.editions

-- 5: "n, rank or step count outside its limits"
abbrev pub axes_allowed : ℕ → Bool
axes_allowed n = leb 1 n && leb n most_axes

abbrev pub rank_allowed : ℕ → Bool
rank_allowed rank = leb 1 rank && leb rank most_dims

-- "Order: 1, 2, 3, 4, 5."
unfoldable pub judge_header_by : Reader → List ℕ → Judged (Unit {0})
unfolding u16_at
judge_header_by r file = do
  need (leb least_bytes (length file)) 1
  need (leb (length file) r.bytes) 2
  need (edition_known r (edition file)) 3
  need (eqb (total_length file) (length file)) 4
  need (axes_allowed (axis_count file)) 5
  need (rank_allowed (rank_count file)) 5
  need (leb (step_count file) most_steps) 5

abbrev pub judge_header : List ℕ → Judged (Unit {0})
judge_header file = judge_header_by present file

-- ---- tests of a list, for 19 and the tests of a step

-- each is below n; each is none of those before, nor of those earlier in the list; two lists are the same
unfoldable pub all_below : ℕ → List ℕ → Bool
all_below n [] = true
all_below n (a ∷ L) = ltb a n && all_below n L

unfoldable pub fresh : List ℕ → List ℕ → Bool
unfolding mem
fresh before [] = true
fresh before (a ∷ L) = not (mem a before) && fresh (a ∷ before) L

unfoldable pub same : List ℕ → List ℕ → Bool
same [] [] = true
same [] (b ∷ M) = false
same (a ∷ L) [] = false
same (a ∷ L) (b ∷ M) = eqb a b && same L M

-- ---- mesh and tensor sizes

-- "each size in turn (zero, then running product)"
unfoldable pub judge_sizes : (most nil_number over_number running : ℕ) → List ℕ → Judged (Unit {0})
judge_sizes most nil_number over_number running [] = accept tt
judge_sizes most nil_number over_number running (n ∷ sizes) = do
  need (ltb 0 n) nil_number
  need (leb (running * n) most) over_number
  judge_sizes most nil_number over_number (running * n) sizes

-- "At each section its offset (6), then its bytes. Mesh and tensor sections: 7 if they don't fit"
unfoldable pub sizes_at : (most nil_number over_number count offset : ℕ) → List ℕ → ℕ → Judged (Read (List ℕ))
unfolding u16_at judge_sizes
sizes_at most nil_number over_number count offset file at = do
  need (eqb offset at) 6
  need (leb (at + 2 * count) (length file)) 7
  judge_sizes most nil_number over_number 1 (tab count (λ i. u16_at file (at + 2 * i)))
  accept (record { value = tab count (λ i. u16_at file (at + 2 * i)); next = at + 2 * count })

-- ---- the order of the devices

-- Document 02, Ask 9: "They are a rearrangement of 0 to D-1 other than the plain one, else 19"
unfoldable pub rearranges : ℕ → List ℕ → Bool
unfolding all_below fresh
rearranges n l = eqb (length l) n && (all_below n l && fresh [] l)

unfoldable pub order_allowed : ℕ → List ℕ → Bool
unfolding rearranges same
order_allowed n l = rearranges n l && not (same l (plain_order n))

-- "Edition 3 files hold, right after the mesh sizes, D 16-bit device numbers", "tested after 11 and after 7 for these bytes. .. Editions 1 and 2 keep
-- plain order."
abbrev pub carries_order : (edition : ℕ) → Bool
carries_order e = leb 3 e

unfoldable pub order_at : (carried : Bool) → (devices : ℕ) → List ℕ → ℕ → Judged (Read (List ℕ))
unfolding u16_at order_allowed
order_at true n file at = do
  need (leb (at + 2 * n) (length file)) 7
  need (order_allowed n (tab n (λ i. u16_at file (at + 2 * i)))) 19
  accept (record { value = tab n (λ i. u16_at file (at + 2 * i)); next = at + 2 * n })
order_at false n file at = accept (record { value = plain_order n; next = at })

-- the sizes of mesh and table, and the order of the devices
pub record MeshAndTable : Type 0 where
  pub mesh : List ℕ
  pub order : List ℕ
  pub sizes : List ℕ

-- "the mesh sizes start at 18": the mesh section of n sizes, with the order where the edition carries one, then the tensor section of one size per
-- dimension
unfoldable pub mesh_and_table_at_by : Reader → (carried : Bool) → (n rank : ℕ) → List ℕ → Judged (Read MeshAndTable)
unfolding u16_at sizes_at order_at
mesh_and_table_at_by r carried n rank file = do
  m ← sizes_at r.devices 10 11 n (mesh_offset file) file 18
  o ← order_at carried (devices m.value) file m.next
  t ← sizes_at r.words 12 13 rank (tensor_offset file) file o.next
  accept (record { value = record { mesh = m.value; order = o.value; sizes = t.value }; next = t.next })

abbrev pub mesh_and_table_at : (carried : Bool) → (n rank : ℕ) → List ℕ → Judged (Read MeshAndTable)
mesh_and_table_at carried n rank file = mesh_and_table_at_by present carried n rank file

-- ---- axis lists

-- "A list is a count byte and that many axis bytes." "A kind or count byte is judged when read."
unfoldable pub list_read_at : (n : ℕ) → List ℕ → ℕ → Judged (Read (List ℕ))
list_read_at n file at = do
  need (ltb at (length file)) 7
  need (leb (get_or file at 0) n) 8
  need (leb (at + 1 + get_or file at 0) (length file)) 7
  accept (record { value = take (get_or file at 0) (drop (at + 1) file); next = at + 1 + get_or file at 0 })

-- one list per dimension
unfoldable pub lists_at : (n rank : ℕ) → List ℕ → ℕ → Judged (Read (List (List ℕ)))
unfolding list_read_at
lists_at n zero file at = accept (record { value = []; next = at })
lists_at n (suc rank) file at = do
  l ← list_read_at n file at
  ls ← lists_at n rank file l.next
  accept (record { value = l.value ∷ ls.value; next = ls.next })

-- ---- the starting sharding

-- "Edition 2 files carry it right after the unreduced list", the list of explicitly replicated axes; "Edition 1 reads as an empty list." "The replicated
-- list is present in edition 3 and may be empty" (Ask 9).
abbrev pub carries_replicated : (edition : ℕ) → Bool
carries_replicated e = leb 2 e

unfoldable pub replicated_at : (carried : Bool) → (n : ℕ) → List ℕ → ℕ → Judged (Read (List ℕ))
unfolding list_read_at
replicated_at true n file at = list_read_at n file at
replicated_at false n file at = accept (record { value = []; next = at })

-- "The sharding is one list per dimension, then the unreduced list.", then the replicated one
unfoldable pub sharding_at : (carried : Bool) → (n rank offset : ℕ) → List ℕ → ℕ → Judged (Read Sharding)
unfolding lists_at list_read_at replicated_at
sharding_at carried n rank offset file at = do
  need (eqb offset at) 6
  ds ← lists_at n rank file at
  u ← list_read_at n file ds.next
  v ← replicated_at carried n file u.next
  accept (record { value = record { dims = ds.value; unreduced = u.value; replicated = v.value }; next = v.next })

-- "14, 15, 16 (all three at one axis before the next)": an axis of an increasing list is at least `low`, one more than the axis before it.
abbrev pub judge_axis : (n low : ℕ) → (before : List ℕ) → ℕ → Judged (Unit {0})
judge_axis n low before a = do
  need (ltb a n) 14
  need (not (mem a before)) 15
  need (leb low a) 16

-- "axis by axis in file order"
unfoldable pub judge_axes : (n : ℕ) → (increasing : Bool) → (low : ℕ) → (before : List ℕ) → List ℕ → Judged (Unit {0})
unfolding mem
judge_axes n increasing low before [] = accept tt
judge_axes n increasing low before (a ∷ axes) = do
  judge_axis n low before a
  judge_axes n increasing (pick increasing (a + 1) 0) (a ∷ before) axes

-- "then 17". The replicated list is judged as the unreduced one is: "strictly increasing (16), naming no axis named before (15)".
unfoldable pub judge_start : List ℕ → List ℕ → Sharding → Judged (Unit {0})
unfolding judge_axes
judge_start mesh sizes s = do
  judge_axes (length mesh) false 0 [] (flat s.dims)
  judge_axes (length mesh) true 0 (flat s.dims) s.unreduced
  judge_axes (length mesh) true 0 (varying s) s.replicated
  need (divisible mesh sizes s.dims) 17

-- a list names an axis
abbrev pub some : List ℕ → Bool
some [] = false
some (a ∷ L) = true

-- 18: "an empty one in edition 2 is refused .., so that one meaning keeps one file"; "18 is for edition 2 only" (Ask 9)
abbrev pub one_meaning : (edition : ℕ) → (replicated : List ℕ) → Bool
one_meaning e L = not (eqb e 2) || some L

-- ---- a step

-- the kinds of step, and of a byte that is none
pub data Kind : Type 0 where
  AllSlice : Kind
  AllGather : Kind
  AllReduce : Kind
  AllToAll : Kind
  ReduceScatter : Kind
  Unknown : Kind

-- "1 all-slice, 2 all-gather (one list per dimension), 3 all-reduce (one list), 4 all-to-all (source byte, target byte, one list)"; "Kind 5, with one
-- list per dimension as in all-slice" (document 02, Ask 5)
abbrev pub kind_of : ℕ → Kind
kind_of b =
    pick (eqb b 1) AllSlice (pick (eqb b 2) AllGather (pick (eqb b 3) AllReduce (pick (eqb b 4) AllToAll (pick (eqb b 5) ReduceScatter Unknown))))

-- what follows the kind byte of step k
unfoldable pub lists_of : (n rank k : ℕ) → List ℕ → ℕ → Kind → Judged (Read Step)
unfolding lists_at list_read_at
lists_of n rank k file at AllSlice = do
  ls ← lists_at n rank file at
  accept (record { value = all_slice ls.value; next = ls.next })
lists_of n rank k file at AllGather = do
  ls ← lists_at n rank file at
  accept (record { value = all_gather ls.value; next = ls.next })
lists_of n rank k file at AllReduce = do
  l ← list_read_at n file at
  accept (record { value = all_reduce l.value; next = l.next })
lists_of n rank k file at AllToAll = do
  need (leb (at + 2) (length file)) 7
  l ← list_read_at n file (at + 2)
  accept (record { value = all_to_all (get_or file at 0) (get_or file (at + 1) 0) l.value; next = l.next })
lists_of n rank k file at ReduceScatter = do
  ls ← lists_at n rank file at
  accept (record { value = reduce_scatter ls.value; next = ls.next })
lists_of n rank k file at Unknown = refuse 20 k

-- "Each step: its bytes (7, 20, 8)"
unfoldable pub step_at : (n rank k : ℕ) → List ℕ → ℕ → Judged (Read Step)
unfolding lists_of
step_at n rank k file at = do
  need (ltb at (length file)) 7
  lists_of n rank k file (at + 1) (kind_of (get_or file at 0))

-- ---- the tests of a step, each over all that it names; a refusal is one number, so the order inside a test cannot be seen

-- 24: "gathered list is not the tail"
abbrev pub is_tail : List ℕ → List ℕ → Bool
is_tail d G = same (drop (length d - length G) d) G

-- 26: "list not strictly increasing"; each axis is at least `low`, one more than the axis before it
unfoldable pub increasing_from : ℕ → List ℕ → Bool
increasing_from low [] = true
increasing_from low (a ∷ L) = leb low a && increasing_from (a + 1) L

-- 27, of an all-reduce: "forbids reducing an axis that splits a dimension or is explicitly replicated. It doesn't forbid an axis that nothing names. So 27
-- for kind 3 is now given only for those two cases" (document 02, Ask 6)
unfoldable pub none_in : List ℕ → List ℕ → Bool
unfolding mem
none_in [] U = true
none_in (a ∷ L) U = not (mem a U) && none_in L U

-- 27, of a reduce-scatter: "all-reduce axis not unreduced". "Kind 5 stays as it is."
unfoldable pub all_in : List ℕ → List ℕ → Bool
unfolding mem
all_in [] U = true
all_in (a ∷ L) U = mem a U && all_in L U

-- 28: "source or target not below the rank, or equal"
abbrev pub two_dims : ℕ → ℕ → ℕ → Bool
two_dims rank source target = ltb source rank && (ltb target rank && not (eqb source target))

-- ---- the judgement of step k, which answers the sharding after it

-- an all-gather off the dimensions' lists, "24 by dimension"; an all-slice on them, "last 25 by dimension": of the present shard sizes
unfoldable pub gather_off : ℕ → List (List ℕ) → Sharding → Judged Sharding
unfolding same gathered
gather_off k Gs s = do
  need_at k (both is_tail s.dims Gs) 24
  accept (gathered Gs s)

unfoldable pub slice_on : (mesh sizes : List ℕ) → ℕ → List (List ℕ) → Sharding → Judged Sharding
unfolding sliced
slice_on mesh sizes k Ss s = do
  need_at k (divisible mesh (shard_sizes mesh sizes s.dims) Ss) 25
  accept (sliced Ss s)

-- "then by kind: 23 in file order, or 24 by dimension, or 26 over the whole list then 27 in file order, or 28 then 24; last 25 by dimension". Of a
-- reduce-scatter: "Each axis must be named once in the step (23, tested over the whole step first) and be unreduced (27, in file order, then 25)."
unfoldable pub judge_kind : (mesh sizes : List ℕ) → ℕ → Step → Sharding → Judged Sharding
unfolding fresh gather_off slice_on increasing_from none_in all_in reduced
judge_kind mesh sizes k (all_slice Ss) s = do
  need_at k (fresh (named s) (flat Ss)) 23
  slice_on mesh sizes k Ss s
judge_kind mesh sizes k (all_gather Gs) s = gather_off k Gs s
judge_kind mesh sizes k (all_reduce L) s = do
  need_at k (increasing_from 0 L) 26
  need_at k (none_in L (flat s.dims ++ s.replicated)) 27
  accept (reduced L s)
judge_kind mesh sizes k (all_to_all source target L) s = do
  need_at k (two_dims (length s.dims) source target) 28
  g ← gather_off k (only (length s.dims) source L) s
  slice_on mesh sizes k (only (length s.dims) target L) g
judge_kind mesh sizes k (reduce_scatter Ss) s = do
  need_at k (fresh [] (flat Ss)) 23
  need_at k (all_in (flat Ss) s.unreduced) 27
  slice_on mesh sizes k Ss (reduced (flat Ss) s)

-- "then 21", "a step names no axis", "then 22 in file order": of the axes that step k names
abbrev pub judge_named : (n k : ℕ) → List ℕ → Judged (Unit {0})
judge_named n k axes = do
  need_at k (some axes) 21
  need_at k (all_below n axes) 22

unfoldable pub judge_step : (mesh sizes : List ℕ) → ℕ → Step → Sharding → Judged Sharding
unfolding all_below judge_kind
judge_step mesh sizes k t s = do
  judge_named (length mesh) k (step_axes t)
  judge_kind mesh sizes k t s

-- ---- repeats (document 02, Ask 11)

-- "Step kind 9 is a repeat: a count byte (the block is run that many times), a byte with the number of inner steps, then those steps": what stands at
-- each kind byte of a file, in file order
pub data Record : Type 0 where
  plain : Step → Record
  repeat : (count number : ℕ) → Record

-- the kind byte of a record
abbrev pub kind_byte : Record → ℕ
kind_byte (plain (all_slice Ss)) = 1
kind_byte (plain (all_gather Gs)) = 2
kind_byte (plain (all_reduce L)) = 3
kind_byte (plain (all_to_all source target L)) = 4
kind_byte (plain (reduce_scatter Ss)) = 5
kind_byte (repeat count number) = 9

-- what was read and judged: the records, the plain steps in running order, the sharding after them, and where the next byte is
pub record StepsRead : Type 0 where
  pub records : List Record
  pub steps : List Step
  pub sharding : Sharding
  pub next : ℕ

-- the judgement of what stands at the kind byte with number k, from a sharding on; and of so many steps one after the other
abbrev pub JudgesStep : Type 0
JudgesStep = (k at : ℕ) → Sharding → Judged StepsRead

abbrev pub JudgesSteps : Type 0
JudgesSteps = (count : ℕ) → JudgesStep

-- "Inner steps are then read and judged in order.": each is read and judged before the next is read. "Step numbers count kind bytes in file order".
unfoldable pub steps_at : JudgesStep → JudgesSteps
steps_at one zero k at s = accept (record { records = []; steps = []; sharding = s; next = at })
steps_at one (suc count) k at s = do
  t ← one k at s
  ts ← steps_at one count (k + length t.records) t.next t.sharding
  accept (record {
    records = t.records ++ ts.records;
    steps = t.steps ++ ts.steps;
    sharding = ts.sharding;
    next = ts.next;
  })

unfoldable pub plain_at : (mesh sizes : List ℕ) → List ℕ → JudgesStep
unfolding step_at judge_step
plain_at mesh sizes file k at s = do
  t ← step_at (length mesh) (length sizes) k file at
  after ← judge_step mesh sizes k t.value s
  accept (record { records = plain t.value ∷ []; steps = t.value ∷ []; sharding = after; next = t.next })

-- "A count or number of 0 is 44, judged when its byte is read"
unfoldable pub positive_at : (k : ℕ) → List ℕ → ℕ → Judged ℕ
positive_at k file at = do
  need (ltb at (length file)) 7
  need_at k (ltb 0 (get_or file at 0)) 44
  accept (get_or file at 0)

-- 41: "The sharding after the block must equal the one before it, list for list"
unfoldable pub same_sharding : (s r : Sharding) → Bool
unfolding same
same_sharding s r = both same s.dims r.dims && (same s.unreduced r.unreduced && same s.replicated r.replicated)

-- A repeat with number k, behind its kind byte. "else 41 at the repeat's number. More than 4,096 plain steps run in all is 43, tested after 41 for the
-- repeat alone". `inner` judges so many inner steps.
unfoldable pub repeat_at : (inner : JudgesSteps) → List ℕ → JudgesStep
unfolding positive_at same_sharding
repeat_at inner file k at s = do
  count ← positive_at k file at
  number ← positive_at k file (at + 1)
  block ← inner number (k + 1) (at + 2) s
  need_at k (same_sharding block.sharding s) 41
  need_at k (leb (count * length block.steps) most_run) 43
  accept (record {
    records = repeat count number ∷ block.records;
    steps = flat (replicate count block.steps);
    sharding = block.sharding;
    next = block.next;
  })

-- a repeat stands at this byte
abbrev pub is_repeat : List ℕ → ℕ → Bool
is_repeat file at = eqb (get_or file at 0) 9

unfoldable pub item_with : (repeated : Bool) → (inner : JudgesSteps) → (mesh sizes : List ℕ) → List ℕ → JudgesStep
unfolding plain_at repeat_at
item_with false inner mesh sizes file k at s = plain_at mesh sizes file k at s
item_with true inner mesh sizes file k at s = repeat_at inner file k (at + 1) s

-- "depth above 4 is 42, tested after both": of the repeat with number k, in place of its inner steps
abbrev pub too_deep : (k : ℕ) → JudgesSteps
too_deep k count k' at s = refuse 42 k

-- A step or a repeat, where repeats may nest so deep. "Those steps .. may be repeats themselves down to depth 4". 20 is for every kind byte that the
-- reader does not know.
unfoldable pub item_at : (known : ℕ → Bool) → (mesh sizes : List ℕ) → List ℕ → (depth : ℕ) → JudgesStep
unfolding item_with steps_at
item_at known mesh sizes file zero k at s = do
  need_at k (known (get_or file at 0)) 20
  item_with (is_repeat file at) (too_deep k) mesh sizes file k at s
item_at known mesh sizes file (suc depth) k at s = do
  need_at k (known (get_or file at 0)) 20
  item_with (is_repeat file at) (steps_at (item_at known mesh sizes file depth)) mesh sizes file k at s

-- what was read and judged of the outermost steps; `runs` has the number of plain steps that each of them runs
pub record Outermost : Type 0 where
  pub records : List Record
  pub steps : List Step
  pub runs : List ℕ
  pub next : ℕ

-- So many outermost steps, where those before them run so many plain steps. "An outermost one is" of depth 1; 43 is "tested .. after each outermost step
-- for the plan so far", with "the outermost step's" number.
unfoldable pub outermost_at : (known : ℕ → Bool) → (mesh sizes : List ℕ) → List ℕ → (ran count k at : ℕ) → Sharding → Judged Outermost
unfolding item_at
outermost_at known mesh sizes file ran zero k at s = accept (record { records = []; steps = []; runs = []; next = at })
outermost_at known mesh sizes file ran (suc count) k at s = do
  t ← item_at known mesh sizes file most_depth k at s
  need_at k (leb (ran + length t.steps) most_run) 43
  ts ← outermost_at known mesh sizes file (ran + length t.steps) count (k + length t.records) t.next t.sharding
  accept (record {
    records = t.records ++ ts.records;
    steps = t.steps ++ ts.steps;
    runs = length t.steps ∷ ts.runs;
    next = ts.next;
  })

-- ---- the whole file

-- what stands before the steps, and where they begin
pub record Front : Type 0 where
  pub mesh : List ℕ
  pub order : List ℕ
  pub sizes : List ℕ
  pub start : Sharding
  pub next : ℕ

-- "Then mesh, tensor, sharding and steps." "Every offset is where the section before it ends"
unfoldable pub judge_front_by : Reader → List ℕ → Judged Front
unfolding u16_at judge_header_by mesh_and_table_at_by sharding_at judge_start
judge_front_by r file = do
  judge_header_by r file
  m ← mesh_and_table_at_by r (carries_order (edition file)) (axis_count file) (rank_count file) file
  s ← sharding_at (carries_replicated (edition file)) (axis_count file) (rank_count file) (sharding_offset file) file m.next
  need (eqb (steps_offset file) s.next) 6
  judge_start m.value.mesh m.value.sizes s.value
  need (one_meaning (edition file) s.value.replicated) 18
  accept (record { mesh = m.value.mesh; order = m.value.order; sizes = m.value.sizes; start = s.value; next = s.next })

abbrev pub judge_front : List ℕ → Judged Front
judge_front file = judge_front_by present file

-- "A plan names a device mesh, a table (tensor), a starting sharding and a list of collectives." The mesh has an order of its devices. The steps are the
-- plain ones in running order; beside them the records of the file, and how many plain steps each outermost step runs.
pub record Plan : Type 0 where
  pub mesh : List ℕ
  pub order : List ℕ
  pub sizes : List ℕ
  pub start : Sharding
  pub records : List Record
  pub steps : List Step
  pub runs : List ℕ

-- "After the last step 9."
unfoldable pub judge_by : Reader → List ℕ → Judged Plan
unfolding u16_at judge_front_by outermost_at
judge_by r file = do
  f ← judge_front_by r file
  ts ← outermost_at r.kinds f.mesh f.sizes file 0 (step_count file) 1 f.next f.start
  need (eqb ts.next (length file)) 9
  accept (record {
    mesh = f.mesh;
    order = f.order;
    sizes = f.sizes;
    start = f.start;
    records = ts.records;
    steps = ts.steps;
    runs = ts.runs;
  })

abbrev pub judge : List ℕ → Judged Plan
judge file = judge_by present file

-- ---- what a plan announces

-- "The sharding announced before the first step is the starting one; after a step it is the one before, its lists changed": after k plain steps run.
unfoldable pub announced : Plan → ℕ → Sharding
unfolding after
announced p k = in_turn after (take k p.steps) p.start

-- "The announced shape is that sharding's shard sizes."
unfoldable pub announced_shape : Plan → ℕ → List ℕ
unfolding announced
announced_shape p k = shard_sizes p.mesh p.sizes (announced p k).dims

-- "The room of a plan is D times the largest m among all its states, start included"; "The room counts states inside blocks" (02, Ask 11).
unfoldable pub largest_shard : Plan → ℕ
unfolding announced_shape
largest_shard p = largest (tab (length p.steps + 1) (λ k. product (announced_shape p k)))

unfoldable pub room : Plan → ℕ
unfolding largest_shard
room p = devices p.mesh * largest_shard p

-- a state: what the plan announces after so many outermost steps
pub record StateAnswer : Type 0 where
  pub mesh : List ℕ
  pub order : List ℕ
  pub sizes : List ℕ
  pub sharding : Sharding
  pub shard : List ℕ

-- "State numbers and the header's step count still count outermost steps.": how many plain steps the first k of them run
unfoldable pub steps_run : Plan → ℕ → ℕ
steps_run p k = total (take k p.runs)

-- 34: "state number above the step count"
unfoldable pub state_of : List ℕ → ℕ → Judged StateAnswer
unfolding judge_by announced announced_shape steps_run
state_of file k = do
  p ← judge file
  need (leb k (length p.runs)) 34
  accept (record {
    mesh = p.mesh;
    order = p.order;
    sizes = p.sizes;
    sharding = announced p (steps_run p k);
    shard = announced_shape p (steps_run p k);
  })
