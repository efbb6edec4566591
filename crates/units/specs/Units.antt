-- Document 02, Ask 8, "Plans over a slow line": "a check that is handed each piece, hands its state back, and at the end gives what the check of the whole
-- file gives". A state, what one byte makes of it (`fed`), a piece (`pushed`), and what is answered at the end (`end_of`); `SlowLine` says what is promised.
-- The words moved (Ask 7) are left aside as yet (`unpriced`).
-- A unit is what one reader of the rules takes: the header, the sizes of mesh or table, one number of an order, the starting sharding, one step, the
-- head of a repeat. "The state may not keep the file": it holds the header's 18 bytes and the bytes of the unit that is not whole yet. After each byte
-- the unit's own reader is tried on them; 7 is its answer as long as bytes are missing, any other is final. Assumes nothing.
use Rattle.std.specs.Prelude.{ℕ, zero, suc, ◌+◌, ◌-◌, ◌*◌, max, ◌≡◌, Bool, true, false, not, ◌&&◌, List, [], ◌∷◌, ◌++◌, length, get_or, set, take, replicate, ltb, leb, eqb}
use Rattle.rules.specs.Lists.{pick, in_turn}
use Rattle.rules.specs.Mesh.{devices}
use Rattle.rules.specs.Sharding.{Sharding, shard_sizes}
use Rattle.rules.specs.Collectives.{Step}
use Rattle.rules.specs.Limits.{most_devices, most_words, most_run, most_depth, least_bytes, most_bytes}
use Rattle.rules.specs.Refusals.{Judged, accept, refuse, ◌>>=◌, ◌>>◌, need, need_at}
use Rattle.rules.specs.PlanFile.{u16_at, edition, axis_count, rank_count, step_count, mesh_offset, tensor_offset, sharding_offset, steps_offset, total_length}
use Rattle.rules.specs.PlanFile.{judge_header, judge_header_by, sizes_at, carries_order, carries_replicated, sharding_at, step_at, judge_step, same_sharding, is_repeat}
use Rattle.rules.specs.Calls.{CheckAnswer, check_of}
use Rattle.opening.specs.Opening.{judge_opening}
use Rattle.blocks.specs.Blocks.{Head, head_at, shard_words}

-- ---- the state

-- A repeat whose block is being read: its step number, how often the block is run, how many steps of the list around it come behind it, how many plain
-- steps of that list are run before it, and the sharding before it.
pub record Frame : Type 0 where
  pub number : ℕ
  pub count : ℕ
  pub behind : ℕ
  pub ran : ℕ
  pub sharding : Sharding

-- Where the steps stand: the repeats that are open, innermost first; of the list that is being read, how many steps come behind the one that is next and
-- how many plain steps are run so far; the number of the next kind byte; the most words that a shard had, and the sharding.
pub record Standing : Type 0 where
  pub frames : List Frame
  pub behind : ℕ
  pub ran : ℕ
  pub number : ℕ
  pub largest : ℕ
  pub sharding : Sharding

-- Device numbers of an order so far: how many, which (a mark for each), whether all are below D and none came twice, whether each is its own place.
pub record Numbers : Type 0 where
  pub count : ℕ
  pub marks : List Bool
  pub fine : Bool
  pub plain : Bool

-- What comes next: a unit, nothing more, or nothing that counts, for a test has failed.
pub data Phase : Type 0 where
  in_header : Phase
  in_mesh : Phase
  in_the_order : (mesh : List ℕ) → Numbers → Phase
  in_table : (mesh : List ℕ) → Phase
  in_the_start : (mesh sizes : List ℕ) → Phase
  in_steps : (mesh sizes : List ℕ) → Standing → Phase
  at_end : (mesh sizes : List ℕ) → (largest : ℕ) → Sharding → Phase
  stopped : (reason step : ℕ) → Phase

-- `over`: the end was asked for. `seen` counts the bytes up to one more than the limit.
pub record State : Type 0 where
  pub over : Bool
  pub seen : ℕ
  pub head : List ℕ
  pub unit : List ℕ
  pub phase : Phase

-- ---- what follows a unit that is whole: where `seen` bytes end with it

-- "At each section its offset (6)"
abbrev pub to_table : (head : List ℕ) → (seen : ℕ) → (mesh : List ℕ) → Judged Phase
to_table head seen mesh = do
  need (eqb (tensor_offset head) seen) 6
  accept (in_table mesh)

-- some file of so many bytes that begins with a header: 1 to 5 are judged of the header and the length alone
abbrev pub headed : (head : List ℕ) → (bytes : ℕ) → List ℕ
headed head bytes = take bytes (head ++ replicate bytes 0)

-- The length is known at the end only; until then it is what the header says.
unfoldable pub after_header : (head : List ℕ) → Judged Phase
unfolding u16_at judge_header_by
after_header head = do
  judge_header (headed head (total_length head))
  need (eqb (mesh_offset head) least_bytes) 6
  accept in_mesh

abbrev pub no_numbers : Numbers
no_numbers = record { count = 0; marks = replicate most_devices false; fine = true; plain = true }

abbrev pub mesh_then : (carried : Bool) → (head : List ℕ) → (seen : ℕ) → (mesh : List ℕ) → Judged Phase
mesh_then true head seen mesh = accept (in_the_order mesh no_numbers)
mesh_then false head seen mesh = to_table head seen mesh

unfoldable pub after_mesh : (head : List ℕ) → (seen : ℕ) → (mesh : List ℕ) → Judged Phase
unfolding u16_at
after_mesh head seen mesh = mesh_then (carries_order (edition head)) head seen mesh

-- one number more of an order of n devices
abbrev pub counted : (n : ℕ) → Numbers → ℕ → Numbers
counted n t a = record {
  count = t.count + 1;
  marks = set t.marks a true;
  fine = t.fine && (ltb a n && not (get_or t.marks a false));
  plain = t.plain && eqb a t.count;
}

-- "a rearrangement of 0 to D-1 other than the plain one, else 19, tested .. after 7 for these bytes"
abbrev pub order_then : (more : Bool) → (head : List ℕ) → (seen : ℕ) → (mesh : List ℕ) → Numbers → Judged Phase
order_then true head seen mesh t = accept (in_the_order mesh t)
order_then false head seen mesh t = do
  need (t.fine && not t.plain) 19
  to_table head seen mesh

unfoldable pub after_number : (head : List ℕ) → (seen : ℕ) → (mesh : List ℕ) → Numbers → ℕ → Judged Phase
unfolding u16_at
after_number head seen mesh t a = order_then (ltb (t.count + 1) (devices mesh)) head seen mesh (counted (devices mesh) t a)

unfoldable pub past_table : (head : List ℕ) → (seen : ℕ) → (mesh sizes : List ℕ) → Judged Phase
unfolding u16_at
past_table head seen mesh sizes = do
  need (eqb (sharding_offset head) seen) 6
  accept (in_the_start mesh sizes)

-- so many outermost steps are left
abbrev pub outermost : (mesh sizes : List ℕ) → (left ran number largest : ℕ) → Sharding → Phase
outermost mesh sizes zero ran number largest s = at_end mesh sizes largest s
outermost mesh sizes (suc behind) ran number largest s =
    in_steps mesh sizes (record { frames = []; behind = behind; ran = ran; number = number; largest = largest; sharding = s })

-- The step with number k is done, and so many are left in its list. "The sharding after the block must equal the one before it, .. else 41 at the repeat's
-- number. More than 4,096 plain steps run in all is 43, tested after 41 for the repeat alone and after each outermost step for the plan so far."
unfoldable pub after_step : (mesh sizes : List ℕ) → (number largest : ℕ) → Sharding → List Frame → (k left ran : ℕ) → Judged Phase
unfolding same_sharding
after_step mesh sizes number largest s [] k left ran = do
  need_at k (leb ran most_run) 43
  accept (outermost mesh sizes left ran number largest s)
after_step mesh sizes number largest s (f ∷ frames) k (suc behind) ran =
    accept (in_steps mesh sizes (record { frames = f ∷ frames; behind = behind; ran = ran; number = number; largest = largest; sharding = s }))
after_step mesh sizes number largest s (f ∷ frames) k zero ran = do
  need_at f.number (same_sharding s f.sharding) 41
  need_at f.number (leb (f.count * ran) most_run) 43
  after_step mesh sizes number largest s frames f.number f.behind (f.ran + f.count * ran)

-- 14 to 18, and the steps from the first on
unfoldable pub after_start : (head : List ℕ) → (seen : ℕ) → (mesh sizes : List ℕ) → Sharding → Judged Phase
unfolding u16_at judge_opening
after_start head seen mesh sizes s = do
  need (eqb (steps_offset head) seen) 6
  judge_opening (edition head) mesh sizes s
  accept (outermost mesh sizes (step_count head) 0 1 (shard_words mesh sizes s) s)

unfoldable pub after_plain : (mesh sizes : List ℕ) → Standing → Step → Judged Phase
unfolding judge_step after_step
after_plain mesh sizes q t = do
  s ← judge_step mesh sizes q.number t q.sharding
  after_step mesh sizes (q.number + 1) (max q.largest (shard_words mesh sizes s)) s q.frames q.number q.behind (q.ran + 1)

-- the first of a block's inner steps is next
abbrev pub after_head : (mesh sizes : List ℕ) → Standing → Head → Judged Phase
after_head mesh sizes q h = accept (in_steps mesh sizes (record {
  frames = record { number = q.number; count = h.count; behind = q.behind; ran = q.ran; sharding = q.sharding } ∷ q.frames;
  behind = h.number - 1;
  ran = 0;
  number = q.number + 1;
  largest = q.largest;
  sharding = q.sharding;
}))

-- ---- a byte

-- the bytes of a unit that is not whole, and what comes next
pub record Waiting : Type 0 where
  pub unit : List ℕ
  pub phase : Phase

abbrev pub turned : Judged Phase → Waiting
turned (accept p) = record { unit = []; phase = p }
turned (refuse a k) = record { unit = []; phase = stopped a k }

-- what a unit's reader answers on its bytes so far: 7 waits for more of them
abbrev pub tried : {A : Type 0} → Judged A → Waiting → (A → Judged Phase) → Waiting
tried (accept v) more then = turned (then v)
tried (refuse a k) more then = pick (eqb a 7) more (record { unit = []; phase = stopped a k })

-- a repeat stands in the unit or a plain step; how deep it may nest
abbrev pub depth_in : List Frame → ℕ
depth_in frames = most_depth - length frames

abbrev pub step_in : (repeated : Bool) → (mesh sizes : List ℕ) → Standing → List ℕ → Waiting
step_in true mesh sizes q u =
    tried (head_at (depth_in q.frames) q.number u 1) (record { unit = u; phase = in_steps mesh sizes q }) (after_head mesh sizes q)
step_in false mesh sizes q u =
    tried (step_at (length mesh) (length sizes) q.number u 0) (record { unit = u; phase = in_steps mesh sizes q }) (λ t. after_plain mesh sizes q t.value)

-- one number of an order
abbrev pub number_in : List ℕ → Judged ℕ
number_in u = do
  need (leb 2 (length u)) 7
  accept (u16_at u 0)

-- The unit u, where `seen` bytes end with it. "After the last step 9."
unfoldable pub unit_in : (head : List ℕ) → (seen : ℕ) → List ℕ → Phase → Waiting
unfolding u16_at after_header after_mesh after_number past_table after_start after_plain sizes_at sharding_at step_at head_at
unit_in head seen u in_header =
    tried (need (leb least_bytes (length head)) 7) (record { unit = []; phase = in_header }) (λ t. after_header head)
unit_in head seen u in_mesh =
    tried (sizes_at most_devices 10 11 (axis_count head) 0 u 0) (record { unit = u; phase = in_mesh }) (λ m. after_mesh head seen m.value)
unit_in head seen u (in_the_order mesh t) =
    tried (number_in u) (record { unit = u; phase = in_the_order mesh t }) (after_number head seen mesh t)
unit_in head seen u (in_table mesh) =
    tried (sizes_at most_words 12 13 (rank_count head) 0 u 0) (record { unit = u; phase = in_table mesh }) (λ t. past_table head seen mesh t.value)
unit_in head seen u (in_the_start mesh sizes) =
    tried (sharding_at (carries_replicated (edition head)) (axis_count head) (rank_count head) 0 u 0) (record { unit = u; phase = in_the_start mesh sizes })
    (λ s. after_start head seen mesh sizes s.value)
unit_in head seen u (in_steps mesh sizes q) = step_in (is_repeat u 0) mesh sizes q u
unit_in head seen u (at_end mesh sizes largest s) = record { unit = []; phase = stopped 9 0 }
unit_in head seen u (stopped a k) = record { unit = []; phase = stopped a k }

-- the header's bytes so far
abbrev pub head_from : List ℕ → ℕ → List ℕ
head_from head b = pick (ltb (length head) least_bytes) (head ++ b ∷ []) head

abbrev pub held : Waiting → (seen : ℕ) → (head : List ℕ) → State
held w seen head = record { over = false; seen = seen; head = head; unit = w.unit; phase = w.phase }

-- After the end nothing changes; past the limit nothing more is looked at, for 2 goes first.
abbrev pub fed_if : (stays : Bool) → ℕ → State → State
fed_if true b s = s
fed_if false b s = held (unit_in (head_from s.head b) (s.seen + 1) (s.unit ++ b ∷ []) s.phase) (s.seen + 1) (head_from s.head b)

abbrev pub deaf : State → Bool
deaf s = pick s.over true (ltb most_bytes s.seen)

unfoldable pub fed : ℕ → State → State
unfolding unit_in
fed b s = fed_if (deaf s) b s

-- ---- the three calls

abbrev pub begun : State
begun = record { over = false; seen = 0; head = []; unit = []; phase = in_header }

-- "It must hold however the file was cut, with pieces of no bytes as well."
abbrev pub pushed : State → (piece : List ℕ) → State
pushed s piece = in_turn fed piece s

abbrev pub closed : State → State
closed s = record { over = true; seen = s.seen; head = s.head; unit = s.unit; phase = s.phase }

-- a unit that is not whole is 7
abbrev pub answer_in : (head : List ℕ) → Phase → Judged CheckAnswer
answer_in head (at_end mesh sizes largest s) = accept (record {
  room = devices mesh * largest;
  devices = devices mesh;
  steps = step_count head;
  rank = length sizes;
  sharding = s;
  shard = shard_sizes mesh sizes s.dims;
  moved = 0;
})
answer_in head (stopped a k) = refuse a k
answer_in head in_header = refuse 7 0
answer_in head in_mesh = refuse 7 0
answer_in head (in_the_order mesh t) = refuse 7 0
answer_in head (in_table mesh) = refuse 7 0
answer_in head (in_the_start mesh sizes) = refuse 7 0
answer_in head (in_steps mesh sizes q) = refuse 7 0

-- "Refusals come only at the end, since 1, 2 and 4 go first."
unfoldable pub end_of : State → Judged CheckAnswer
unfolding u16_at judge_header_by
end_of s = do
  judge_header (headed s.head s.seen)
  answer_in s.head s.phase

-- ---- what is promised

-- the check's answer but for the words moved (Ask 7), which are not counted byte by byte yet: 0 stands for them
abbrev pub unpriced : Judged CheckAnswer → Judged CheckAnswer
unpriced (accept a) = accept (record {
  room = a.room;
  devices = a.devices;
  steps = a.steps;
  rank = a.rank;
  sharding = a.sharding;
  shard = a.shard;
  moved = 0;
})
unpriced (refuse n k) = refuse n k

-- the state after these bytes, from the one that the opening call gives
abbrev pub state_after : List ℕ → State
state_after bytes = pushed begun bytes

pub record SlowLine : Type 0 where
  -- "at the end gives what the check of the whole file gives", of files of any length, but for the words moved
  pub answers : (bytes : List ℕ) → end_of (state_after bytes) ≡ unpriced (check_of bytes)
  -- "however the file was cut": of any state; a piece of no bytes changes nothing
  pub cuts : (s : State) (a b : List ℕ) → pushed (pushed s a) b ≡ pushed s (a ++ b)
  pub empty : (s : State) → pushed s [] ≡ s
  -- "A piece handed in after the end changes nothing, and a second end repeats the first one's answer.": of any state
  pub after_end : (s : State) (piece : List ℕ) → pushed (closed s) piece ≡ closed s
  pub again : (s : State) → end_of (closed s) ≡ end_of s
  pub closed_twice : (s : State) → closed (closed s) ≡ closed s
