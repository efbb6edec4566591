-- What the rules promise of themselves: demand 3 over an accepted plan's whole list of steps, that it speaks of something, the room's limit, that the
-- replicated list stays, what repeats come to, the numbers of refusals, the locality of one step, and what groups and sums of words are. These are
-- statements; proofs/Whole.antt, Accepted.antt, Repeats.antt, Refusing.antt, Locality.antt, Groups.antt and Sums.antt prove them. Assumes nothing.
use Rattle.std.specs.Prelude.{ℕ, ◌+◌, ◌*◌, ◌%◌, ◌≤◌, ◌<◌, ◌^◌, max, ◌≡◌, ◌↔◌, ◌⊎◌, Bool, List, [], ◌∷◌, ◌++◌, length, get_or, take, drop, replicate, T}
use Rattle.rules.specs.Lists.{tab, flat, in_turn, product, total, In, Distinct, All, Below}
use Rattle.rules.specs.Mesh.{devices, SameGroup, IsGroup}
use Rattle.rules.specs.Spread.{StateOf, Faithful, add_words, held_by}
use Rattle.rules.specs.Sharding.{Sharding, shard_sizes, IsSharding}
use Rattle.rules.specs.Collectives.{Step, all_reduce, step_axes, WithoutRemainder, reduced, stepped, after}
use Rattle.rules.specs.Limits.{most_run}
use Rattle.rules.specs.Refusals.{accept, refuse}
use Rattle.rules.specs.PlanFile.{
  some,
  all_below,
  increasing_from,
  judge_step,
  Record,
  plain,
  repeat,
  StepsRead,
  JudgesSteps,
  steps_at,
  repeat_at,
  item_at,
  step_count,
  Plan,
  judge,
  announced,
  announced_shape,
  room,
}
use Rattle.rules.specs.Factor.{scaled, factor_after}
use Rattle.rules.specs.Calls.{check_of, place_of, groups_of, groups_ordered_of, shards_after, last_state, Ran, run_of}

-- ---- demand 3

-- every entry of a buffer is a 32-bit word
abbrev pub Words : List ℕ → Type 0
Words buffer = (j : ℕ) → get_or buffer j 0 < 2 ^ 32

-- neither buffer is shorter than the room that the check names
abbrev pub Fits : Plan → (work spare : List ℕ) → Type 0
Fits p work spare = (room p ≤ length work) × (room p ≤ length spare)

-- the state w is a faithful spread of the table under the sharding announced after k plain steps run
abbrev pub SpreadAt : Plan → (table : List ℕ → ℕ) → ℕ → StateOf ℕ → Type 0
SpreadAt p table k w = Faithful add_words p.mesh (announced p k) (announced_shape p k) table w

-- the words that work begins with after a run, as a state in the shape announced last
abbrev pub returned : Plan → Ran → StateOf ℕ
returned p ran = held_by 0 p.order p.mesh (announced_shape p (length p.steps)) ran.work

-- the words of the start's state
abbrev pub start_words : Plan → ℕ
start_words p = devices p.mesh * product (announced_shape p 0)

-- Demand 3, of a plan that the check passed, the words in two buffers, and what a run on them answers and leaves: one claim over the whole list of
-- steps in running order (02, Ask 11: "Demand 3 holds after every plain step run; its list is these steps in running order."). `shards_after p work k` is
-- what step k of them left.
pub record Demand3 (p : Plan) (work spare : List ℕ) (ran : Ran) : Type 0 where
  -- "the run reaches the end exactly when neither buffer is shorter than the room the check named"
  pub ends : (ran.outcome ≡ accept tt) ↔ Fits p work spare
  -- "a run that stops at a short buffer takes no step"
  pub stops : ¬ Fits p work spare → (ran.work ≡ work) × (ran.spare ≡ spare)
  -- every announced sharding is one: no axis twice, and each dimension divides without remainder
  pub shardings : (k : ℕ) → k ≤ length p.steps → IsSharding p.mesh p.sizes (announced p k)
  -- "Before the first step each device has its shard from work, in the start's shard sizes."
  pub starts : shards_after p work 0 ≡ record { shape = announced_shape p 0; words = held_by 0 p.order p.mesh (announced_shape p 0) work }
  -- "Each later step is given the shards that the step before it left."
  pub in_order : (k : ℕ) (t : Step) (rest : List Step) → drop k p.steps ≡ t ∷ rest
      → shards_after p work (k + 1) ≡ stepped add_words p.mesh t (shards_after p work k)
  -- "All-slice divides each size, without remainder": of the shape that the step itself is given
  pub divides : (k : ℕ) (t : Step) (rest : List Step) → drop k p.steps ≡ t ∷ rest → WithoutRemainder p.mesh t (shards_after p work k).shape
  -- "Every step is given and leaves shards of exactly the announced shape."
  pub shapes : (k : ℕ) → k ≤ length p.steps → (shards_after p work k).shape ≡ announced_shape p k
  -- "At the return the work buffer begins with the words that the last step left, word for word as defined.": as a buffer, and as a state
  pub leaves : Fits p work spare → take (length (last_state p work)) ran.work ≡ last_state p work
  pub holds : Fits p work spare → (x i : List ℕ) → Below x p.mesh → Below i (announced_shape p (length p.steps))
      → returned p ran x i ≡ (shards_after p work (length p.steps)).words x i
  -- "With no steps, the first D times m words stay as given."
  pub stays : p.steps ≡ [] → Fits p work spare → take (start_words p) ran.work ≡ take (start_words p) work
  -- "A faithful spread of a table at the start is", "after each step, and at the return of a run that reaches the end, .. a faithful spread, under the
  -- announced sharding, of the starting table multiplied, modulo 2^32, by one factor" (02, Ask 6)
  pub spreads : (table : List ℕ → ℕ) → SpreadAt p table 0 (shards_after p work 0).words
      → (k : ℕ) → k ≤ length p.steps → SpreadAt p (scaled (factor_after p k) table) k (shards_after p work k).words
  pub returns : Fits p work spare → (table : List ℕ → ℕ) → SpreadAt p table 0 (shards_after p work 0).words
      → SpreadAt p (scaled (factor_after p (length p.steps)) table) (length p.steps) (returned p ran)
  -- and where that factor is 1, "of that same table" (01)
  pub same_table : Fits p work spare → (table : List ℕ → ℕ) → SpreadAt p table 0 (shards_after p work 0).words → factor_after p (length p.steps) ≡ 1
      → SpreadAt p table (length p.steps) (returned p ran)

-- "For any plan that the check passed, whatever its steps, and any two buffers": of 32-bit words
abbrev pub WholePlan : Type 0
WholePlan = (file : List ℕ) (p : Plan) → judge file ≡ accept p → (work spare : List ℕ) → Words work → Demand3 p work spare (run_of file work spare)

-- Where every axis that an all-reduce names in the first k plain steps was unreduced just before its step, the factor is 1; so "that same table" of document
-- 01 is what demand 3 says of every plan that 01 accepts.
abbrev pub FactorOne : Type 0
FactorOne =
    (file : List ℕ) (p : Plan) → judge file ≡ accept p → (k : ℕ)
    → ((j : ℕ) (L : List ℕ) (rest : List Step) → j < k → drop j p.steps ≡ all_reduce L ∷ rest → (a : ℕ) → In a L → In a (announced p j).unreduced)
    → factor_after p k ≡ 1

-- 1 times a table is that table, where a buffer of words is a faithful spread of it under an accepted plan's start: all its entries are words then.
abbrev pub TimesOne : Type 0
TimesOne =
    (file : List ℕ) (p : Plan) → judge file ≡ accept p → (table : List ℕ → ℕ) (work : List ℕ) → Words work → SpreadAt p table 0 (shards_after p work 0).words
    → (k : ℕ) (w : StateOf ℕ) → SpreadAt p (scaled 1 table) k w → SpreadAt p table k w

-- Demand 3 speaks of something: every table of words has a work buffer that is a faithful spread of it under an accepted plan's start, unreduced axes
-- or not, of every length from the start's state on; and there are two buffers with the plan's room, work such a spread.
abbrev pub Spreadable : Type 0
Spreadable =
    (file : List ℕ) (p : Plan) → judge file ≡ accept p → (table : List ℕ → ℕ) → ((i : List ℕ) → table i < 2 ^ 32) → (len : ℕ) → start_words p ≤ len
    → (work : List ℕ) × (length work ≡ len) × Words work × SpreadAt p table 0 (shards_after p work 0).words

abbrev pub Startable : Type 0
Startable =
    (file : List ℕ) (p : Plan) → judge file ≡ accept p → (table : List ℕ → ℕ) → ((i : List ℕ) → table i < 2 ^ 32)
    → (work spare : List ℕ) × Fits p work spare × Words work × SpreadAt p table 0 (shards_after p work 0).words

-- 02, Ask 12: "Room is at most 67,108,864 words"
abbrev pub RoomLimit : Type 0
RoomLimit = (file : List ℕ) (p : Plan) → judge file ≡ accept p → room p ≤ 67_108_864

-- 02, Ask 3: "No step changes the list": of every plan, after any number of its steps
abbrev pub ReplicatedStays : Type 0
ReplicatedStays = (p : Plan) (k : ℕ) → (announced p k).replicated ≡ p.start.replicated

-- 02, Ask 6: "27 for kind 3 is now given only for those two cases", an axis that "splits a dimension or is explicitly replicated": of an all-reduce of axes
-- that pass 21, 22 and 26, whatever the sharding; and otherwise it is accepted.
pub record ReducesJudged : Type 0 where
  pub passes : (mesh sizes : List ℕ) (k : ℕ) (L : List ℕ) (s : Sharding) → T (some L) → T (all_below (length mesh) L) → T (increasing_from 0 L)
      → ((a : ℕ) → In a L → ¬ In a (flat s.dims) × ¬ In a s.replicated) → judge_step mesh sizes k (all_reduce L) s ≡ accept (reduced L s)
  pub refused : (mesh sizes : List ℕ) (k : ℕ) (L : List ℕ) (s : Sharding) → T (some L) → T (all_below (length mesh) L) → T (increasing_from 0 L)
      → (a : ℕ) → In a L → In a (flat s.dims) ⊎ In a s.replicated → judge_step mesh sizes k (all_reduce L) s ≡ refuse 27 k

-- ---- repeats (02, Ask 11)

-- "State numbers and the header's step count still count outermost steps."; "More than 4,096 plain steps run in all is 43"
pub record StepsOf (file : List ℕ) (p : Plan) : Type 0 where
  pub outermost : length p.runs ≡ step_count file
  pub all : total p.runs ≡ length p.steps
  pub few : length p.steps ≤ most_run

abbrev pub StepsCounted : Type 0
StepsCounted = (file : List ℕ) (p : Plan) → judge file ≡ accept p → StepsOf file p

-- "a count byte (the block is run that many times)", "The sharding after the block must equal the one before it": an accepted repeat runs its block so
-- many times, and leaves the sharding as it was. After j steps of any round the sharding is that after j steps of the first, so that every round visits
-- the same states, and a step that was accepted in the first is in all.
pub record ComesBack (inner : JudgesSteps) (file : List ℕ) (k at : ℕ) (s : Sharding) (w : StepsRead) : Type 0 where
  pub count : ℕ
  pub number : ℕ
  pub block : StepsRead
  -- the two bytes, and the block's steps as they are judged once
  pub count_is : get_or file at 0 ≡ count
  pub number_is : get_or file (at + 1) 0 ≡ number
  pub block_is : inner number (k + 1) (at + 2) s ≡ accept block
  pub rounds : w.steps ≡ flat (replicate count block.steps)
  pub back : w.sharding ≡ s
  pub visits : (i j : ℕ) → i < count → j ≤ length block.steps
      → in_turn after (take (i * length block.steps + j) w.steps) s ≡ in_turn after (take j block.steps) s

abbrev pub BlocksComeBack : Type 0
BlocksComeBack =
    (known : ℕ → Bool) (mesh sizes file : List ℕ) (depth k at : ℕ) (s : Sharding) (w : StepsRead)
    → repeat_at (steps_at (item_at known mesh sizes file depth)) file k at s ≡ accept w → ComesBack (steps_at (item_at known mesh sizes file depth)) file k at s w

-- the plain steps in file order, each once; the largest of a number of the shardings on a list's way, the first included
abbrev pub one_pass : List Record → List Step
one_pass [] = []
one_pass (plain t ∷ records) = t ∷ one_pass records
one_pass (repeat count number ∷ records) = one_pass records

abbrev pub largest_on : (Sharding → ℕ) → Sharding → List Step → ℕ
largest_on f s [] = f s
largest_on f s (t ∷ ts) = max (f s) (largest_on f (after t s) ts)

-- "The room counts states inside blocks.": one pass through the file meets all states that its running order does
abbrev pub RoomInOnePass : Type 0
RoomInOnePass =
    (file : List ℕ) (p : Plan) → judge file ≡ accept p
    → room p ≡ devices p.mesh * largest_on (λ s. product (shard_sizes p.mesh p.sizes s.dims)) p.start (one_pass p.records)

-- ---- refusals

-- the numbers of a file's refusals outside its steps, and inside them
abbrev pub file_numbers : List ℕ
file_numbers = tab 19 (λ i. i + 1)

abbrev pub step_numbers : List ℕ
step_numbers = tab 9 (λ i. i + 20) ++ tab 4 (λ i. i + 41)

-- "A refusal is a reason together with a step number, counted from 1; the step number is 0 for every refusal outside 20 to 28." "Step numbers count kind
-- bytes in file order, and 41 to 44 carry one" (02, Ask 11): refusal n with step k has one of the numbers, outside the steps, or is inside one of so
-- many steps. A kind byte is a byte of the file.
abbrev pub Numbered : (numbers : List ℕ) → (steps n k : ℕ) → Type 0
Numbered numbers steps n k = (In n numbers × (k ≡ 0)) ⊎ (In n step_numbers × (1 ≤ k) × (k ≤ steps))

-- the refusals of the calls, on any input
pub record RefusalNumbers : Type 0 where
  pub check : (file : List ℕ) (n k : ℕ) → check_of file ≡ refuse n k → Numbered file_numbers (length file) n k
  pub place : (file : List ℕ) (state device n k : ℕ) → place_of file state device ≡ refuse n k → Numbered (32 ∷ 34 ∷ file_numbers) (length file) n k
  pub groups : (mesh axes out : List ℕ) (n k : ℕ) → groups_of mesh axes out ≡ refuse n k → Numbered (5 ∷ 10 ∷ 11 ∷ 14 ∷ 15 ∷ 33 ∷ []) 0 n k
  pub groups_ordered : (mesh order axes out : List ℕ) (n k : ℕ) → groups_ordered_of mesh order axes out ≡ refuse n k
      → Numbered (5 ∷ 10 ∷ 11 ∷ 19 ∷ 14 ∷ 15 ∷ 33 ∷ []) 0 n k
  pub run : (file work spare : List ℕ) (n k : ℕ) → (run_of file work spare).outcome ≡ refuse n k → Numbered (30 ∷ 31 ∷ file_numbers) (length file) n k

-- ---- one step, groups, sums

-- "A device's new shard after one step depends on no word outside its group along the step's axes. Two buffers that agree on that group give that
-- device the same shard.": of step k + 1 of an accepted plan, for words of every type.
abbrev pub new_words : {W : Type 0} → (List W → W) → Plan → ℕ → Step → StateOf W → StateOf W
new_words addAll p k t w = (stepped addAll p.mesh t (record { shape = announced_shape p k; words = w })).words

abbrev pub Locality : Type 1
Locality =
    (file : List ℕ) (p : Plan) → judge file ≡ accept p → (k : ℕ) (t : Step) (rest : List Step) → drop k p.steps ≡ t ∷ rest
    → (W : Type 0) (addAll : List W → W) (v w : StateOf W) (x : List ℕ) → Below x p.mesh
    → ((y i : List ℕ) → Below y p.mesh → Below i (announced_shape p k) → SameGroup (step_axes t) x y → v y i ≡ w y i)
    → (i : List ℕ) → Below i (announced_shape p (k + 1)) → new_words addAll p k t v x i ≡ new_words addAll p k t w x i

-- "For a list of distinct axes, two devices are in one group when their coordinates agree on every axis outside the list": the group of a device by
-- position is all of these, each once.
abbrev pub GroupByPosition : Type 0
GroupByPosition =
    (mesh L : List ℕ) → Distinct L → ((a : ℕ) → In a L → a < length mesh) → (x : List ℕ) → Below x mesh → IsGroup mesh L x

-- "the word_by_word sum, modulo 2^32"
abbrev pub SumOfWords : Type 0
SumOfWords = (l : List ℕ) → All (λ w. w < 2 ^ 32) l → add_words l ≡ total l % 2 ^ 32
