-- Document 02, Ask 7: the words moved, of single words, of each kind of step, and of whole files. The tables of the ledger and beside it have the number
-- of every file that passes. Assumes nothing.
use Rattle.std.specs.Prelude.{ℕ, ◌≡◌, List, [], ◌∷◌, map, replicate}
use Rattle.rules.specs.Lists.{tab}
use Rattle.rules.specs.Collectives.{Place, all_slice, all_gather, all_reduce, all_to_all, reduce_scatter}
use Rattle.rules.specs.Refusals.{Judged, accept, ◌>>=◌}
use Rattle.rules.specs.Calls.{check_of, run_of}
use Rattle.rules.specs.Moved.{other_devices, moved_at, moved_by, charge_of, most_moved}
use Rattle.rules.specs.Ledger.{file_of, w1, w8, nines}
use Rattle.rules.specs.WorkedRepeats.{times, square, slice_rows, to_columns, gather_columns}
use Rattle.rules.specs.WorkedOrders.{third}
use Rattle.rules.specs.WorkedScatters.{picture, scatter}

-- a mesh of three devices in one group, and 2x3; words at index 0 of these devices of the three
abbrev pub row : List ℕ
row = 3 ∷ []

abbrev pub grid : List ℕ
grid = 2 ∷ 3 ∷ []

abbrev pub words_of : List ℕ → List Place
words_of ds = map (λ (d : ℕ). record { device = d ∷ []; index = 0 ∷ [] }) ds

-- the number that the check answers
abbrev pub moved_of : List ℕ → Judged ℕ
moved_of file = ◌>>=◌ (check_of file) (λ c. accept c.moved)

pub record MovesCounted : Type 0 where
  -- "count the other devices whose word it is made from": of a word of device 1, its own is not counted, and a device counts once
  pub none : other_devices row (1 ∷ []) [] ≡ 0
  pub own : other_devices row (1 ∷ []) (words_of (1 ∷ [])) ≡ 0
  pub others : other_devices row (1 ∷ []) (words_of (0 ∷ 1 ∷ 2 ∷ [])) ≡ 2
  pub each_once : other_devices row (1 ∷ []) (words_of (2 ∷ 0 ∷ 1 ∷ 2 ∷ 2 ∷ [])) ≡ 2
  -- word by word, of device 1: all but its own part of what it gathers, and of what it gets in an all-to-all
  pub word_by_word : tab 6 (λ j. moved_at row (all_gather ((0 ∷ []) ∷ [])) (2 ∷ []) (1 ∷ []) (j ∷ [])) ≡ 1 ∷ 1 ∷ 0 ∷ 0 ∷ 1 ∷ 1 ∷ []
  pub word_by_word_to_all : tab 3 (λ j. moved_at row (all_to_all 0 1 (0 ∷ [])) (1 ∷ 3 ∷ []) (1 ∷ []) (j ∷ 0 ∷ [])) ≡ 1 ∷ 0 ∷ 1 ∷ []
  -- "nothing for all-slice"
  pub slice : moved_by row (all_slice ((0 ∷ []) ∷ [])) (6 ∷ []) ≡ 0
  -- "D·m·(g-1) for all-gather": m is the shard before it, 2 words, not the 6 after it; along all axes of the step, one in each dimension; D is all devices,
  -- where only groups of two, or of three, are gathered
  pub gather : moved_by row (all_gather ((0 ∷ []) ∷ [])) (2 ∷ []) ≡ 12
  pub gather_both : moved_by grid (all_gather ((1 ∷ []) ∷ (0 ∷ []) ∷ [])) (1 ∷ 1 ∷ []) ≡ 30
  pub gather_first : moved_by grid (all_gather ((0 ∷ []) ∷ [])) (1 ∷ []) ≡ 6
  pub gather_last : moved_by grid (all_gather ((1 ∷ []) ∷ [])) (1 ∷ []) ≡ 12
  -- "and all-reduce"
  pub reduce : moved_by row (all_reduce (0 ∷ [])) (2 ∷ []) ≡ 12
  pub reduce_last : moved_by grid (all_reduce (1 ∷ [])) (2 ∷ []) ≡ 24
  -- "D·m·(g-1)/g for all-to-all and reduce-scatter": of each device's 3 words, 2 come from others; each of the sums, one word on each device, from 2 others
  pub to_all_moves : moved_by row (all_to_all 0 1 (0 ∷ [])) (1 ∷ 3 ∷ []) ≡ 6
  pub to_all_both : moved_by grid (all_to_all 1 0 (1 ∷ 0 ∷ [])) (6 ∷ 1 ∷ []) ≡ 30
  pub scatter_row : moved_by row (reduce_scatter ((0 ∷ []) ∷ [])) (3 ∷ []) ≡ 6
  pub scatter_both_moves : moved_by grid (reduce_scatter ((1 ∷ []) ∷ (0 ∷ []) ∷ [])) (3 ∷ 2 ∷ []) ≡ 30
  -- an axis of size 1 makes groups of one device
  pub alone : moved_by (1 ∷ 3 ∷ []) (all_gather ((0 ∷ []) ∷ [])) (2 ∷ []) ≡ 0
  -- the closed forms by themselves: g is the group's size, not D, and the product is divided as a whole
  pub charged_slice : charge_of row (all_slice ((0 ∷ []) ∷ [])) (6 ∷ []) ≡ 0
  pub charged_gather : charge_of grid (all_gather ((1 ∷ []) ∷ [])) (1 ∷ []) ≡ 12
  pub charged_to_all : charge_of grid (all_to_all 1 0 (1 ∷ [])) (6 ∷ 1 ∷ []) ≡ 24
  -- and at the limits: "1,023 times" 67,108,864, with 1,024 devices in one group and a table of 65,536 words
  pub charged : charge_of (1024 ∷ []) (all_reduce (0 ∷ [])) (256 ∷ 256 ∷ []) ≡ 68_652_367_872
  pub charged_scatter : charge_of (1024 ∷ []) (reduce_scatter ((0 ∷ []) ∷ [] ∷ [])) (1024 ∷ 64 ∷ []) ≡ 67_043_328
  pub most_is : most_moved ≡ 68_652_367_872
  -- W1, W8, the picture of 000
  pub w1_moves : moved_of w1 ≡ accept 16
  pub w8_moves : moved_of w8 ≡ accept 2
  pub picture_moves : moved_of (picture (scatter ∷ [])) ≡ accept 4
  -- "add over all words and steps", with blocks in each of their rounds
  pub once : moved_of (square (times 1 (slice_rows ∷ to_columns ∷ gather_columns ∷ []) ∷ [])) ≡ accept 6
  pub thrice : moved_of (square (times 3 (slice_rows ∷ to_columns ∷ gather_columns ∷ []) ∷ [])) ≡ accept 18
  pub nested : moved_of (square (times 2 (times 3 (slice_rows ∷ to_columns ∷ gather_columns ∷ []) ∷ []) ∷ [])) ≡ accept 36
  -- whatever the order of the devices: mesh 2x2, table of 4, split along axis 1 and then 0, gathered
  pub ordered : moved_of (third (1 ∷ 0 ∷ []) [] ((2 ∷ 2 ∷ 1 ∷ 0 ∷ []) ∷ [])) ≡ accept 12
  pub plain_order_moves : moved_of (file_of (2 ∷ 2 ∷ []) (4 ∷ []) ((1 ∷ 0 ∷ []) ∷ [] ∷ []) ((2 ∷ 2 ∷ 1 ∷ 0 ∷ []) ∷ [])) ≡ accept 12
  -- whatever the words are, and however long the buffers. "A refused run moves nothing and says 0.": a buffer too short, and a plan that does not pass
  pub runs : (run_of w1 (nines 32) (nines 32)).moved ≡ 16
  pub longer : (run_of w1 (replicate 40 0) (nines 33)).moved ≡ 16
  pub short : (run_of w1 (nines 31) (nines 32)).moved ≡ 0
  pub refused : (run_of (2 ∷ []) [] []).moved ≡ 0
