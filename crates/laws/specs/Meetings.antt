-- Document 02, Ask 14: what two routes need so that they meet (`OneEnd`, `OneSpread`) can be had, and what they leave then is one: four pairs of files, and
-- every table on every start. Statements; proofs/Meetings.antt proves them. Assumes nothing.
use Rattle.std.specs.Prelude.{ℕ, ◌+◌, ◌^◌, ◌≤◌, ◌<◌, ◌≡◌, List, [], ◌∷◌, length, get_or, replicate, take}
use Rattle.rules.specs.Mesh.{number}
use Rattle.rules.specs.Collectives.{Step, all_slice, all_reduce, all_gather, reduce_scatter}
use Rattle.rules.specs.Refusals.{accept}
use Rattle.rules.specs.PlanFile.{Plan, Record, plain, repeat, judge}
use Rattle.rules.specs.Calls.{shards_after, run_of}
use Rattle.rules.specs.Ledger.{file_in, file_of}
use Rattle.rules.specs.WorkedFactors.{one_word, slice_second, gather_second}
use Rattle.rules.specs.WorkedRepeats.{times, reduce, gather}
use Rattle.rules.specs.WorkedRoutes.{scatter}
use Rattle.laws.specs.Demands.{Words, SpreadAt, start_words}
use Rattle.laws.specs.Routes.{last_sharding, OneEnd, OneSpread, NoneUnreduced}

-- the same faithful spread in front of two buffers of any two lengths, of every table of words
abbrev pub Meetable : Type 0
Meetable =
    (file : List ℕ) (p q : Plan) → judge file ≡ accept p → p.start ≡ q.start → (table : List ℕ → ℕ) → ((i : List ℕ) → table i < 2 ^ 32)
    → (len more : ℕ) → start_words p ≤ len
    → (work work' : List ℕ) × (length work ≡ len) × (length work' ≡ start_words p + more) × OneSpread p q work work'

-- ---- pairs of files

-- mesh 2, a table of one word, so many doublings in one block
abbrev pub doubling : ℕ → Plan
doubling n = record {
  mesh = 2 ∷ [];
  order = 0 ∷ 1 ∷ [];
  sizes = 1 ∷ [];
  start = record { dims = [] ∷ []; unreduced = []; replicated = [] };
  records = repeat n 1 ∷ plain (all_reduce (0 ∷ [])) ∷ [];
  steps = replicate n (all_reduce (0 ∷ []));
  runs = n ∷ [];
}

-- factors that differ as numbers and are the same modulo 2 ^ 32
pub record Meeting : Type 0 where
  pub plan_32 : judge (one_word (times 32 (reduce ∷ []) ∷ [])) ≡ accept (doubling 32)
  pub plan_33 : judge (one_word (times 33 (reduce ∷ []) ∷ [])) ≡ accept (doubling 33)
  pub one_end : OneEnd (doubling 32) (doubling 33)
  pub none_unreduced : NoneUnreduced (doubling 32)
  -- the same faithful spread in front of two buffers of unequal lengths, neither of them the room
  pub one_spread : OneSpread (doubling 32) (doubling 33) (7 ∷ 7 ∷ 9 ∷ []) (7 ∷ 7 ∷ 9 ∷ 9 ∷ [])

-- the records of plain steps
abbrev pub plains : List Step → List Record
plains [] = []
plains (t ∷ ts) = plain t ∷ plains ts

-- mesh 2, the devices in the order 1, 0, a table of 2, axis 0 unreduced: summed at once, and by a reduce-scatter and an all-gather
abbrev pub owed : List Step → List ℕ → Plan
owed steps runs = record {
  mesh = 2 ∷ [];
  order = 1 ∷ 0 ∷ [];
  sizes = 2 ∷ [];
  start = record { dims = [] ∷ []; unreduced = 0 ∷ []; replicated = [] };
  records = plains steps;
  steps = steps;
  runs = runs;
}

abbrev pub at_once : Plan
at_once = owed (all_reduce (0 ∷ []) ∷ []) (1 ∷ [])

abbrev pub in_two : Plan
in_two = owed (reduce_scatter ((0 ∷ []) ∷ []) ∷ all_gather ((0 ∷ []) ∷ []) ∷ []) (1 ∷ 1 ∷ [])

abbrev pub owed_file : List (List ℕ) → List ℕ
owed_file steps = file_in 3 (2 ∷ []) (1 ∷ 0 ∷ []) (2 ∷ []) ([] ∷ (0 ∷ []) ∷ [] ∷ []) steps

pub record MeetingOwed : Type 0 where
  pub plan_1 : judge (owed_file (reduce ∷ [])) ≡ accept at_once
  pub plan_2 : judge (owed_file (scatter ∷ gather ∷ [])) ≡ accept in_two
  pub one_end : OneEnd at_once in_two
  pub none_unreduced : NoneUnreduced at_once
  pub one_spread : OneSpread at_once in_two (5 ∷ 6 ∷ 1 ∷ 2 ∷ []) (5 ∷ 6 ∷ 1 ∷ 2 ∷ 9 ∷ [])

-- parts that stay parts: mesh 2x1, a table of one word, axis 0 unreduced to the end; no step, and an all-slice and its all-gather along axis 1
abbrev pub apart : List Step → List ℕ → Plan
apart steps runs = record {
  mesh = 2 ∷ 1 ∷ [];
  order = 0 ∷ 1 ∷ [];
  sizes = 1 ∷ [];
  start = record { dims = [] ∷ []; unreduced = 0 ∷ []; replicated = [] };
  records = plains steps;
  steps = steps;
  runs = runs;
}

abbrev pub stays : Plan
stays = apart [] []

abbrev pub comes_back : Plan
comes_back = apart (all_slice ((1 ∷ []) ∷ []) ∷ all_gather ((1 ∷ []) ∷ []) ∷ []) (1 ∷ 1 ∷ [])

abbrev pub apart_file : List (List ℕ) → List ℕ
apart_file steps = file_of (2 ∷ 1 ∷ []) (1 ∷ []) ([] ∷ (0 ∷ []) ∷ []) steps

pub record MeetingApart : Type 0 where
  pub plan_1 : judge (apart_file []) ≡ accept stays
  pub plan_2 : judge (apart_file (slice_second ∷ gather_second ∷ [])) ≡ accept comes_back
  pub one_end : OneEnd stays comes_back
  pub unreduced_is : (last_sharding stays).unreduced ≡ 0 ∷ []
  pub one_spread : OneSpread stays comes_back (3 ∷ 4 ∷ []) (3 ∷ 4 ∷ [])

-- two starts, two spreads of one table: the sums of `at_once`, and a start that has the table whole
abbrev pub cabled_whole : Plan
cabled_whole = record {
  mesh = 2 ∷ [];
  order = 1 ∷ 0 ∷ [];
  sizes = 2 ∷ [];
  start = record { dims = [] ∷ []; unreduced = []; replicated = [] };
  records = [];
  steps = [];
  runs = [];
}

abbrev pub whole_file : List ℕ
whole_file = file_in 3 (2 ∷ []) (1 ∷ 0 ∷ []) (2 ∷ []) ([] ∷ [] ∷ [] ∷ []) []

abbrev pub six_eight : List ℕ → ℕ
six_eight i = get_or (6 ∷ 8 ∷ []) (number (2 ∷ []) i) 0

pub record MeetingStarts : Type 0 where
  pub plan : judge whole_file ≡ accept cabled_whole
  pub one_end : OneEnd at_once cabled_whole
  pub words : Words (6 ∷ 8 ∷ 6 ∷ 8 ∷ [])
  pub spread : SpreadAt cabled_whole six_eight 0 (shards_after cabled_whole (6 ∷ 8 ∷ 6 ∷ 8 ∷ []) 0).words

-- the statements of Ask 14 put to these pairs: what the two runs leave is one
pub record RoutesMet : Type 0 where
  pub meetable : Meetable
  pub doublings : Meeting
  pub doublings_leave : take 2 (run_of (one_word (times 32 (reduce ∷ []) ∷ [])) (7 ∷ 7 ∷ 9 ∷ []) (9 ∷ 9 ∷ [])).work
      ≡ take 2 (run_of (one_word (times 33 (reduce ∷ []) ∷ [])) (7 ∷ 7 ∷ 9 ∷ 9 ∷ []) (9 ∷ 9 ∷ 9 ∷ [])).work
  pub sums : MeetingOwed
  pub sums_leave : take 4 (run_of (owed_file (reduce ∷ [])) (5 ∷ 6 ∷ 1 ∷ 2 ∷ []) (9 ∷ 9 ∷ 9 ∷ 9 ∷ [])).work
      ≡ take 4 (run_of (owed_file (scatter ∷ gather ∷ [])) (5 ∷ 6 ∷ 1 ∷ 2 ∷ 9 ∷ []) (9 ∷ 9 ∷ 9 ∷ 9 ∷ [])).work
  pub parts : MeetingApart
  pub parts_leave : take 2 (run_of (apart_file []) (3 ∷ 4 ∷ []) (9 ∷ 9 ∷ [])).work
      ≡ take 2 (run_of (apart_file (slice_second ∷ gather_second ∷ [])) (3 ∷ 4 ∷ []) (9 ∷ 9 ∷ [])).work
  pub starts : MeetingStarts
  pub starts_leave : (run_of (owed_file (reduce ∷ [])) (5 ∷ 6 ∷ 1 ∷ 2 ∷ []) (9 ∷ 9 ∷ 9 ∷ 9 ∷ [])).work ≡ (run_of whole_file (6 ∷ 8 ∷ 6 ∷ 8 ∷ []) (9 ∷ 9 ∷ 9 ∷ 9 ∷ [])).work
