-- Worked calls of the reading call: every place of its answer, and what the two lent lists hold after it. Assumes nothing.
use Rattle.std.specs.Prelude.{ℕ, ◌≡◌, List, [], ◌∷◌, ◌++◌, map, take, replicate, Ok, Err}
use Rattle.rules.specs.Ledger.{w1, nines}
use Rattle.types.specs.declared.AxisList.{AxisList}
use Rattle.types.specs.declared.Sharding as code
use Rattle.types.specs.declared.Reason.{Reason}
use Rattle.types.specs.declared.Reason.TheVariants.{FileTooShort, NotTail, OutputTooShort}
use Rattle.records.specs.Reading.{read_of, read_leaves_order, read_leaves_steps, opened_of}
use Rattle.records.specs.declared.Opened.{Opened}

-- ---- cases

-- what a read answers, and what its lent lists hold after it
pub record Readout : Type 0 where
  pub answer : Opened
  pub order : List ℕ
  pub steps : List ℕ

abbrev pub readout_of : (file order steps : List ℕ) → Readout
readout_of file order steps = record {
  answer = opened_of (read_of file order steps);
  order = read_leaves_order file order steps;
  steps = read_leaves_steps file order steps;
}

pub data Case : Type 0 where
  read : (file order steps : List ℕ) → Readout → Case

abbrev pub Holds : Case → Type 0
Holds (read file order steps out) = readout_of file order steps ≡ out

-- ---- answers

abbrev pub zeros : ℕ → List ℕ
zeros n = replicate n 0

-- a list of so many axes, by its six places
abbrev pub list_of : (count : ℕ) → (places : List ℕ) → AxisList
list_of count places = record { count = count; axes = map (λ (a : ℕ). record { 0 = a }) places; align = [] }

abbrev pub none : AxisList
none = list_of 0 (zeros 6)

abbrev pub one : (axis : ℕ) → AxisList
one a = list_of 1 (a ∷ zeros 5)

abbrev pub start_of : (d0 d1 d2 d3 unreduced replicated : AxisList) → code.Sharding
start_of d0 d1 d2 d3 unreduced replicated = record {
  dims = record { 0 = d0 ∷ d1 ∷ d2 ∷ d3 ∷ [] };
  unreduced = unreduced;
  replicated = replicated;
}

-- how many mesh and table sizes, device numbers and bytes of step records; the six and the four places of the sizes
abbrev pub opened : (n rank order steps : ℕ) → (mesh table : List ℕ) → code.Sharding → Opened
opened n rank order steps mesh table start = record {
  outcome = Ok (record { n = n; rank = rank; order = order; steps = steps });
  mesh = mesh;
  table = table;
  start = start;
}

-- refused: nothing in any place, and both lists as they were
abbrev pub refused : (file order steps : List ℕ) → Reason → (step : ℕ) → Case
refused file order steps reason step = read file order steps (record {
  answer = record {
    outcome = Err (record { reason = reason; step = step });
    mesh = zeros 6;
    table = zeros 4;
    start = start_of none none none none none none;
  };
  order = order;
  steps = steps;
})

-- a step record: kind, source, target, five counts, then six places for each list. Of a step with a list for its one dimension; of a repeat
abbrev pub first : (kind count : ℕ) → (places : List ℕ) → List ℕ
first kind count places = kind ∷ 0 ∷ 0 ∷ count ∷ (zeros 4 ++ (places ++ zeros 24))

abbrev pub times : (count number : ℕ) → List ℕ
times count number = 9 ∷ count ∷ number ∷ zeros 35

-- ---- files

-- W1's record and answer
abbrev pub gather : List ℕ
gather = 2 ∷ 0 ∷ 0 ∷ 0 ∷ 1 ∷ 0 ∷ 0 ∷ 0 ∷ (zeros 6 ++ (1 ∷ zeros 23))

abbrev pub w1_opened : Opened
w1_opened = opened 2 2 0 38 (2 ∷ 2 ∷ zeros 4) (4 ∷ 4 ∷ 0 ∷ 0 ∷ []) (start_of (one 0) (one 1) none none none none)

-- an all-reduce of axis 1
abbrev pub reducing : List ℕ
reducing =
    0x01 ∷ 0 ∷ 0x02 ∷ 0 ∷ 0x01 ∷ 0 ∷ 0x01 ∷ 0 ∷ 0x12 ∷ 0 ∷ 0x16 ∷ 0 ∷ 0x18 ∷ 0 ∷ 0x1b ∷ 0 ∷ 0x1e ∷ 0 ∷ 3 ∷ 0 ∷ 2 ∷ 0 ∷ 1 ∷ 0
    ∷ 0 ∷ 1 ∷ 1 ∷ 3 ∷ 1 ∷ 1 ∷ []

-- edition 2, with no steps
abbrev pub replicating : List ℕ
replicating =
    0x02 ∷ 0 ∷ 0x02 ∷ 0 ∷ 0x01 ∷ 0 ∷ 0x00 ∷ 0 ∷ 0x12 ∷ 0 ∷ 0x16 ∷ 0 ∷ 0x18 ∷ 0 ∷ 0x1c ∷ 0 ∷ 0x1c ∷ 0 ∷ 4 ∷ 0 ∷ 2 ∷ 0 ∷ 2 ∷ 0
    ∷ 0 ∷ 0 ∷ 1 ∷ 1 ∷ []

-- edition 3: two devices; six devices, and an all-to-all
abbrev pub swapped : List ℕ
swapped =
    0x03 ∷ 0 ∷ 0x01 ∷ 0 ∷ 0x01 ∷ 0 ∷ 0x00 ∷ 0 ∷ 0x12 ∷ 0 ∷ 0x18 ∷ 0 ∷ 0x1a ∷ 0 ∷ 0x1e ∷ 0 ∷ 0x1e ∷ 0 ∷ 2 ∷ 0 ∷ 1 ∷ 0 ∷ 0 ∷ 0 ∷ 8 ∷ 0
    ∷ 1 ∷ 0 ∷ 0 ∷ 0 ∷ []

abbrev pub ordered : List ℕ
ordered =
    0x03 ∷ 0 ∷ 0x03 ∷ 0 ∷ 0x03 ∷ 0 ∷ 0x01 ∷ 0 ∷ 0x12 ∷ 0 ∷ 0x24 ∷ 0 ∷ 0x2a ∷ 0 ∷ 0x31 ∷ 0 ∷ 0x36 ∷ 0 ∷ 3 ∷ 0 ∷ 2 ∷ 0 ∷ 1 ∷ 0
    ∷ 2 ∷ 0 ∷ 4 ∷ 0 ∷ 3 ∷ 0 ∷ 0 ∷ 0 ∷ 5 ∷ 0 ∷ 1 ∷ 0 ∷ 1 ∷ 0 ∷ 4 ∷ 0 ∷ 6 ∷ 0 ∷ 0 ∷ 1 ∷ 1 ∷ 0 ∷ 0 ∷ 1 ∷ 2 ∷ 4 ∷ 1 ∷ 2 ∷ 1 ∷ 1 ∷ []

abbrev pub exchange : List ℕ
exchange = 4 ∷ 1 ∷ 2 ∷ 0 ∷ 0 ∷ 0 ∷ 0 ∷ 1 ∷ (zeros 24 ++ (1 ∷ zeros 5))

abbrev pub ordered_opened : Opened
ordered_opened = opened 3 3 6 38 (3 ∷ 2 ∷ 1 ∷ zeros 3) (1 ∷ 4 ∷ 6 ∷ 0 ∷ []) (start_of none (one 1) none none none (one 2))

-- six axes on the last of four dimensions
abbrev pub full : List ℕ
full =
    0x01 ∷ 0 ∷ 0x06 ∷ 0 ∷ 0x04 ∷ 0 ∷ 0x01 ∷ 0 ∷ 0x12 ∷ 0 ∷ 0x1e ∷ 0 ∷ 0x26 ∷ 0 ∷ 0x2b ∷ 0 ∷ 0x36 ∷ 0 ∷ 1 ∷ 0 ∷ 1 ∷ 0 ∷ 1 ∷ 0 ∷ 1 ∷ 0 ∷ 1 ∷ 0 ∷ 1 ∷ 0
    ∷ 3 ∷ 0 ∷ 5 ∷ 0 ∷ 7 ∷ 0 ∷ 9 ∷ 0 ∷ 0 ∷ 0 ∷ 0 ∷ 0 ∷ 0 ∷ 1 ∷ 0 ∷ 0 ∷ 0 ∷ 6 ∷ 5 ∷ 4 ∷ 3 ∷ 2 ∷ 1 ∷ 0 ∷ []

-- a block in a block in a block
abbrev pub nested : List ℕ
nested =
    0x01 ∷ 0 ∷ 0x03 ∷ 0 ∷ 0x01 ∷ 0 ∷ 0x02 ∷ 0 ∷ 0x12 ∷ 0 ∷ 0x18 ∷ 0 ∷ 0x1a ∷ 0 ∷ 0x1f ∷ 0 ∷ 0x3f ∷ 0 ∷ 2 ∷ 0 ∷ 1 ∷ 0 ∷ 2 ∷ 0 ∷ 8 ∷ 0
    ∷ 3 ∷ 0 ∷ 2 ∷ 1 ∷ 0 ∷ 2 ∷ 3 ∷ 0 ∷ 2 ∷ 1 ∷ 9 ∷ 3 ∷ 3 ∷ 9 ∷ 1 ∷ 1 ∷ 9 ∷ 3 ∷ 2 ∷ 1 ∷ 3 ∷ 0 ∷ 1 ∷ 2 ∷ 2 ∷ 3 ∷ 0 ∷ 1 ∷ 2
    ∷ 1 ∷ 2 ∷ 2 ∷ 0 ∷ 2 ∷ 2 ∷ 2 ∷ 0 ∷ []

-- W1, its gather naming an axis that is no tail: 24
abbrev pub no_tail : List ℕ
no_tail = take 34 w1 ++ 0 ∷ []

-- ---- what is read

abbrev pub reads : List Case
reads =
    -- W1: entries behind what is written stay; lists of exactly that length; a byte less, and no byte
    read w1 (nines 2) (nines 40) (record { answer = w1_opened; order = nines 2; steps = gather ++ nines 2 })
    ∷ read w1 [] (nines 38) (record { answer = w1_opened; order = []; steps = gather })
    ∷ refused w1 (nines 2) (nines 37) OutputTooShort 0
    ∷ refused w1 [] [] OutputTooShort 0
    -- a step's one list is the fifth
    ∷ read reducing [] (nines 39) (record {
      answer = opened 2 1 0 38 (3 ∷ 2 ∷ zeros 4) (1 ∷ zeros 3) (start_of none none none none (one 1) none);
      order = [];
      steps = 3 ∷ 0 ∷ 0 ∷ 0 ∷ 0 ∷ 0 ∷ 0 ∷ 1 ∷ (zeros 24 ++ (1 ∷ zeros 5 ++ nines 1));
    })
    -- every place of a list, of the mesh and of the table
    ∷ read full [] (nines 38) (record {
      answer = opened 6 4 0 38 (replicate 6 1) (3 ∷ 5 ∷ 7 ∷ 9 ∷ []) (start_of none none none none none none);
      order = [];
      steps = 1 ∷ 0 ∷ 0 ∷ 0 ∷ 0 ∷ 0 ∷ 6 ∷ 0 ∷ (zeros 18 ++ (5 ∷ 4 ∷ 3 ∷ 2 ∷ 1 ∷ 0 ∷ zeros 6));
    })
    -- editions 2 and 3: the replicated list; the order, of two numbers and of six. A plan of no steps needs no byte
    ∷ read replicating [] [] (record {
      answer = opened 2 1 0 0 (4 ∷ 2 ∷ zeros 4) (2 ∷ zeros 3) (start_of none none none none none (one 1));
      order = [];
      steps = [];
    })
    ∷ read swapped (nines 3) [] (record {
      answer = opened 1 1 2 0 (2 ∷ zeros 5) (8 ∷ zeros 3) (start_of (one 0) none none none none none);
      order = 1 ∷ 0 ∷ nines 1;
      steps = [];
    })
    ∷ read ordered (nines 6) (nines 38) (record { answer = ordered_opened; order = 2 ∷ 4 ∷ 3 ∷ 0 ∷ 5 ∷ 1 ∷ []; steps = exchange })
    -- 33 where the order is one short, the steps a byte, or both: nothing is written to either
    ∷ refused ordered (nines 5) (nines 38) OutputTooShort 0
    ∷ refused ordered (nines 6) (nines 37) OutputTooShort 0
    ∷ refused ordered (nines 5) (nines 37) OutputTooShort 0
    -- a record for each kind byte, in file order
    ∷ read nested [] (nines 305) (record {
      answer = opened 3 1 0 304 (2 ∷ 1 ∷ 2 ∷ zeros 3) (8 ∷ zeros 3) (start_of (list_of 3 (0 ∷ 2 ∷ 1 ∷ zeros 3)) none none none none none);
      order = [];
      steps = first 2 3 (0 ∷ 2 ∷ 1 ∷ zeros 3) ++ (times 3 3 ++ (times 1 1 ++ (times 3 2 ++ (first 1 3 (0 ∷ 1 ∷ 2 ∷ zeros 3)
          ++ (first 2 3 (0 ∷ 1 ∷ 2 ∷ zeros 3) ++ (first 1 2 (2 ∷ 0 ∷ zeros 4) ++ (first 2 2 (2 ∷ 0 ∷ zeros 4) ++ nines 1)))))));
    })
    ∷ refused nested [] (nines 303) OutputTooShort 0
    -- the check's refusals before 33
    ∷ refused no_tail (nines 2) (nines 40) NotTail 1
    ∷ refused no_tail [] [] NotTail 1
    ∷ refused (nines 17) (nines 2) (nines 40) FileTooShort 0
    ∷ []
