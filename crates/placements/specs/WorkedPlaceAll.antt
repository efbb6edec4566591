-- Worked placements of lists of devices, as a table in the form of the ledger: what the call answers, beside it the place, and what the lent list holds after.
-- Assumes nothing.
use Rattle.std.specs.Prelude.{ℕ, ◌≡◌, List, [], ◌∷◌, ◌++◌, length, Ok, Err}
use Rattle.types.specs.Answers.{refusal_of}
use Rattle.rules.specs.Ledger.{file_in, w1, w4, nines}
use Rattle.placements.specs.PlaceAll.{place_all_leaves, placed_all_of}
use Rattle.placements.specs.declared.PlacedAll.{PlacedAll}

-- what is given, then what is answered and left
pub record Case : Type 0 where
  pub file : List ℕ
  pub state : ℕ
  pub devices : List ℕ
  pub out : List ℕ
  pub answer : PlacedAll
  pub left : List ℕ

abbrev pub Holds : Case → Type 0
Holds c = (placed_all_of c.file c.state c.devices c.out ≡ c.answer) × (place_all_leaves c.file c.state c.devices c.out ≡ c.left)

-- placed, with these first indexes, and two entries behind them stay; refused, and nothing is written
abbrev pub places : (file : List ℕ) → (state : ℕ) → (devices firsts : List ℕ) → (room : ℕ) → Case
places file state devices firsts room = record {
  file = file;
  state = state;
  devices = devices;
  out = nines room ++ nines 2;
  answer = record { outcome = Ok tt; place = 0 };
  left = firsts ++ nines 2;
}

abbrev pub exactly : (file : List ℕ) → (state : ℕ) → (devices firsts : List ℕ) → Case
exactly file state devices firsts = record {
  file = file;
  state = state;
  devices = devices;
  out = nines (length firsts);
  answer = record { outcome = Ok tt; place = 0 };
  left = firsts;
}

abbrev pub refuses : (file : List ℕ) → (state : ℕ) → (devices : List ℕ) → (room number step place : ℕ) → Case
refuses file state devices room number step place = record {
  file = file;
  state = state;
  devices = devices;
  out = nines room;
  answer = record { outcome = Err (refusal_of number step); place = place };
  left = nines room;
}

-- mesh 3x2 in the order 0 2 4 1 3 5 (document 02, Ask 9), a table of 6x4 split along both axes
abbrev pub cabled : List ℕ
cabled = file_in 3 (3 ∷ 2 ∷ []) (0 ∷ 2 ∷ 4 ∷ 1 ∷ 3 ∷ 5 ∷ []) (6 ∷ 4 ∷ []) ((0 ∷ []) ∷ (1 ∷ []) ∷ [] ∷ [] ∷ []) []

abbrev pub cases : List Case
cases =
    -- W4's four devices in one call, and in another order with one device twice: "repeats of a device included"
    places (w4 []) 0 (0 ∷ 1 ∷ 2 ∷ 3 ∷ []) (0 ∷ 2 ∷ 1 ∷ 3 ∷ []) 4
    ∷ places (w4 []) 0 (3 ∷ 1 ∷ 3 ∷ []) (3 ∷ 2 ∷ 3 ∷ []) 3
    -- "as many per device as the rank": W1 at the start and after its step
    ∷ places w1 0 (0 ∷ 3 ∷ 1 ∷ []) (0 ∷ 0 ∷ 2 ∷ 2 ∷ 0 ∷ 2 ∷ []) 6
    ∷ places w1 1 (0 ∷ 3 ∷ 1 ∷ []) (0 ∷ 0 ∷ 2 ∷ 0 ∷ 0 ∷ 0 ∷ []) 6
    -- devices in an order of their own
    ∷ places cabled 0 (0 ∷ 1 ∷ 2 ∷ 3 ∷ 4 ∷ 5 ∷ []) (0 ∷ 0 ∷ 2 ∷ 2 ∷ 0 ∷ 2 ∷ 4 ∷ 0 ∷ 2 ∷ 0 ∷ 4 ∷ 2 ∷ []) 12
    -- "An empty list is accepted and writes nothing"
    ∷ places w1 0 [] [] 0
    -- an output that is just long enough; more devices in the list than there are
    ∷ exactly w1 0 (0 ∷ 3 ∷ []) (0 ∷ 0 ∷ 2 ∷ 2 ∷ [])
    ∷ exactly w1 0 [] []
    ∷ places (w4 []) 0 (0 ∷ 1 ∷ 2 ∷ 3 ∷ 2 ∷ 1 ∷ []) (0 ∷ 2 ∷ 1 ∷ 3 ∷ 1 ∷ 2 ∷ []) 6
    ∷ refuses (w4 []) 0 (3 ∷ 3 ∷ 3 ∷ []) 2 33 0 0
    -- "an output too short gives 33, tested after the file and state number but before the devices": one entry short; beside a device that is not there
    ∷ refuses w1 0 (0 ∷ 3 ∷ []) 3 33 0 0
    ∷ refuses w1 0 (0 ∷ 4 ∷ []) 3 33 0 0
    ∷ refuses w1 2 (0 ∷ 3 ∷ []) 3 34 0 0
    ∷ refuses w1 2 [] 0 34 0 0
    ∷ refuses (w4 ((2 ∷ 1 ∷ 1 ∷ []) ∷ [])) 9 (7 ∷ []) 0 24 1 0
    -- "the first such place (from 0)": of two, and of one that stands first or last; exactly D is not there
    ∷ refuses w1 0 (3 ∷ 4 ∷ 0 ∷ 65535 ∷ []) 8 32 0 1
    ∷ refuses w1 0 (9 ∷ []) 2 32 0 0
    ∷ refuses w1 0 (0 ∷ 1 ∷ 2 ∷ 3 ∷ 4 ∷ []) 12 32 0 4
    ∷ []
