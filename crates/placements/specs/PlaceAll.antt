-- Document 02, Ask 1: "a call with a lent list of device numbers that fills a lent list of first indexes, as many per device as the rank." What it answers,
-- and leaves in that list, on any input; each placement is that of the single call (`place_of`). Assumes nothing.
use Rattle.std.specs.Prelude.{ℕ, suc, ◌*◌, ◌<◌, ◌≡◌, List, [], ◌∷◌, ◌++◌, length, get_or, take, drop, leb, eqb, Ok, Err}
use Rattle.rules.specs.Lists.{pick}
use Rattle.rules.specs.Refusals.{Judged, accept, refuse, ◌>>=◌, ◌>>◌, need}
use Rattle.types.specs.Answers.{refusal_of}
use Rattle.rules.specs.PlanFile.{state_of}
use Rattle.rules.specs.Calls.{PlaceAnswer, place_of}
use Rattle.placements.specs.declared.PlacedAll.{PlacedAll}

-- "Its answers equal the single call's, one by one, repeats of a device included.": the first indexes of each device in turn, or the first refusal
unfoldable pub firsts_of : (file : List ℕ) → (state : ℕ) → (devices : List ℕ) → Judged (List ℕ)
unfolding place_of
firsts_of file state [] = accept []
firsts_of file state (d ∷ ds) = do
  a ← place_of file state d
  rest ← firsts_of file state ds
  accept (a.first ++ rest)

-- "an output too short gives 33, tested after the file and state number but before the devices"
unfoldable pub place_all_of : (file : List ℕ) → (state : ℕ) → (devices out : List ℕ) → Judged (List ℕ)
unfolding state_of firsts_of
place_all_of file state devices out = do
  s ← state_of file state
  need (leb (length devices * length s.sizes) (length out)) 33
  firsts_of file state devices

-- "the first such place (from 0)": how many devices of the list stand before the first that is refused
abbrev pub placed_then : Judged PlaceAnswer → ℕ → ℕ
placed_then (accept a) n = suc n
placed_then (refuse number step) n = 0

unfoldable pub placed_before : (file : List ℕ) → (state : ℕ) → (devices : List ℕ) → ℕ
unfolding place_of
placed_before file state [] = 0
placed_before file state (d ∷ ds) = placed_then (place_of file state d) (placed_before file state ds)

-- "If any number is refused the call gives 32 with, beside it, the first such place"; beside every other outcome it is 0
abbrev pub place_beside : Judged (List ℕ) → (place : ℕ) → ℕ
place_beside (accept firsts) place = 0
place_beside (refuse number step) place = pick (eqb number 32) place 0

-- "and writes nothing"; "An empty list is accepted and writes nothing; entries past the answers stay."
abbrev pub firsts_out : Judged (List ℕ) → (out : List ℕ) → List ℕ
firsts_out (accept firsts) out = firsts ++ drop (length firsts) out
firsts_out (refuse number step) out = out

unfoldable pub place_all_leaves : (file : List ℕ) → (state : ℕ) → (devices out : List ℕ) → List ℕ
unfolding place_all_of
place_all_leaves file state devices out = firsts_out (place_all_of file state devices out) out

-- ---- the promise

-- the answer of the code
abbrev pub placed_all_with : Judged (List ℕ) → (place : ℕ) → PlacedAll
placed_all_with (accept firsts) place = record { outcome = Ok tt; place = place }
placed_all_with (refuse number step) place = record { outcome = Err (refusal_of number step); place = place }

abbrev pub placed_all_of : (file : List ℕ) → (state : ℕ) → (devices out : List ℕ) → PlacedAll
placed_all_of file state devices out =
    placed_all_with (place_all_of file state devices out) (place_beside (place_all_of file state devices out) (placed_before file state devices))

-- Its answer and what it leaves are the definition's. Device by device: each has the single call's first indexes in its part of the list, and the place beside
-- 32 is that of a device whom the single call refuses, all before it being placed.
pub record PlaceAllPromise (file : List ℕ) (state : ℕ) (devices out : List ℕ) (r : PlacedAll) (outAfter : List ℕ) : Type 0 where
  pub answers : r ≡ placed_all_of file state devices out
  pub leaves : outAfter ≡ place_all_leaves file state devices out
  pub one_by_one : r.outcome ≡ Ok tt → (i : ℕ) → i < length devices
      → (a : PlaceAnswer) × (place_of file state (get_or devices i 0) ≡ accept a) × (take a.rank (drop (i * a.rank) outAfter) ≡ a.first)
  pub first_refused : place_all_of file state devices out ≡ refuse 32 0
      → (place_of file state (get_or devices r.place 0) ≡ refuse 32 0)
      × ((i : ℕ) → i < r.place → (a : PlaceAnswer) × (place_of file state (get_or devices i 0) ≡ accept a))
  pub refused : (number step : ℕ) → place_all_of file state devices out ≡ refuse number step → outAfter ≡ out
