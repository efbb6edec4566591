-- Worked cases of document 02, Ask 8: what is answered where files end, however they were cut, and what is held on the way. Assumes nothing.
use Rattle.std.specs.Prelude.{ℕ, ◌≡◌, List, [], ◌∷◌, ◌++◌, take, set}
use Rattle.rules.specs.Refusals.{Judged, refuse}
use Rattle.rules.specs.Calls.{CheckAnswer}
use Rattle.rules.specs.Ledger.{w1, passed}
use Rattle.rules.specs.WorkedEditions.{second}
use Rattle.rules.specs.WorkedOrders.{third, with_order, cut_at}
use Rattle.rules.specs.WorkedRepeats.{whole, halves, slice, gather, swings, times, nested, mixed, full, nearly_full, sixteen}
use Rattle.units.specs.Units.{end_of, state_after}

-- ---- what is answered

pub record Case : Type 0 where
  pub bytes : List ℕ
  pub answer : Judged CheckAnswer

abbrev pub ends : List ℕ → Judged CheckAnswer → Case
ends bytes answer = record { bytes = bytes; answer = answer }

abbrev pub Holds : Case → Type 0
Holds c = end_of (state_after c.bytes) ≡ c.answer

-- No words moved are answered: the fourth number is 0. W1's header ends at 18, its mesh at 22, its table at 26, its sharding at 31, its step at 35
abbrev pub files : List Case
files =
    ends w1 (passed 32 4 1 0 ((0 ∷ []) ∷ [] ∷ []) [] (2 ∷ 4 ∷ []))
    -- 1 and 4 go before what is held
    ∷ ends [] (refuse 1 0)
    ∷ ends (take 17 w1) (refuse 1 0)
    ∷ ends (take 18 w1) (refuse 4 0)
    ∷ ends (take 34 w1) (refuse 4 0)
    ∷ ends (w1 ++ 0 ∷ []) (refuse 4 0)
    ∷ ends (set (take 34 w1) 2 0) (refuse 4 0)
    ∷ ends (set w1 2 0) (refuse 5 0)
    ∷ ends (set w1 0 4) (refuse 3 0)
    -- 7 inside each unit and before its first byte
    ∷ ends (cut_at 18 w1) (refuse 7 0)
    ∷ ends (cut_at 21 w1) (refuse 7 0)
    ∷ ends (cut_at 22 w1) (refuse 7 0)
    ∷ ends (cut_at 26 w1) (refuse 7 0)
    ∷ ends (cut_at 30 w1) (refuse 7 0)
    ∷ ends (cut_at 31 w1) (refuse 7 0)
    ∷ ends (cut_at 34 w1) (refuse 7 0)
    -- 9 behind the last step; 6 of a section where the one before it ends, though no byte of it is there
    ∷ ends (set (w1 ++ 0 ∷ []) 16 36) (refuse 9 0)
    ∷ ends (set (cut_at 22 w1) 10 23) (refuse 6 0)
    ∷ ends (set (cut_at 31 w1) 14 30) (refuse 6 0)
    -- a unit's own refusals, before its last byte: 8 and 20
    ∷ ends (set (cut_at 27 w1) 26 3) (refuse 8 0)
    ∷ ends (set (cut_at 32 w1) 31 6) (refuse 20 1)
    ∷ ends (set (cut_at 32 w1) 31 9) (refuse 7 0)
    -- editions 2 and 3: 18; 19 only when all numbers are there
    ∷ ends (second (1 ∷ []) [] [] []) (refuse 18 0)
    ∷ ends (third (1 ∷ 0 ∷ []) [] []) (passed 4 4 0 0 ((1 ∷ 0 ∷ []) ∷ []) [] (1 ∷ []))
    ∷ ends (with_order (0 ∷ 1 ∷ 2 ∷ 3 ∷ [])) (refuse 19 0)
    ∷ ends (with_order (2 ∷ 0 ∷ 2 ∷ 1 ∷ [])) (refuse 19 0)
    ∷ ends (cut_at 29 (with_order (2 ∷ 2 ∷ 2 ∷ 2 ∷ []))) (refuse 7 0)
    -- repeats: open ones, 41 to 44, the plan so far, states inside blocks
    ∷ ends mixed (passed 4 2 3 0 ([] ∷ []) [] (2 ∷ []))
    ∷ ends (halves (times 3 (times 2 (gather ∷ slice ∷ []) ∷ []) ∷ [])) (passed 4 2 1 0 ((0 ∷ []) ∷ []) [] (1 ∷ []))
    ∷ ends (whole ((9 ∷ 1 ∷ 3 ∷ slice ++ gather) ∷ [])) (refuse 7 0)
    ∷ ends (whole (times 1 (times 1 (slice ∷ []) ∷ gather ∷ []) ∷ [])) (refuse 41 2)
    ∷ ends (whole (nested 4 (swings 1))) (passed 4 2 1 0 ([] ∷ []) [] (2 ∷ []))
    ∷ ends (whole (nested 5 (swings 1))) (refuse 42 5)
    ∷ ends (whole (times 2 (full ∷ []) ∷ [])) (refuse 43 1)
    ∷ ends (whole (nearly_full ∷ sixteen ∷ slice ∷ [])) (refuse 43 21)
    ∷ ends (whole ((9 ∷ 1 ∷ 0 ∷ []) ∷ [])) (refuse 44 1)
    ∷ []

-- ---- what is held
