-- Document 02, Ask 6: all-reduces along axes that nothing names, as one table in the form of the ledger (W10 is in the ledger itself); and the factors of
-- such plans after each of their steps. Assumes nothing.
use Rattle.std.specs.Prelude.{ℕ, ◌+◌, ◌≡◌, List, [], ◌∷◌, length}
use Rattle.rules.specs.Lists.{tab}
use Rattle.rules.specs.Collectives.{all_slice, all_gather, all_to_all}
use Rattle.rules.specs.Refusals.{Judged, accept, refuse, ◌>>=◌}
use Rattle.rules.specs.PlanFile.{judge}
use Rattle.rules.specs.Factor.{scaled, reduced_axes, factor_after}
use Rattle.rules.specs.Ledger.{Case, checked, file_in, file_of, passed, leaves, w7}
use Rattle.rules.specs.WorkedEditions.{second}
use Rattle.rules.specs.WorkedRepeats.{slice, reduce, times}
use Rattle.rules.specs.WorkedOrders.{third}

-- mesh 2, a table of one word; mesh 2x3, a table of six words, with unreduced axes
abbrev pub one_word : List (List ℕ) → List ℕ
one_word steps = file_of (2 ∷ []) (1 ∷ []) ([] ∷ [] ∷ []) steps

abbrev pub on2x3 : (unreduced : List ℕ) → List (List ℕ) → List ℕ
on2x3 unreduced steps = file_of (2 ∷ 3 ∷ []) (6 ∷ []) ([] ∷ unreduced ∷ []) steps

-- mesh 2x3, a table of one word, axis 0 unreduced
abbrev pub first_owed : List (List ℕ) → List ℕ
first_owed steps = file_of (2 ∷ 3 ∷ []) (1 ∷ []) ([] ∷ (0 ∷ []) ∷ []) steps

-- all-reduce along axis 1, and along both; all-slice and all-gather along axis 1
abbrev pub reduce_second : List ℕ
reduce_second = 3 ∷ 1 ∷ 1 ∷ []

abbrev pub reduce_both : List ℕ
reduce_both = 3 ∷ 2 ∷ 0 ∷ 1 ∷ []

abbrev pub slice_second : List ℕ
slice_second = 1 ∷ 1 ∷ 1 ∷ []

abbrev pub gather_second : List ℕ
gather_second = 2 ∷ 1 ∷ 1 ∷ []

abbrev pub factors : List Case
factors =
    -- "New case: mesh 2, a table of one word with nothing split or unreduced, 7 on both cards, reduce [0]: 14 on both." "Reduce [0] twice in the new case
    -- gives 28 on both"
    leaves (one_word (reduce ∷ [])) 2 2 (7 ∷ 7 ∷ []) (14 ∷ 14 ∷ [])
    ∷ leaves (one_word (reduce ∷ reduce ∷ [])) 2 4 (7 ∷ 7 ∷ []) (28 ∷ 28 ∷ [])
    -- words that are no faithful spread are added as they are
    ∷ leaves (one_word (reduce ∷ [])) 2 2 (7 ∷ 8 ∷ []) (15 ∷ 15 ∷ [])
    ∷ leaves (one_word (reduce ∷ reduce ∷ [])) 2 4 (7 ∷ 8 ∷ []) (30 ∷ 30 ∷ [])
    -- an unreduced axis and one that nothing names, in one step, and one after the other
    ∷ leaves (first_owed (reduce_both ∷ [])) 6 30 (1 ∷ 1 ∷ 1 ∷ 4 ∷ 4 ∷ 4 ∷ []) (15 ∷ 15 ∷ 15 ∷ 15 ∷ 15 ∷ 15 ∷ [])
    ∷ leaves (first_owed (reduce_second ∷ [])) 6 12 (1 ∷ 1 ∷ 1 ∷ 4 ∷ 4 ∷ 4 ∷ []) (3 ∷ 3 ∷ 3 ∷ 12 ∷ 12 ∷ 12 ∷ [])
    -- "it becomes replicated": an unreduced axis leaves its list, one that nothing names is in none, and the others stay
    ∷ checked (on2x3 (0 ∷ []) (reduce_both ∷ [])) (passed 36 6 1 180 ([] ∷ []) [] (6 ∷ []))
    ∷ checked (on2x3 (0 ∷ []) (reduce_second ∷ [])) (passed 36 6 1 72 ([] ∷ []) (0 ∷ []) (6 ∷ []))
    ∷ checked (on2x3 [] (reduce_both ∷ slice_second ∷ [])) (passed 36 6 2 180 ((1 ∷ []) ∷ []) [] (2 ∷ []))
    -- 26 goes first, of an axis named twice too; 27 of an axis that splits a dimension, before or behind one that may be reduced, and again only while it
    -- does; 22 before both
    ∷ checked (on2x3 [] ((3 ∷ 2 ∷ 1 ∷ 0 ∷ []) ∷ [])) (refuse 26 1)
    ∷ checked (on2x3 [] ((3 ∷ 2 ∷ 0 ∷ 0 ∷ []) ∷ [])) (refuse 26 1)
    ∷ checked (on2x3 [] (slice_second ∷ reduce_both ∷ [])) (refuse 27 2)
    ∷ checked (on2x3 (1 ∷ []) (slice ∷ reduce_both ∷ [])) (refuse 27 2)
    ∷ checked (on2x3 [] (slice_second ∷ gather_second ∷ reduce_both ∷ [])) (passed 36 6 3 204 ([] ∷ []) [] (6 ∷ []))
    ∷ checked (on2x3 [] (slice_second ∷ (3 ∷ 2 ∷ 1 ∷ 2 ∷ []) ∷ [])) (refuse 22 2)
    -- 27 of any dimension's axes, of size 1 too; where one axis splits and another is unreduced, a third may be reduced; so in a table of two dimensions
    ∷ checked (file_of (2 ∷ []) (2 ∷ 2 ∷ []) ([] ∷ (0 ∷ []) ∷ [] ∷ []) (reduce ∷ [])) (refuse 27 1)
    ∷ checked (file_of (1 ∷ 2 ∷ []) (2 ∷ []) ((0 ∷ []) ∷ [] ∷ []) (reduce ∷ [])) (refuse 27 1)
    ∷ checked (file_of (2 ∷ 2 ∷ 3 ∷ []) (2 ∷ []) ((0 ∷ []) ∷ (1 ∷ []) ∷ []) ((3 ∷ 1 ∷ 2 ∷ []) ∷ [])) (passed 12 12 1 24 ((0 ∷ []) ∷ []) (1 ∷ []) (1 ∷ []))
    ∷ checked (file_of (2 ∷ []) (2 ∷ 2 ∷ []) ([] ∷ [] ∷ [] ∷ []) (reduce ∷ [])) (passed 8 2 1 8 ([] ∷ [] ∷ []) [] (2 ∷ 2 ∷ []))
    -- 27 of an explicitly replicated axis, alone, beside an unreduced one, and beside one that nothing names
    ∷ checked (second [] [] (1 ∷ []) (reduce_second ∷ [])) (refuse 27 1)
    ∷ checked (second [] (0 ∷ []) (1 ∷ []) (reduce_both ∷ [])) (refuse 27 1)
    ∷ checked (second [] [] (1 ∷ []) (reduce_both ∷ [])) (refuse 27 1)
    ∷ checked (second [] [] (0 ∷ []) (reduce_both ∷ [])) (refuse 27 1)
    -- of the second of two, of the third axis of a list, and where another axis splits a dimension; beside one, an axis that nothing names is reduced
    ∷ checked (second [] [] (0 ∷ 1 ∷ []) (reduce_second ∷ [])) (refuse 27 1)
    ∷ checked (file_in 2 (2 ∷ 2 ∷ 2 ∷ []) [] (1 ∷ []) ([] ∷ [] ∷ (2 ∷ []) ∷ []) ((3 ∷ 3 ∷ 0 ∷ 1 ∷ 2 ∷ []) ∷ [])) (refuse 27 1)
    ∷ checked (second (0 ∷ []) [] (1 ∷ []) (reduce_second ∷ [])) (refuse 27 1)
    ∷ leaves (second [] [] (1 ∷ []) (reduce ∷ [])) 16 16 (tab 16 (λ k. k + 1)) (
    10 ∷ 12 ∷ 14 ∷ 16 ∷ 18 ∷ 20 ∷ 22 ∷ 24 ∷ 10 ∷ 12 ∷ 14 ∷ 16 ∷ 18 ∷ 20 ∷ 22 ∷ 24 ∷ []
    )
    -- inside a block, in each of its rounds: the sharding comes back
    ∷ leaves (one_word (times 3 (reduce ∷ []) ∷ [])) 2 6 (7 ∷ 7 ∷ []) (56 ∷ 56 ∷ [])
    -- under an order of the devices
    ∷ leaves (third [] [] (reduce ∷ [])) 16 16 (tab 16 (λ k. k + 1)) (
    6 ∷ 8 ∷ 10 ∷ 12 ∷ 6 ∷ 8 ∷ 10 ∷ 12 ∷ 22 ∷ 24 ∷ 26 ∷ 28 ∷ 22 ∷ 24 ∷ 26 ∷ 28 ∷ []
    )
    ∷ []

-- ---- factors

-- of the plan of a file: before its first plain step, and after each that it runs
abbrev pub factors_of : (file : List ℕ) → Judged (List ℕ)
factors_of file = ◌>>=◌ (judge file) (λ p. accept (tab (length p.steps + 1) (λ k. factor_after p k)))

pub record FactorsCounted : Type 0 where
  -- "the product of the sizes of all axes reduced so far that were replicated just before their own step": "W7 has factor 1"
  pub w7_one : factors_of (w7 2 (0 ∷ [])) ≡ accept (1 ∷ 1 ∷ [])
  pub w10_two : factors_of (w7 2 []) ≡ accept (1 ∷ 2 ∷ [])
  pub both : factors_of (on2x3 [] (reduce_both ∷ [])) ≡ accept (1 ∷ 6 ∷ [])
  pub second_only : factors_of (on2x3 (0 ∷ []) (reduce_both ∷ [])) ≡ accept (1 ∷ 3 ∷ [])
  pub first_only : factors_of (on2x3 (1 ∷ []) (reduce_both ∷ [])) ≡ accept (1 ∷ 2 ∷ [])
  pub owed : factors_of (on2x3 (0 ∷ 1 ∷ []) (reduce_both ∷ [])) ≡ accept (1 ∷ 1 ∷ [])
  -- "each counted as often as it was so reduced": an axis that was unreduced at the first of three, and replicated at the others
  pub often : factors_of (on2x3 (1 ∷ []) (reduce_second ∷ reduce_second ∷ reduce_both ∷ [])) ≡ accept (1 ∷ 1 ∷ 3 ∷ 18 ∷ [])
  -- other steps count nothing: all-slice and all-gather, a reduce-scatter; "a block run 3 times has factor 8"
  pub others : factors_of (on2x3 [] (slice_second ∷ reduce ∷ gather_second ∷ reduce_second ∷ [])) ≡ accept (1 ∷ 1 ∷ 2 ∷ 2 ∷ 6 ∷ [])
  pub scatter : factors_of (on2x3 (0 ∷ []) ((5 ∷ 1 ∷ 0 ∷ []) ∷ reduce_second ∷ [])) ≡ accept (1 ∷ 1 ∷ 3 ∷ [])
  pub block : factors_of (one_word (times 3 (reduce ∷ []) ∷ [])) ≡ accept (1 ∷ 2 ∷ 4 ∷ 8 ∷ [])
  pub moves : (reduced_axes (all_slice ((0 ∷ []) ∷ [])) ≡ []) × (reduced_axes (all_gather ((0 ∷ []) ∷ [])) ≡ []) × (reduced_axes (all_to_all 0 1 (0 ∷ [])) ≡ [])
  pub block_of_32 : ◌>>=◌ (judge (one_word (times 32 (reduce ∷ []) ∷ []))) (λ p. accept (factor_after p 32)) ≡ accept 4294967296
  -- a file that the judgement refuses has none
  pub none : factors_of (on2x3 [] (slice ∷ reduce ∷ [])) ≡ refuse 27 2
  -- "multiplied, modulo 2^32"
  pub modulo : scaled 3 (λ i. 2147483649) [] ≡ 2147483651
  pub gone : scaled 4294967296 (λ i. 7) [] ≡ 0
  pub doubled : scaled 2 length (5 ∷ 5 ∷ 5 ∷ []) ≡ 6
