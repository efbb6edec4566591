-- Document 02, Ask 14: pairs of routes, as one table in the form of the ledger: what each of the two leaves, from a faithful spread and from words that are
-- none; and what the ends of such routes have in common. The statements are in laws/specs/Routes.antt. Assumes nothing.
use Rattle.std.specs.Prelude.{ℕ, ◌+◌, ◌%◌, ◌^◌, ◌≡◌, List, [], ◌∷◌, length}
use Rattle.rules.specs.Lists.{tab}
use Rattle.rules.specs.Sharding.{Sharding}
use Rattle.rules.specs.Refusals.{Judged, accept, ◌>>=◌}
use Rattle.rules.specs.PlanFile.{judge, announced}
use Rattle.rules.specs.Factor.{factor_after}
use Rattle.rules.specs.Ledger.{Case, file_of, leaves}
use Rattle.rules.specs.WorkedRepeats.{whole, parts, square, slice, gather, reduce, slice_rows, slice_columns, to_columns, times}
use Rattle.rules.specs.WorkedOrders.{third}
use Rattle.rules.specs.WorkedFactors.{one_word, reduce_both, slice_second, gather_second}

-- mesh 2x2: a table of one word, nothing named; a table of 2, axis 0 unreduced
abbrev pub one_on_four : List (List ℕ) → List ℕ
one_on_four steps = file_of (2 ∷ 2 ∷ []) (1 ∷ []) ([] ∷ [] ∷ []) steps

abbrev pub parts_on_four : List (List ℕ) → List ℕ
parts_on_four steps = file_of (2 ∷ 2 ∷ []) (2 ∷ []) ([] ∷ (0 ∷ []) ∷ []) steps

-- reduce-scatter along axis 0, all-slice along both axes
abbrev pub scatter : List ℕ
scatter = 5 ∷ 1 ∷ 0 ∷ []

abbrev pub slice_both : List ℕ
slice_both = 1 ∷ 2 ∷ 0 ∷ 1 ∷ []

abbrev pub routes : List Case
routes =
    -- an all-slice and the all-gather of its list, beside no step: a faithful spread comes back, other words do not
    leaves (whole (slice ∷ gather ∷ [])) 4 2 (1 ∷ 2 ∷ 1 ∷ 2 ∷ []) (1 ∷ 2 ∷ 1 ∷ 2 ∷ [])
    ∷ leaves (whole []) 4 0 (1 ∷ 2 ∷ 3 ∷ 4 ∷ []) (1 ∷ 2 ∷ 3 ∷ 4 ∷ [])
    ∷ leaves (whole (slice ∷ gather ∷ [])) 4 2 (1 ∷ 2 ∷ 3 ∷ 4 ∷ []) (1 ∷ 4 ∷ 1 ∷ 4 ∷ [])
    -- a table 2x2 to columns, by rows and at once
    ∷ leaves (square (slice_rows ∷ to_columns ∷ [])) 8 2 (1 ∷ 2 ∷ 3 ∷ 4 ∷ 1 ∷ 2 ∷ 3 ∷ 4 ∷ []) (1 ∷ 3 ∷ 2 ∷ 4 ∷ [])
    ∷ leaves (square (slice_columns ∷ [])) 8 0 (1 ∷ 2 ∷ 3 ∷ 4 ∷ 1 ∷ 2 ∷ 3 ∷ 4 ∷ []) (1 ∷ 3 ∷ 2 ∷ 4 ∷ [])
    ∷ leaves (square (slice_rows ∷ to_columns ∷ [])) 8 2 (tab 8 (λ k. k + 1)) (1 ∷ 7 ∷ 2 ∷ 8 ∷ [])
    ∷ leaves (square (slice_columns ∷ [])) 8 0 (tab 8 (λ k. k + 1)) (1 ∷ 3 ∷ 6 ∷ 8 ∷ [])
    -- under an order of the devices, along both axes at once and one by one
    ∷ leaves (third [] [] (slice_both ∷ [])) 16 0 (tab 16 (λ k. k % 4 + 1)) (2 ∷ 4 ∷ 1 ∷ 3 ∷ [])
    ∷ leaves (third [] [] (slice ∷ slice_second ∷ [])) 16 0 (tab 16 (λ k. k % 4 + 1)) (2 ∷ 4 ∷ 1 ∷ 3 ∷ [])
    -- other factors: 1 and 2
    ∷ leaves (one_word []) 2 0 (7 ∷ 7 ∷ []) (7 ∷ 7 ∷ [])
    ∷ leaves (one_word (reduce ∷ [])) 2 2 (7 ∷ 7 ∷ []) (14 ∷ 14 ∷ [])
    -- one factor, 4, along one axis twice and along two axes
    ∷ leaves (one_on_four (reduce ∷ reduce ∷ [])) 4 8 (7 ∷ 7 ∷ 7 ∷ 7 ∷ []) (28 ∷ 28 ∷ 28 ∷ 28 ∷ [])
    ∷ leaves (one_on_four (reduce_both ∷ [])) 4 12 (7 ∷ 7 ∷ 7 ∷ 7 ∷ []) (28 ∷ 28 ∷ 28 ∷ 28 ∷ [])
    ∷ leaves (one_on_four (reduce ∷ reduce ∷ [])) 4 8 (1 ∷ 2 ∷ 3 ∷ 4 ∷ []) (8 ∷ 12 ∷ 8 ∷ 12 ∷ [])
    ∷ leaves (one_on_four (reduce_both ∷ [])) 4 12 (1 ∷ 2 ∷ 3 ∷ 4 ∷ []) (10 ∷ 10 ∷ 10 ∷ 10 ∷ [])
    -- parts of sums that are added up: from two spreads of one table, and from a start that has the table whole
    ∷ leaves (parts (reduce ∷ [])) 4 4 (1 ∷ 2 ∷ 5 ∷ 6 ∷ []) (6 ∷ 8 ∷ 6 ∷ 8 ∷ [])
    ∷ leaves (parts (scatter ∷ gather ∷ [])) 4 4 (1 ∷ 2 ∷ 5 ∷ 6 ∷ []) (6 ∷ 8 ∷ 6 ∷ 8 ∷ [])
    ∷ leaves (parts (scatter ∷ gather ∷ [])) 4 4 (6 ∷ 8 ∷ 0 ∷ 0 ∷ []) (6 ∷ 8 ∷ 6 ∷ 8 ∷ [])
    ∷ leaves (whole []) 4 0 (6 ∷ 8 ∷ 6 ∷ 8 ∷ []) (6 ∷ 8 ∷ 6 ∷ 8 ∷ [])
    -- parts that stay parts: of one spread two routes leave the same, of two spreads of one table they do not
    ∷ leaves (parts_on_four []) 8 0 (1 ∷ 2 ∷ 1 ∷ 2 ∷ 5 ∷ 6 ∷ 5 ∷ 6 ∷ []) (1 ∷ 2 ∷ 1 ∷ 2 ∷ 5 ∷ 6 ∷ 5 ∷ 6 ∷ [])
    ∷ leaves (parts_on_four (slice_second ∷ gather_second ∷ [])) 8 4 (1 ∷ 2 ∷ 1 ∷ 2 ∷ 5 ∷ 6 ∷ 5 ∷ 6 ∷ []) (1 ∷ 2 ∷ 1 ∷ 2 ∷ 5 ∷ 6 ∷ 5 ∷ 6 ∷ [])
    ∷ leaves (parts_on_four (slice_second ∷ gather_second ∷ [])) 8 4 (6 ∷ 8 ∷ 6 ∷ 8 ∷ 0 ∷ 0 ∷ 0 ∷ 0 ∷ []) (6 ∷ 8 ∷ 6 ∷ 8 ∷ 0 ∷ 0 ∷ 0 ∷ 0 ∷ [])
    ∷ leaves (parts_on_four (slice_second ∷ gather_second ∷ [])) 8 4 (tab 8 (λ k. k + 1)) (1 ∷ 4 ∷ 1 ∷ 4 ∷ 5 ∷ 8 ∷ 5 ∷ 8 ∷ [])
    ∷ []

-- ---- their ends

-- what routes that meet have in common: the last sharding, and the factor modulo 2 ^ 32
pub record End : Type 0 where
  pub sharding : Sharding
  pub factor : ℕ

abbrev pub end_of : (file : List ℕ) → Judged End
end_of file =
    ◌>>=◌ (judge file) (λ p. accept (record { sharding = announced p (length p.steps); factor = factor_after p (length p.steps) % 2 ^ 32 }))

-- an end of a table of one dimension
abbrev pub ends : (dim unreduced : List ℕ) → (factor : ℕ) → Judged End
ends dim unreduced factor = accept (record { sharding = record { dims = dim ∷ []; unreduced = unreduced; replicated = [] }; factor = factor })

pub record RoutesCompared : Type 0 where
  -- the routes above that meet do end in one sharding, with one factor
  pub back : end_of (whole (slice ∷ gather ∷ [])) ≡ end_of (whole [])
  pub columns : end_of (square (slice_rows ∷ to_columns ∷ [])) ≡ end_of (square (slice_columns ∷ []))
  pub cabled : end_of (third [] [] (slice ∷ slice_second ∷ [])) ≡ end_of (third [] [] (slice_both ∷ []))
  pub four : end_of (one_on_four (reduce ∷ reduce ∷ [])) ≡ end_of (one_on_four (reduce_both ∷ []))
  pub summed : end_of (parts (scatter ∷ gather ∷ [])) ≡ end_of (parts (reduce ∷ []))
  pub whole_too : end_of (parts (reduce ∷ [])) ≡ end_of (whole [])
  pub apart : end_of (parts_on_four (slice_second ∷ gather_second ∷ [])) ≡ ends [] (0 ∷ []) 1
  -- and of those with other factors the sharding alone is one
  pub once : end_of (one_word []) ≡ ends [] [] 1
  pub twice : end_of (one_word (reduce ∷ [])) ≡ ends [] [] 2
  -- "the same number modulo 2^32": of 32 doublings and of 33 the numbers differ, and modulo 2^32 both are 0; of 31 it is another
  pub doubled_32 : end_of (one_word (times 32 (reduce ∷ []) ∷ [])) ≡ ends [] [] 0
  pub doubled_33 : end_of (one_word (times 33 (reduce ∷ []) ∷ [])) ≡ ends [] [] 0
  pub doubled_31 : end_of (one_word (times 31 (reduce ∷ []) ∷ [])) ≡ ends [] [] 2147483648
  pub factor_33 : ◌>>=◌ (judge (one_word (times 33 (reduce ∷ []) ∷ []))) (λ p. accept (factor_after p 33)) ≡ accept 8589934592
