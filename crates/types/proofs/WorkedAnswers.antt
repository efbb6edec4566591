-- The proofs of what specs/WorkedAnswers.antt states and of its worked cases. Assumes nothing.
use Rattle.std.specs.Prelude.{◌≡◌, refl, [], ◌∷◌, Ok, Err}
use Rattle.rules.specs.Collectives.{all_slice, all_gather, all_reduce, all_to_all, reduce_scatter}
use Rattle.types.specs.Types.{dims_of, step_of}
use Rattle.rules.specs.Calls.{groups_of, run_of}
use Rattle.types.specs.Answers.{judged}
use Rattle.rules.specs.Ledger.{w1, nines}
use Rattle.types.specs.declared.Step.TheVariants.{AllSlice, AllGather, AllReduce, AllToAll, ReduceScatter}
use Rattle.types.specs.declared.Reason.TheVariants.{WorkTooShort, OutputTooShort}
use Rattle.types.specs.WorkedAnswers.{axes, lists, refusal}

pub meanings :
    -- the group listing: W3, and with one place too few
    (judged (Ok 120) ≡ groups_of (2 ∷ 3 ∷ 4 ∷ 5 ∷ []) (3 ∷ 1 ∷ []) (nines 120))
    × (judged (Err (refusal OutputTooShort 0)) ≡ groups_of (2 ∷ 3 ∷ 4 ∷ 5 ∷ []) (3 ∷ 1 ∷ []) (nines 119))
    -- the run: W2, and with one word too few
    × (judged (Ok tt) ≡ (run_of w1 (nines 32) (nines 32)).outcome)
    × (judged (Err (refusal WorkTooShort 0)) ≡ (run_of w1 (nines 31) (nines 32)).outcome)
    -- the steps: an all-slice, those of W5, W7 and W8, and a reduce-scatter
    × (step_of 1 (AllSlice (lists ((0 ∷ []) ∷ []))) ≡ all_slice ((0 ∷ []) ∷ []))
    × (step_of 1 (AllGather (lists ((1 ∷ 0 ∷ []) ∷ []))) ≡ all_gather ((1 ∷ 0 ∷ []) ∷ []))
    × (step_of 1 (AllReduce (axes (0 ∷ []))) ≡ all_reduce (0 ∷ []))
    × (step_of 2 (AllToAll (record { 0 = 0 }) (record { 0 = 1 }) (axes (0 ∷ []))) ≡ all_to_all 0 1 (0 ∷ []))
    × (step_of 1 (ReduceScatter (lists ((1 ∷ 0 ∷ []) ∷ []))) ≡ reduce_scatter ((1 ∷ 0 ∷ []) ∷ []))
unfolding groups_of run_of dims_of
meanings = (refl, refl, refl, refl, refl, refl, refl, refl, refl)
