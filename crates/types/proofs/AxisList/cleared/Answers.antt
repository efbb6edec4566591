use native.Mathlib.Omega.{arith}
use mathlib.Core.List.{[], ◌∷◌}
use Rattle.types.specs.Types.{list_from}
use Rattle.types.proofs.Types.{axes-length}
use Rattle.types.proofs.AxisList.cleared.Goals as goal

pub overflow_cast-count : goal.overflow_cast-count
overflow_cast-count c = let a = c in
    omega (arith, axes-length a.args.self (a.well_formed.0.1.1.1.0.1.0.1))

pub returns : goal.returns
unfolding list_from
returns c = let a = c in
    let d = c in
    (λ i. record {
      count = a.len-count.ensures i;
      axes = record { 0 = a.at.ensures i }
          ∷ record { 0 = d.at-2.ensures i }
          ∷ record { 0 = d.at-3.ensures i }
          ∷ record { 0 = d.at-4.ensures i }
          ∷ record { 0 = c.at-5.ensures i }
          ∷ record { 0 = c.at-6.ensures i }
          ∷ [];
      align = [];
    })
