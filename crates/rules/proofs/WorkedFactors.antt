-- The proofs of what specs/WorkedFactors.antt states and of its worked cases. Assumes nothing.
use Rattle.std.specs.Prelude.{refl}
use Rattle.rules.specs.Lists.{All, done, ◌&◌}
use Rattle.rules.specs.PlanFile.{judge_by}
use Rattle.rules.specs.Calls.{check_of, run_of}
use Rattle.rules.specs.Factor.{scaled, factor_after}
use Rattle.rules.specs.Ledger.{Holds, file_in, file_of}
use Rattle.rules.specs.WorkedFactors.{factors, FactorsCounted}

pub factored : All Holds factors
unfolding file_in file_of check_of run_of
factored =
    refl & refl & refl & refl & refl & refl & refl & refl & refl & refl
    & refl & refl & refl & refl & refl & refl & refl & refl & refl & refl
    & refl & refl & refl & refl & refl & refl & refl & refl & refl & done

pub factors_counted : FactorsCounted
unfolding file_of judge_by factor_after scaled
factors_counted = record {
  w7_one = refl;
  w10_two = refl;
  both = refl;
  second_only = refl;
  first_only = refl;
  owed = refl;
  often = refl;
  others = refl;
  scatter = refl;
  block = refl;
  moves = (refl, refl, refl);
  block_of_32 = refl;
  none = refl;
  modulo = refl;
  gone = refl;
  doubled = refl;
}
