-- The proofs of what specs/WorkedRoutes.antt states and of its worked cases. Assumes nothing.
use Rattle.std.specs.Prelude.{refl}
use Rattle.rules.specs.Lists.{All, done, ◌&◌}
use Rattle.rules.specs.PlanFile.{judge_by, announced}
use Rattle.rules.specs.Calls.{run_of}
use Rattle.rules.specs.Factor.{factor_after}
use Rattle.rules.specs.Ledger.{Holds, file_in, file_of}
use Rattle.rules.specs.WorkedRoutes.{routes, RoutesCompared}

pub routed : All Holds routes
unfolding file_in file_of run_of
routed =
    refl & refl & refl & refl & refl & refl & refl & refl & refl & refl & refl & refl
    & refl & refl & refl & refl & refl & refl & refl & refl & refl & refl & refl & done

pub routes_compared : RoutesCompared
unfolding file_in file_of judge_by announced factor_after
routes_compared = record {
  back = refl;
  columns = refl;
  cabled = refl;
  four = refl;
  summed = refl;
  whole_too = refl;
  apart = refl;
  once = refl;
  twice = refl;
  doubled_32 = refl;
  doubled_33 = refl;
  doubled_31 = refl;
  factor_33 = refl;
}
