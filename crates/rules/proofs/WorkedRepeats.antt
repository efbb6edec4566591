-- The proofs of what specs/WorkedRepeats.antt states and of its worked cases. Assumes nothing.
use Rattle.std.specs.Prelude.{refl}
use Rattle.rules.specs.Lists.{All, done, ◌&◌}
use Rattle.rules.specs.PlanFile.{same_sharding, repeat_at, judge_by}
use Rattle.rules.specs.Calls.{check_of, place_of, run_of}
use Rattle.rules.specs.Ledger.{Holds, file_in, file_of}
use Rattle.rules.specs.WorkedRepeats.{repeats, RepeatsRead}

pub repeated : All Holds repeats
unfolding file_in file_of check_of place_of run_of
repeated =
    refl & refl & refl & refl & refl & refl & refl & refl & refl & refl & refl & refl
    & refl & refl & refl & refl & refl & refl & refl & refl & refl & refl & refl & refl
    & refl & refl & refl & refl & refl & refl & refl & refl & refl & refl & refl & refl
    & refl & refl & refl & refl & refl & refl & refl & refl & refl & refl & refl & refl
    & refl & refl & refl & refl & refl & refl & refl & refl & refl & refl & refl & refl
    & refl & refl & refl & refl & refl & refl & refl & refl & refl & refl & refl & refl
    & refl & refl & refl & refl & refl & refl & refl & refl & refl & refl & refl & refl & done

pub repeats_read : RepeatsRead
unfolding file_in file_of judge_by same_sharding repeat_at check_of
repeats_read = record {
  unknown = refl;
  most_inner = refl;
  original_reads = refl;
  original_orders = refl;
  mixed_read = refl;
  alone = refl;
  so_far = refl;
  plain_ones = refl;
  of_dims = refl;
  of_unreduced = refl;
  of_replicated = refl;
  of_none = refl;
  before = refl;
  without = refl;
}
