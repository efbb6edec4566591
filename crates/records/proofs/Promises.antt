-- What the writer's definitions promise of themselves, and the worked cases of the writer, the reading call and the planner. Assumes nothing.
use Prim.Native.Nat.{ℕ, ◌≤◌}
use mathlib.Core.Path.{◌≡◌, refl}
use mathlib.Core.Bool.{Bool, true, false}
use native.Mathlib.Omega.{arith}
use lib.ListN.{length}
use lib.Dec.{leb, leb→le}
use Rattle.rules.specs.Limits.{most_bytes}
use Rattle.rules.specs.Refusals.{Judged, accept, refuse, ◌>>◌, need}
use Rattle.records.specs.Records.{file_length}
use Rattle.records.specs.Writing.{write_of}
use Rattle.records.specs.RoundTrip.{RecordsPromise}
use Rattle.records.proofs.WorkedReading as reading
use Rattle.records.proofs.WorkedRecords as worked
use Rattle.records.specs.WorkedRecords.{PastLimit, WorkedPromise}
use Rattle.records.proofs.Written as written
use Rattle.records.proofs.Readback as back
use Rattle.records.proofs.Again as again

pub records-promise : RecordsPromise
records-promise = record {
  file_judged = written.file_judged;
  reads_back = back.reads_back;
  written_again = again.written_again;
  one_file = again.one_file;
}

past_limit : PastLimit
unfolding write_of
past_limit r out p e past = rw e (go (leb (file_length r) most_bytes) refl)
  where
    after : Judged ℕ
    after = ◌>>◌ (need (leb (file_length r) (length out)) 35) (accept (file_length r))

    go : (b : Bool) → leb (file_length r) most_bytes ≡ b → ◌>>◌ (need b 2) after ≡ refuse 2 0
    go true h = let short : file_length r ≤ most_bytes = leb→le (file_length r) most_bytes (rw h tt) in absurd (omega arith)
    go false h = refl

pub worked-promise : WorkedPromise
worked-promise = record {
  writing = worked.written;
  refusing = worked.refused_as;
  past_limit = past_limit;
  numbering = (refl, refl, refl);
  given = worked.formed;
  planning = worked.planned-as;
  reading = reading.read_as;
}
