use Prim.Native.Nat.{◌-◌}
use lib.ListN.{length}
use Rattle.decode.proofs.Walks.{Walk}
use Rattle.decode.proofs.put_records.Given as goal

abbrev pub invariant-loop-place : goal.invariant-loop-place
invariant-loop-place l = Walk l.initial.out l.out l.file l.place l.rank l.to

abbrev pub decreases-loop-place : goal.decreases-loop-place
decreases-loop-place l = length l.file - l.place
