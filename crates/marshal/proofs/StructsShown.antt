-- The proofs of what specs/Structs.antt states and of its worked cases. Assumes nothing.
use Rattle.std.specs.Prelude.{◌≡◌, refl}
use Rattle.rules.specs.Collectives.{all_slice, all_gather, all_reduce, all_to_all, reduce_scatter}
use Rattle.rules.specs.PlanFile.{Record, plain, repeat}
use Rattle.records.specs.Forms.{record_of}
use Rattle.marshal.specs.Structs.{step_reply, reply_bytes}

pub reply-record : (g : Record) → reply_bytes (step_reply g) ≡ record_of g
unfolding record_of
reply-record (plain (all_slice Ss)) = refl
reply-record (plain (all_gather Gs)) = refl
reply-record (plain (all_reduce L)) = refl
reply-record (plain (all_to_all source target L)) = refl
reply-record (plain (reduce_scatter Ss)) = refl
reply-record (repeat count number) = refl
