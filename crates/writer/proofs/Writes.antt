-- The writer, test by test: what is answered, and what the buffer holds; and its promise (`write-promise`). Assumes nothing.
use Prim.Native.Nat.{ℕ, ◌≤◌, ◌<◌}
use mathlib.Core.Path.{◌≡◌, refl, sym, ap, ◌∙◌}
use mathlib.Core.List.{List, ◌++◌}
use borrow.Author.Tests.{le-leb, lt-leb}
use lib.ListN.{length, take, drop}
use lib.Seq.{take_at, drop_at}
use Rattle.std.specs.Prelude.{Result}
use Rattle.rules.specs.Limits.{most_bytes}
use Rattle.rules.specs.Refusals.{Judged, accept, refuse}
use Rattle.types.specs.Answers.{judged, refused_with}
use Rattle.rules.specs.PlanFile.{Plan, judge}
use Rattle.types.specs.declared.Refusal.{Refusal}
use Rattle.types.specs.declared.Sharding as code
use Rattle.laws.proofs.Judging.{never, then-inv}
use Rattle.given.specs.Given.{verdict_of}
use Rattle.records.specs.Records.{Records, records_of, file_length, file_of}
use Rattle.records.specs.Writing.{judge_records, write_of, write_out, write_leaves}
use Rattle.records.specs.Forms.{records_given}
use Rattle.records.specs.RoundTrip.{Shorts}
use Rattle.records.specs.Promises.{WritePromise}
use Rattle.records.proofs.Numbers.{of-any}
use Rattle.records.proofs.Readback.{reads_back}
use Rattle.encode.proofs.Accepted.{accepted-proper}

-- what the judgement of records answered
pub judged-fine : (j : Judged Plan) → accept tt ≡ verdict_of j → (p : Plan) × (j ≡ accept p)
judged-fine (accept p) e = (p, refl)
judged-fine (refuse n k) e = absurd (never (sym e))

judged-refused : (j : Judged Plan) (x : Refusal) → refused_with x ≡ verdict_of j → j ≡ refused_with x
judged-refused (accept p) x e = absurd (never e)
judged-refused (refuse n k) x e = of-any (sym e)

module _ (r : Records) (out : List ℕ) where
  -- what the buffer holds after an answer
  leaves_by : {j : Judged ℕ} → write_of r out ≡ j → write_leaves r out ≡ write_out j r out
  unfolding write_leaves
  leaves_by e = ap (λ (j : Judged ℕ). write_out j r out) e

  module _ {n k : ℕ} (e : write_of r out ≡ refuse n k) where
    pub nothing_written : out ≡ write_leaves r out
    nothing_written = sym (leaves_by e)

  pub records-refused : (x : Refusal) → refused_with x ≡ verdict_of (judge_records r) → write_of r out ≡ refused_with x
  unfolding write_of
  records-refused x e = rw (judged-refused (judge_records r) x e) refl

  module _ {p : Plan} (e : judge_records r ≡ accept p) {n : ℕ} (l : n ≡ file_length r) where
    pub too_long : most_bytes < n → write_of r out ≡ refuse 2 0
    unfolding write_of
    too_long h = rw (e, sym l, lt-leb n most_bytes h) refl

    module _ (s : n ≤ most_bytes) where
      pub too_short : length out < n → write_of r out ≡ refuse 35 0
      unfolding write_of
      too_short h = rw (e, sym l, le-leb n most_bytes s, lt-leb n (length out) h) refl

      pub written : n ≤ length out → write_of r out ≡ accept n
      unfolding write_of
      written h = rw (e, sym l, le-leb n most_bytes s, le-leb n (length out) h) refl

      pub file-written : n ≤ length out → {out' : List ℕ} → out' ≡ file_of r ++ drop n out → out' ≡ write_leaves r out
      file-written h q = q ∙ sym (leaves_by (written h))

-- ---- the promise

module _ (mesh order sizes : List ℕ) (start : code.Sharding) (steps out : List ℕ) (m : Shorts mesh) (d : Shorts order) (t : Shorts sizes) where
  abbrev R : Records
  R = records_given mesh order sizes start steps

  module _ {out' : List ℕ} (l : out' ≡ write_leaves R out) (n : ℕ) (e : write_of R out ≡ accept n) where
    back : (p : Plan) × (judge (file_of R) ≡ accept p) × (records_of p ≡ R) × (length (file_of R) ≡ n)
    unfolding write_of
    back = let j = (then-inv (judge_records R) _ n e).0 in reads_back R (accepted-proper mesh order sizes start steps m d t j.0 j.1) out n e

    left : out' ≡ file_of R ++ drop n out
    left = l ∙ leaves_by R out e

    behind : drop n out' ≡ drop n out
    behind = ap (drop n) left ∙ drop_at (file_of R) (drop n out) n back.3

    again : (p : Plan) × (judge (take n out') ≡ accept p) × (records_of p ≡ R)
    again = (back.0, ap judge (ap (take n) left ∙ take_at (file_of R) (drop n out) n back.3) ∙ back.1, back.2)

  pub write-promise : (o : Result ℕ Refusal) (out' : List ℕ) → judged o ≡ write_of R out → out' ≡ write_leaves R out
      → WritePromise mesh order sizes start steps out o out'
  write-promise o out' a l = record {
    answers = a;
    leaves = l;
    stay = λ n e. behind l n (sym a ∙ e);
    refused = λ n k e. l ∙ sym (nothing_written R out (sym a ∙ e));
    reads_back = λ n e. again l n (sym a ∙ e);
  }
