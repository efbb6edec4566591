-- Document 01, "Refusal numbers": judgements, which are tests in order, and refuse with these numbers.
-- Assumes nothing.
use Rattle.std.specs.Prelude.{ℕ, Bool, true, false}

-- "A refusal is a reason together with a step number": a judgement is a value, or a refusal by 01's number and the step number.
pub data Judged (A : Type 0) : Type 0 where
  accept : A → Judged A
  refuse : ℕ → ℕ → Judged A

-- Tests in order are written by `do`: the first refusal is the judgement's.
abbrev pub ◌>>=◌ : {A B : Type 0} → Judged A → (A → Judged B) → Judged B
◌>>=◌ (accept a) f = f a
◌>>=◌ (refuse n k) f = refuse n k

abbrev pub ◌>>◌ : {A B : Type 0} → Judged A → Judged B → Judged B
◌>>◌ (accept a) m = m
◌>>◌ (refuse n k) m = refuse n k

-- Refusal n unless the test holds: in step k; "the step number is 0 for every refusal outside 20 to 28", "and 41 to 44 carry
-- one" (02, Ask 11).
abbrev pub need_at : ℕ → Bool → ℕ → Judged (Unit {0})
need_at k true n = accept tt
need_at k false n = refuse n k

abbrev pub need : Bool → ℕ → Judged (Unit {0})
need test n = need_at 0 test n
