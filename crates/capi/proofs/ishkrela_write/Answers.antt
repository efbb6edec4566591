use Rattle.std.proofs.Common.{◌≡◌, ◌∙◌, refl, sym, ap, ℕ, Result, Ok, Err}
use Rattle.std.specs.Result.{result_unwrap_or}
use Rattle.types.specs.Answers.{judged}
use Rattle.types.specs.declared.Refusal.{Refusal}
use Rattle.records.specs.Writing.{write_of, write_leaves}
use Rattle.records.specs.Forms.{records_given}
use Rattle.capi.specs.Boundary.{refusal_code, written_reply}
use Rattle.capi.proofs.ishkrela_write.Goals as goal

in-numbers : (r : Result ℕ Refusal) → written_reply (judged r) ≡ record { refusal = refusal_code (judged r); bytes = result_unwrap_or r 0 }
in-numbers (Ok n) = refl
in-numbers (Err x) = refl

pub returns-clause-answers : goal.returns-clause-answers
returns-clause-answers c =
    let a = c.args in
    (λ i. record { refusal = c.outcome_code.ensures i; bytes = c.unwrap_or.ensures i }) ∙ sym (in-numbers c.write-outcome.result)
    ∙ ap written_reply (c.write-outcome.ensures.answers
    ∙ (λ i. write_of (records_given a.mesh.now a.order.now a.table.now (c.from-sharding.ensures i) a.steps.now) a.file.now))

pub returns-clause-leaves : goal.returns-clause-leaves
returns-clause-leaves c =
    let a = c.args in
    c.write-outcome.ensures.leaves ∙ (λ i. write_leaves (records_given a.mesh.now a.order.now a.table.now (c.from-sharding.ensures i) a.steps.now) a.file.now)
