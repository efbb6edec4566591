use Rattle.std.proofs.Common.{◌∙◌}
use Rattle.capi.proofs.Replies.{place-all-told}
use Rattle.capi.proofs.ishkrela_place_all.Goals as goal

pub returns-clause-answers : goal.returns-clause-answers
returns-clause-answers c =
    (λ i. record { refusal = c.outcome_code.ensures i; place = c.place_all-placed.result.place }) ∙ place-all-told _ _ _ _ c.place_all-placed.ensures
