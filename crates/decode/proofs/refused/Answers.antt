use Rattle.std.specs.Prelude.{Err}
use mathlib.Core.Path.{sym}
use mathlib.Core.List.{[]}
use Rattle.types.specs.Types.{four_places}
use Rattle.types.proofs.Refusals.{refusal-told}
use Rattle.records.specs.Forms.{six_places}
use Rattle.decode.proofs.refused.Goals as goal

pub returns : goal.returns
returns c = let told = sym (refusal-told c.args.refusal) in
    (λ i. record { outcome = Err (told i); mesh = six_places []; table = four_places 0 []; start = c.no_lists.ensures i })
