use native.Mathlib.Omega.{arith}
use mathlib.Core.Path.{◌≡◌, refl, sym, ap, ◌∙◌}
use lib.ListN.{length}
use Prim.Native.Nat.{◌≤◌}
use lib.Seq.{length-take-le}
use Rattle.std.specs.Prelude.{Result, Ok, Err}
use Rattle.std.specs.Result.{IsOk}
use Rattle.rules.specs.Lists.{product}
use Rattle.reader.specs.Reading.{reading}
use Rattle.taking.specs.Taking.{taken_of}
use Rattle.rounds.proofs.Plain.{plain-read}
use Rattle.rounds.proofs.Turns.{turned}
use Rattle.rounds.proofs.do_step.Goals as goal

pub returns : goal.returns
returns c =
    let b = c.shard_of-before in
    let y = b.type_inv in
    let z : b.result.rank ≤ length b.result.sizes = omega arith in
    let l = length-take-le _ _ z ∙ b.ensures.0 in
    turned c.unwrap-read.result c.requires (ap (reading (taken_of c.args.table.rank)) (sym c.unwrap-read.ensures) ∙ c.take_step.ensures) b.ensures.1 l
    (c.words-size.ensures ∙ ap product c.shard_of.ensures.1) _ _
    c.step_from.ensures.here_after c.step_from.ensures.there_after

not-refused : {A E : Type 0} (r : Result A E) → ((x : E) → r ≡ Err x → ⊥) → IsOk r
not-refused (Ok a) h = refl
not-refused (Err x) h = absurd (h x refl)

pub unwrap-read-requires : goal.unwrap-read-requires
unwrap-read-requires c = not-refused c.take_step.result (λ x e. plain-read c.requires c.take_step.ensures e)
