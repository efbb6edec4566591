-- Each place as a record. Assumes nothing.
use Rattle.std.proofs.Common.{rules, arith, ◌≡◌, ◌<◌, ◌∙◌, sym, refl, ℕ, suc, List, [], ◌∷◌, map, length, get_or, None}
use Rattle.std.proofs.lemmas.Grind.{common_steps}
use Rattle.marshal.specs.Structs.{blank_step, step_in_place}
use Rattle.capi.proofs.plan_made.Goals as goal

mapped : {A B : Type 0} (f : A → B) (d : A) (e : B) (l : List A) (r : List B) → length r ≡ length l
    → ((i : ℕ) → i < length l → get_or r i e ≡ f (get_or l i d)) → r ≡ map f l
mapped f d e [] [] q h = refl
mapped f d e [] (x ∷ r) q h = absurd (omega arith)
mapped f d e (a ∷ l) [] q h = absurd (omega arith)
mapped f d e (a ∷ l) (x ∷ r) q h = λ i. h 0 (omega arith) i ∷ mapped f d e l r (omega arith) (λ k g. h (suc k) (omega arith)) i

pub returns : goal.returns
returns c =
    let full : length c.args.plan.0 ≡ 3 = search rules in
    let told : c.map.result ≡ map step_in_place c.args.plan.0 =
    mapped step_in_place None blank_step c.args.plan.0 c.map.result (c.map.ensures.items.long ∙ sym full)
    (λ i h. let at = c.map.ensures.items.at i None blank_step (omega arith) in grind (arith, common_steps, at)) in
    λ i. record { refusal = 0; count = c.count.ensures i; steps = told i }
