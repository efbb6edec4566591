use Rattle.std.proofs.Common.{rules, ◌≡◌, ◌≢◌, ℕ, ◌<◌, get_or, length, EachIndex, MatchOption, ◌∙◌}
use Rattle.order.proofs.Loops.{found-first}
use Rattle.order.proofs.place_in.Goals as goal

pub returns : goal.returns
returns c =
    let d = c.args.d in
    let l = c.args.order.now in
    let h : MatchOption c.position.result (EachIndex l (λ k. get_or l k 0 ≢ d)) (λ i. (i < length l) × (get_or l i 0 ≡ d) × ((k : ℕ) → k < i → get_or l k 0 ≢ d)) =
    search rules in
    c.unwrap_or.ensures ∙ found-first d l c.position.result h
