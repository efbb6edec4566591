use Rattle.std.proofs.Common.{rules, ℕ, ◌<◌, ◌≤◌, get_or, length, EachIndex, MatchOption}
use Rattle.placements.proofs.Firsts.{found-past}
use Rattle.placements.proofs.first_missing.Goals as goal

pub returns : goal.returns
returns c =
    let most = c.args.most in
    let l = c.args.devices.now in
    let h : MatchOption c.position.result (EachIndex l (λ k. get_or l k 0 < most)) (λ i. (i < length l) × (most ≤ get_or l i 0) × ((k : ℕ) → k < i → get_or l k 0 < most)) =
    search rules in
    found-past most l c.position.result h
