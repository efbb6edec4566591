use Rattle.std.proofs.Common.{rules, ◌≡◌, ◌↔◌, get_or, IsTrue, EachIndex}
use Rattle.order.proofs.Loops.{same-plain}
use Rattle.order.proofs.is_plain.Goals as goal

pub returns : goal.returns
returns c =
    let h : IsTrue c.all.result ↔ EachIndex c.args.order.now (λ k. get_or c.args.order.now k 0 ≡ k) = search rules in
    same-plain c.args.order.now c.all.result h
