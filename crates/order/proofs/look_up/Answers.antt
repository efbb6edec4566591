use native.Mathlib.Omega.{arith}
use Prim.Native.Nat.{ℕ}
use mathlib.Core.Path.{◌≡◌, ap, ◌∙◌}
use mathlib.Core.List.{List}
use lib.ListN.{get_or}
use Rattle.laws.proofs.Fronts.{fill-word, fill_end, front-behind}
use Rattle.order.proofs.Loops.{looked-up}
use Rattle.order.proofs.look_up.Goals as goal
use Rattle.order.proofs.look_up.Goals.{In-loop-number}

-- the place that is looked up is as it was given, and within the order
as_given : (c : In-loop-number)
    → (let l = c in get_or l.loop-number.number-items l.loop-number.number-index 0 ≡ get_or l.args.numbers.now l.loop-number.number-index 0)
as_given c = ap (λ (b : List ℕ). get_or b c.loop-number.number-index 0) c.loop-number.invariant.front
    ∙ front-behind 0 (λ k. get_or c.args.order.now (get_or c.args.numbers.now k 0) 0) c.args.numbers.now c.loop-number.number-index

pub loop-number-preserved : goal.loop-number-preserved
loop-number-preserved c = fill-word c.loop-number.invariant (omega (arith, c.loop-number.invariant.size, c.loop-number-test.true))
    (ap (λ (p : ℕ). get_or c.args.order.now p 0) (as_given ((goal.at.loop-number-preserved c).In-loop-number)))

pub returns : goal.returns
returns c = let a = c.args in
    fill_end c.loop-number.invariant (omega (arith, c.loop-number.invariant.size, c.loop-number-test.false))
    ∙ looked-up (λ p. get_or a.order.now p 0) a.numbers.now
