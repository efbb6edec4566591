use native.Mathlib.Omega.{arith}
use Prim.Native.Nat.{ℕ, ◌-◌}
use mathlib.Core.Path.{sym, ap, ◌∙◌}
use Rattle.rules.specs.Limits.{most_depth}
use Rattle.blocks.specs.Blocks.{head_at}
use Rattle.blocks.proofs.Heads.{head-facts}
use Rattle.units.specs.Units as units
use Rattle.pieces.specs.Held.{standing_of}
use Rattle.pieces.proofs.Feeds.{tried-on, deep-as}
use Rattle.pieces.proofs.feed_head.Goals as goal

pub after_head-requires : goal.after_head-requires
after_head-requires c = let f = head-facts _ _ _ _ (sym c.in-Ok.ensures) in
    (omega (arith, f.allowed, c.depth-depth.ensures.0), c.requires.1, f.number_some)

pub returns-in-Ok : goal.returns-in-Ok
returns-in-Ok c mesh sizes rank = let a = c.args in
    let q = standing_of rank a.standing in
    let deep = deep-as rank a.standing.frames ∙ ap (λ (n : ℕ). most_depth - n) (sym c.depth-depth.ensures.0) in
    let read = ap (λ (d : ℕ). head_at d q.number a.unit.now 1) deep ∙ sym c.in-Ok.ensures in
    ap units.turned (c.after_head.ensures mesh sizes rank)
    ∙ tried-on (head_at (units.depth_in q.frames) q.number a.unit.now 1) (record { unit = a.unit.now; phase = units.in_steps mesh sizes q })
    (units.after_head mesh sizes q) read
