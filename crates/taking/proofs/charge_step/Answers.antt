use native.Mathlib.Omega.{arith}
use Prim.Native.Nat.{◌*◌}
use mathlib.Core.Path.{sym, ap₂, ◌∙◌}
use Rattle.rules.specs.Moved.{closed_form, charge_of}
use Rattle.types.specs.Types.{step_of}
use Rattle.laws.proofs.Moved.{step-charged}
use Rattle.taking.proofs.charge_step.Goals as goal

pub group_size-group-requires : goal.group_size-group-requires
unfolding charge_of
group_size-group-requires c = let p = c.requires in
    let f = step-charged _ _ p.extends.within _ _ p.ready.sound p.accepted in
    (p.ready.fits.rank, p.ready.fits.sized, f.axes_few)

pub charge-requires : goal.charge-requires
unfolding charge_of
charge-requires c = let p = c.requires in
    let f = step-charged _ _ p.extends.within _ _ p.ready.sound p.accepted in
    let all = ap₂ ◌*◌ p.extends.devices_are c.shard_words-words.ensures in
    (omega (arith, all, f.words_most), omega (arith, c.group_size-group.ensures, f.group_some), omega (arith, c.group_size-group.ensures, f.group_most))

pub returns : goal.returns
unfolding charge_of
returns c = let p = c.requires in
    let a = c.args in
    let t = step_of a.table.rank a.step in
    let f = step-charged _ _ p.extends.within _ _ p.ready.sound p.accepted in
    c.charge.ensures a.table.rank
    ∙ (λ i. closed_form t (p.extends.devices_are i) (c.shard_words-words.ensures i) (c.group_size-group.ensures i))
    ∙ sym f.closed
