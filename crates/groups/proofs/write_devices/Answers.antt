use native.Mathlib.Omega.{arith}
use lib.ListN.{set}
use Rattle.types.specs.Types.{axes_of}
use Rattle.groups.proofs.Writing.{Turn, writing, turn}
use Rattle.groups.proofs.write_devices.Goals as goal
use Rattle.groups.proofs.write_devices.Goals.{After-size_at}

-- one turn of the loop
turned : (c : After-size_at)
    → (let l = c in
    let a = l.args in
    Turn a.mesh.now (axes_of a.axes) (set a.out.now 0 0) l.loop-i.out l.loop-i.count l.loop-i.i c.size_at.result
    c.product_from-stride.result)
turned c =
    let t = c in
    let l = c in
    let s = c in
    turn s.args.mesh.now (axes_of s.args.axes) s.args.out.now s.requires l.loop-i.invariant t.loop-i-test.true _ _ _
    t.at-axis.ensures c.size_at.ensures c.product_from-stride.ensures

pub loop-i-init : goal.loop-i-init
loop-i-init c = let a = c in
    writing a.args.mesh.now (axes_of a.args.axes) a.args.out.now a.requires _ c.len-i.ensures

pub overflow_mul-end : goal.overflow_mul-end
overflow_mul-end c = omega (arith, (turned ((goal.at.overflow_mul-end c).After-size_at)).few, c.requires.fits.devices_few)

pub repeat_devices-requires : goal.repeat_devices-requires
repeat_devices-requires c = (turned ((goal.at.repeat_devices-requires c).After-size_at)).repeats

pub loop-i-preserved : goal.loop-i-preserved
loop-i-preserved c = let r = c in (turned ((goal.at.loop-i-preserved c).After-size_at)).next _ r.repeat_devices.ensures
