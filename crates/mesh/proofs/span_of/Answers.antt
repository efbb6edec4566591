use native.Mathlib.Omega.{arith}
use native.Mathlib.Nat.{mul-one}
use Prim.Native.Nat.{◌*◌, ◌-◌}
use mathlib.Core.Path.{◌≡◌}
use lib.ListN.{drop}
use Rattle.rules.specs.Mesh.{span}
use Rattle.types.specs.Types.{axes_of}
use Rattle.laws.proofs.Lists.{drop-before}
use Rattle.mesh.proofs.Sizes.{span_less, group-pos}
use Rattle.mesh.proofs.span_of.Goals as goal
use Rattle.mesh.proofs.span_of.Goals.{After-size_at-count}

-- the devices with one axis more
next : (c : After-size_at-count)
    → c.size_at-count.result * c.loop-i.count ≡ span c.args.mesh.now (drop (c.loop-i.i - 1) (axes_of c.args.list))
next c =
    rw (drop-before 0 (axes_of c.args.list) c.loop-i.i (omega arith) (omega arith), ← c.at.ensures, c.loop-i.invariant.1, c.size_at-count.ensures)

pub overflow_mul-count : goal.overflow_mul-count
overflow_mul-count c =
    let mesh = c.args.mesh.now in
    let L = axes_of c.args.list in
    let i = c.loop-i.i - 1 in
    omega (
      arith,
      next ((goal.at.overflow_mul-count c).After-size_at-count),
      mul-one (span mesh (drop i L)),
      mul-one (span mesh L),
      span_less mesh L i 1 (group-pos mesh L c.requires.on.devices_pos),
      c.requires.few,
    )
