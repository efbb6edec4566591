use Rattle.std.proofs.Common.{◌-◌, ◌*◌, length, ◌∙◌, arith}
use Rattle.strided.proofs.Joins.{digit-tail}
use Rattle.sums.specs.Sums.{axis_room}
use Rattle.laws.proofs.Fronts.{tail_all}
use Rattle.sums.proofs.Tables.{mesh-offsets}
use Rattle.sums.proofs.list_firsts.Goals as goal

pub list_offsets-requires : goal.list_offsets-requires
list_offsets-requires c =
    let r = c.mesh_digits in
    let first = axis_room - 3 * length c.args.mesh.now in
    rw (tail_all r.new.digits first (axis_room - first) (omega (arith, r.auto.digits)) ∙ digit-tail _ first r.ensures (omega arith)) (mesh-offsets c.requires)
