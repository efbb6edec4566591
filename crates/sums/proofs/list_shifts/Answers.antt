use Rattle.std.proofs.Common.{◌-◌, ◌*◌, ◌≤◌, length, refl, ◌∙◌, mul-one, arith, length-take-le}
use Rattle.rules.specs.Mesh.{span}
use Rattle.rules.specs.Limits.{most_axes}
use Rattle.types.specs.Types.{axes_of}
use Rattle.types.proofs.Types.{axes-length}
use Rattle.strided.proofs.Joins.{digit-tail}
use Rattle.sums.specs.Sums.{axis_room}
use Rattle.laws.proofs.Fronts.{tail_all}
use Rattle.sums.proofs.Tables.{axes-offsets}
use Rattle.sums.proofs.list_shifts.Goals as goal
use Rattle.sums.proofs.list_shifts.Goals.{After-axis_digits-members, Start}

count : (s : Start) → length (axes_of s.args.axes) ≤ most_axes
count s = omega (arith, axes-length s.args.axes (s.well_formed.1.1.1.0.1.1.1.0.1.0.1))

pub axis_digits-members-requires : goal.axis_digits-members-requires
axis_digits-members-requires c = let s = c in
    record {
      front = record { room = omega (arith, count ((goal.at.axis_digits-members-requires c).Start)); inside = omega arith; count = refl; filled = omega arith };
      of_mesh = s.requires.of_mesh;
      has = s.requires.has;
      few = omega (arith, s.requires.members, mul-one (span s.args.mesh.now (axes_of s.args.axes)));
    }

pub overflow_mul-first : goal.overflow_mul-first
overflow_mul-first c = omega (arith, count ((goal.at.overflow_mul-first c).Start))

pub overflow_sub-first : goal.overflow_sub-first
overflow_sub-first c = omega (arith, count ((goal.at.overflow_sub-first c).Start), c.len.ensures)

pub list_offsets-requires : goal.list_offsets-requires
list_offsets-requires c =
    let r = c.axis_digits-members in
    let first = axis_room - 3 * length (axes_of c.args.axes) in
    let n = count ((goal.at.list_offsets-requires c).Start) in
    rw (
      c.len.ensures,
      tail_all r.new.digits first (axis_room - first) (omega (arith, n, r.auto.digits)) ∙ digit-tail _ first r.ensures.digits_after (omega arith),
      r.ensures.value ∙ mul-one (span c.args.mesh.now (axes_of c.args.axes)),
      length-take-le (span c.args.mesh.now (axes_of c.args.axes)) c.args.shifts.now c.requires.room,
    ) (axes-offsets c.requires)
