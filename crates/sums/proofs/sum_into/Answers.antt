use Rattle.std.proofs.Common.{◌≤◌, length, sym, arith, length-take-le}
use Rattle.types.specs.Types.{axes_of}
use Rattle.rules.specs.Spread.{add_words}
use Rattle.laws.proofs.Groups.{group-few}
use Rattle.sums.proofs.Tables.{groups-asked, groups-leave, summed-is}
use Rattle.sums.proofs.sum_into.Goals as goal
use Rattle.sums.proofs.sum_into.Goals.{After-fill_tables-members}

-- a group has no more members than there are places
few : (c : After-fill_tables-members) → c.fill_tables-members.result ≤ length c.fill_tables-members.new.shifts
few c =
    let q = c.requires in
    omega (arith, c.fill_tables-members.ensures.value, group-few c.args.mesh.now (axes_of c.args.axes) q.once q.of_mesh q.on.devices_pos, q.on.devices_few)

pub slice_bounds-shifts-end : goal.slice_bounds-shifts-end
slice_bounds-shifts-end c = few ((goal.at.slice_bounds-shifts-end c).After-fill_tables-members)

pub slice_bounds-reduce_groups-end : goal.slice_bounds-reduce_groups-end
slice_bounds-reduce_groups-end c =
    sym (length-take-le c.fill_tables-members.result c.fill_tables-members.new.shifts (few ((goal.at.slice_bounds-reduce_groups-end c).After-fill_tables-members)))

pub reduce_groups-requires : goal.reduce_groups-requires
reduce_groups-requires c =
    let q = c.requires in
    let r = c.fill_tables-members.ensures in
    let m = c.product_from-m in
    let both = groups-asked c.args.mesh.now (axes_of c.args.axes) m.result q.on.devices_pos q.once q.of_mesh (length c.args.words.now) (rw m.ensures q.room)
    c.args.all r.firsts_after r.shifts_after r.value c.getters.ensures in
    record { groups = both.0; some = both.1 }

pub returns : goal.returns
returns c =
    let q = c.requires in
    let r = c.fill_tables-members.ensures in
    let m = c.product_from-m in
    let mesh = c.args.mesh.now in
    let L = axes_of c.args.axes in
    summed-is add_words 0 mesh c.args.shape.now L c.args.words.now q.on.devices_pos q.once q.of_mesh q.room c.reduce_groups.new.words c.reduce_groups.auto.words
    (rw m.ensures at (groups-leave mesh L m.result q.on.devices_pos q.once q.of_mesh add_words 0 c.args.all r.firsts_after r.shifts_after r.value c.getters.ensures c.reduce_groups.ensures))
