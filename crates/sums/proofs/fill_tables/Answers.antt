use Rattle.std.proofs.Common.{[], ap, ◌∙◌}
use Rattle.rules.specs.Lists.{tab}
use Rattle.types.specs.Types.{axes_of}
use Rattle.strided.specs.Strided.{offset}
use Rattle.digits.specs.Digits.{mesh_strides, cleared, axis_digits}
use Rattle.sums.specs.Sums.{first_words, shift_words}
use Rattle.sums.proofs.Tables.{shifts-asked, firsts-asked}
use Rattle.sums.proofs.fill_tables.Goals as goal

pub list_shifts-members-requires : goal.list_shifts-members-requires
list_shifts-members-requires c = shifts-asked c.requires c.fill_strides.new.strides c.fill_strides.ensures

pub list_firsts-requires : goal.list_firsts-requires
list_firsts-requires c =
    let r = c.list_shifts-members in
    firsts-asked c.requires r.new.strides (r.ensures.strides_after ∙ ap (cleared (axes_of c.args.axes)) c.fill_strides.ensures)

pub returns-clause-firsts_after : goal.returns-clause-firsts_after
unfolding first_words
returns-clause-firsts_after c =
    let left = c.list_shifts-members.ensures.strides_after ∙ ap (cleared (axes_of c.args.axes)) c.fill_strides.ensures in
    rw left at c.list_firsts.ensures

pub returns-clause-shifts_after : goal.returns-clause-shifts_after
unfolding shift_words
returns-clause-shifts_after c =
    let mesh = c.args.mesh.now in
    let r = c.list_shifts-members in
    let made = axis_digits mesh (axes_of c.args.axes) (mesh_strides mesh c.args.m) [] in
    rw c.fill_strides.ensures at r.ensures.shifts_after ∙ ap (λ n. tab n (offset made)) r.ensures.value
