use mathlib.Core.Bool.{Bool}
use mathlib.Core.List.{List, ◌++◌}
use mathlib.Core.Path.{sym, ap, ◌∙◌}
use Rattle.rules.specs.Lists.{flat}
use Rattle.types.specs.Types.{sharding_of}
use Rattle.axes.specs.Marks.{marks_with}
use Rattle.axes.proofs.Naming.{with_append}
use Rattle.judge.proofs.mark_named.Goals as goal

pub returns : goal.returns
returns c = let a = c.args in
    let s = sharding_of a.rank a.sharding in
    let m = a.marks.now in
    c.mark_list-2.ensures
    ∙ ap (λ (x : List Bool). marks_with x s.replicated)
    (c.mark_list.ensures ∙ ap (λ (x : List Bool). marks_with x s.unreduced) c.mark_dims.ensures ∙ sym (with_append m (flat s.dims) s.unreduced))
    ∙ sym (with_append m (flat s.dims ++ s.unreduced) s.replicated)
