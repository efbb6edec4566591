use mathlib.Core.List.{[], ◌∷◌}
use Rattle.records.specs.Forms.{record_of}
use Rattle.decode.proofs.Forms.{without-list}
use Rattle.decode.proofs.put_repeat.Goals as goal

pub returns : goal.returns
unfolding record_of
returns c = let a = c.args in
    without-list (9 ∷ a.count ∷ a.number ∷ []) [] c.empty-none.ensures c.put_form.ensures
