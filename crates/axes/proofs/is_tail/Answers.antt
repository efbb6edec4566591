use mathlib.Core.Path.{ap, ◌∙◌}
use mathlib.Core.List.{List}
use Prim.Native.Nat.{ℕ}
use Rattle.rules.specs.PlanFile.{is_tail}
use Rattle.types.specs.Types.{axes_of, numbers_of}
use Rattle.axes.proofs.Slices.{tail-axes}
use Rattle.axes.proofs.is_tail.Goals as goal

pub returns : goal.returns
returns c =
    let xs = c.as_slice.result.now in
    let ys = c.as_slice-2.result.now in
    c.ends_with.ensures.value ∙ tail-axes xs ys ∙ ap (λ (L : List ℕ). is_tail L (numbers_of ys)) c.as_slice.ensures ∙ ap (is_tail (axes_of c.args.list)) c.as_slice-2.ensures
