use Prim.Native.Nat.{ℕ, ◌+◌}
use mathlib.Core.Path.{◌≡◌, sym, ap, ◌∙◌}
use mathlib.Core.Bool.{true, false}
use mathlib.Core.List.{List, [], ◌∷◌, ◌++◌, append-nil}
use native.Mathlib.Omega.{arith}
use lib.ListN.{length, get_or, drop, length-append, drop_of_length-le}
use Rattle.rules.specs.Lists.{keep, without}
use Rattle.types.specs.Types.{axes_of, numbers_of}
use Rattle.types.specs.declared.Axis.{Axis}
use Rattle.groups.proofs.Lists.{axis-kept}
use Rattle.groups.proofs.extended.Goals as goal
use Rattle.groups.proofs.extended.Goals.{then-not-is_in, else-not-is_in}

pub with-whole-requires : goal.with-whole-requires
with-whole-requires c = let axes = c.as_slice-axis-items.result.now in
    let i = c.loop-axis.axis-index in
    let K = axes_of c.loop-axis.whole in
    let but = axes_of c.args.but in
    let e = axis-kept _ K but axes i false c.loop-axis.invariant c.loop-axis-test.true c.if-not-is_in.ensures in
    omega (
      arith,
      c.requires,
      ap length e,
      length-append (K ++ (get_or axes i (record { 0 = 0 })).0 ∷ []) (without (numbers_of (drop (i + 1) axes)) but),
      length-append K ((get_or axes i (record { 0 = 0 })).0 ∷ []),
    )

pub loop-axis-preserved : goal.loop-axis-preserved
loop-axis-preserved c = let axes = c.as_slice-axis-items.result.now in
    let i = c.loop-axis.axis-index in
    let K = axes_of c.loop-axis.whole in
    let but = axes_of c.args.but in
    elim c.if-not-is_in.branch [
      | then-not-is_in w ↦ rw (w.whole-is, w.with-whole.ensures)
          (axis-kept _ K but axes i false c.loop-axis.invariant c.loop-axis-test.true w.if-not-is_in.ensures)
      | else-not-is_in w ↦ rw w.whole-is
          (axis-kept _ K but axes i true c.loop-axis.invariant c.loop-axis-test.true w.if-not-is_in.ensures
          ∙ ap (λ (l : List ℕ). l ++ without (numbers_of (drop (i + 1) axes)) but) (append-nil K))
    ]

pub returns : goal.returns
unfolding numbers_of without keep
returns c = let axes = c.as_slice-axis-items.result.now in
    let whole = axes_of c.loop-axis.whole in
    let none : drop c.loop-axis.axis-index axes ≡ [] = drop_of_length-le axes {i = c.loop-axis.axis-index} (omega arith) in
    sym (c.loop-axis.invariant ∙ ap (λ (l : List Axis). whole ++ without (numbers_of l) (axes_of c.args.but)) none ∙ append-nil whole)
