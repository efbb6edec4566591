use mathlib.Core.Path.{refl, sym, ap, ◌∙◌}
use Rattle.types.specs.Answers.{refused_with}
use Rattle.groups.proofs.Tests.{size-zero, size-over, size-passes, sizes-pass}
use Rattle.groups.proofs.judge_sizes.Goals as goal

pub returns-then-size-eq0 : goal.returns-then-size-eq0
returns-then-size-eq0 c =
    ap (refused_with {A = Unit {0}}) c.outside.ensures
    ∙ sym (size-zero c.loop-size.invariant c.loop-size-test.true _ refl c.if-size-eq0.true)

pub returns-then-product-gt-MOST : goal.returns-then-product-gt-MOST
returns-then-product-gt-MOST c =
    ap (refused_with {A = Unit {0}}) c.outside-then-product-gt-MOST.ensures
    ∙ sym (size-over c.loop-size.invariant c.loop-size-test.true _ refl c.if-size-eq0.false c.if-product-gt-MOST.true)

pub loop-size-preserved : goal.loop-size-preserved
loop-size-preserved c = size-passes c.loop-size.invariant c.loop-size-test.true _ refl c.if-size-eq0.false c.if-product-gt-MOST.false

pub returns : goal.returns
returns c = sym (sizes-pass c.loop-size.invariant c.loop-size-test.false)
