use native.Mathlib.Omega.{arith}
use mathlib.Core.Path.{refl, sym, ◌∙◌}
use Rattle.reader.proofs.Answers.{refused-so}
use Rattle.reader.proofs.Sizing.{judge-zero, judge-over, judge-next, judge-end, product-next}
use Rattle.reader.proofs.judge_sizes.Goals as goal

pub returns-then-size-eq0-clause-judges : goal.returns-then-size-eq0-clause-judges
returns-then-size-eq0-clause-judges c =
    refused-so c.outside.ensures (c.loop-size.invariant.same ∙ judge-zero _ _ _ _ _ _ c.loop-size-test.true c.if-size-eq0.true)

pub returns-then-most-product-clause-judges : goal.returns-then-most-product-clause-judges
returns-then-most-product-clause-judges c =
    refused-so c.outside-then-most-product.ensures (c.loop-size.invariant.same ∙ judge-over _ _ _ _ _ _ c.loop-size-test.true c.if-size-eq0.false c.if-most-product.true)

pub loop-size-preserved : goal.loop-size-preserved
loop-size-preserved c = let l = c.loop-size.invariant in
    record {
      low = omega arith;
      same = l.same ∙ judge-next _ _ _ _ _ _ c.loop-size-test.true c.if-size-eq0.false c.if-most-product.false;
      times = rw (product-next c.args.sizes.now c.loop-size.size-index c.loop-size-test.true, l.times) refl;
    }

pub returns-clause-judges : goal.returns-clause-judges
returns-clause-judges c = sym (c.loop-size.invariant.same ∙ judge-end _ _ _ _ _ _ c.loop-size-test.false)
