use native.Mathlib.Omega.{arith}
use Prim.Native.Nat.{◌*◌, ◌≤◌, ◌<◌}
use mathlib.Core.Path.{sym, ap, ◌∙◌, subst}
use lib.ListN.{length}
use Rattle.rules.specs.Limits.{most_run}
use Rattle.pieces.proofs.Blocks.{first-open, changed, too_many, closes, framed-first, framed-rest}
use Rattle.pieces.proofs.close_block.Goals as goal

pub returns-then-not-same_sharding : goal.returns-then-not-same_sharding
returns-then-not-same_sharding c = let a = c.args in
    changed a.rank a.standing a.frame _ (first-open a.standing.frames.0 c.requires.1) (sym c.same_sharding.ensures ∙ c.if-not-same_sharding.true)

pub returns-then-runs-gt-MOST_RUN : goal.returns-then-runs-gt-MOST_RUN
returns-then-runs-gt-MOST_RUN c = let a = c.args in
    too_many a.rank a.standing a.frame _ (first-open a.standing.frames.0 c.requires.1) (sym c.same_sharding.ensures ∙ c.if-not-same_sharding.false)
    (subst (λ n. most_run < n * a.standing.ran) c.from.ensures c.if-runs-gt-MOST_RUN.true)

pub returns : goal.returns
returns c = let a = c.args in
    let inner = c.around.ensures a.frame c.requires.1 in
    let few = subst (λ n. n * a.standing.ran ≤ most_run) c.from.ensures c.if-runs-gt-MOST_RUN.false in
    let g = framed-first a.rank a.standing a.frame _ inner c.requires.0 in
    rw c.from.ensures (
      closes a.rank a.standing a.frame _ inner (sym c.same_sharding.ensures ∙ c.if-not-same_sharding.false) few,
      omega (arith, ap length inner),
      record {
        rank_few = c.requires.0.rank_few;
        ran_few = omega (arith, g.0, g.1, few);
        framed = framed-rest a.rank a.standing a.frame _ inner c.requires.0;
      },
    )
