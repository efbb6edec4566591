use mathlib.Core.Path.{sym}
use borrow.Author.Tests.{eq-eqb, ne_eqb}
use Rattle.rules.specs.PlanFile.{sharding_at}
use Rattle.reader.proofs.Answers.{refused-so, handed-on}
use Rattle.reader.proofs.read_sharding.Goals as goal

pub returns-then-header-at : goal.returns-then-header-at
unfolding sharding_at
returns-then-header-at c = let h = c.args.header in
    refused-so c.outside.ensures (simp (ne_eqb h.sharding_at c.args.at c.if-header-at.true))

pub returns-in_err-dims : goal.returns-in_err-dims
unfolding sharding_at
returns-in_err-dims c = let here = eq-eqb c.args.header.sharding_at c.args.at c.if-header-at.false in
    handed-on _ _ _ c.from_residual.ensures.1 (simp (here, sym c.in_err-dims.ensures))

pub returns-in_err-unreduced : goal.returns-in_err-unreduced
unfolding sharding_at
returns-in_err-unreduced c = let here = eq-eqb c.args.header.sharding_at c.args.at c.if-header-at.false in
    handed-on _ _ _ c.from_residual-in_err-unreduced.ensures.1 (simp (here, sym c.in_ok-dims.ensures, sym c.in_err-unreduced.ensures))

pub returns-in_err-replicated : goal.returns-in_err-replicated
unfolding sharding_at
returns-in_err-replicated c = let here = eq-eqb c.args.header.sharding_at c.args.at c.if-header-at.false in
    handed-on _ _ _ c.from_residual-in_err-replicated.ensures.1
    (simp (here, sym c.in_ok-dims.ensures, sym c.in_ok-unreduced.ensures, sym c.carries_replicated.ensures, sym c.in_err-replicated.ensures))

pub returns : goal.returns
unfolding sharding_at
returns c = let here = eq-eqb c.args.header.sharding_at c.args.at c.if-header-at.false in
    simp (here, sym c.in_ok-dims.ensures, sym c.in_ok-unreduced.ensures, sym c.carries_replicated.ensures, sym c.in_ok-replicated.ensures)
