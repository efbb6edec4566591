use native.Mathlib.Omega.{arith}
use mathlib.Core.Path.{sym}
use Rattle.std.proofs.lemmas.Result.{IfOk-from_err}
use Rattle.reader.proofs.Answers.{refused-so, handed-on}
use Rattle.reader.proofs.Heading.{headed}
use Rattle.opening.proofs.Opens.{within-places, of-rank, header-stops, shape-stops, sharding-stops, offset-stops, start-stops, front-is}
use Rattle.opening.proofs.open.Goals as goal

pub returns-in_err-header : goal.returns-in_err-header
returns-in_err-header c = record { reads = handed-on _ _ _ c.from_residual.ensures.1 (header-stops _ (sym c.in_err-header.ensures)); told = IfOk-from_err _ _ c.from_residual.ensures.0 }

pub returns-in_err-shape : goal.returns-in_err-shape
returns-in_err-shape c = let e = c.from_residual-in_err-shape.ensures in
    record {
      reads = handed-on _ _ _ e.1 (shape-stops _ (sym c.in_ok-header.ensures) (sym c.in_err-shape.ensures.reads));
      told = IfOk-from_err _ _ e.0;
    }

pub read_sharding-requires : goal.read_sharding-requires
read_sharding-requires c = let h = headed _ _ (sym c.in_ok-header.ensures) in
    (omega (arith, h.axes_are, h.facts.axes_few), omega (arith, h.rank_is, h.facts.rank_few))

pub returns-in_err-start : goal.returns-in_err-start
returns-in_err-start c = let e = c.from_residual-in_err-start.ensures in
    record {
      reads = handed-on _ _ _ e.1 (sharding-stops _ (sym c.in_ok-header.ensures) (sym c.in_ok-shape.ensures.reads) (sym c.in_err-start.ensures));
      told = IfOk-from_err _ _ e.0;
    }

pub returns-then-header-start : goal.returns-then-header-start
returns-then-header-start c = record {
  reads = refused-so c.outside.ensures (offset-stops _ (sym c.in_ok-header.ensures) (sym c.in_ok-shape.ensures.reads) (sym c.in_ok-start.ensures) c.if-header-start.true);
  told = tt;
}

pub judge_opening-requires : goal.judge_opening-requires
judge_opening-requires c = within-places _ (sym c.in_ok-header.ensures) (sym c.in_ok-shape.ensures.reads) c.in_ok-shape.ensures.counted

pub returns-in_err-judge_opening : goal.returns-in_err-judge_opening
returns-in_err-judge_opening c = let e = c.from_residual-in_err-judge_opening.ensures in
    let h = sym c.in_ok-header.ensures in
    let m = c.in_ok-shape.ensures in
    let s = of-rank _ h (sym m.reads) m.counted _ (sym c.in_ok-start.ensures) in
    record {
      reads = handed-on _ _ _ e.1 (start-stops _ h (sym m.reads) s c.if-header-start.false (sym c.in_err-judge_opening.ensures));
      told = IfOk-from_err _ _ e.0;
    }

pub returns : goal.returns
returns c = let h = sym c.in_ok-header.ensures in
    let m = c.in_ok-shape.ensures in
    let s = of-rank _ h (sym m.reads) m.counted _ (sym c.in_ok-start.ensures) in
    record {
      reads = sym (front-is _ h (sym m.reads) s c.if-header-start.false (sym c.in_ok-judge_opening.ensures));
      told = record { counted = m.counted; steps_are = (headed _ _ h).steps_are };
    }
