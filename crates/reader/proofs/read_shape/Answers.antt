use mathlib.Core.Path.{sym}
use native.Mathlib.Omega.{arith}
use lib.Dec.{lit≤}
use Rattle.std.proofs.lemmas.Result.{IfOk-from_err}
use Rattle.laws.proofs.Accepted.{mesh-and-table-facts}
use Rattle.reader.proofs.Answers.{handed-on}
use Rattle.reader.proofs.Heading.{headed}
use Rattle.reader.proofs.Ordering.{mesh-inside}
use Rattle.reader.proofs.Shaping.{mesh-stops, tensor-stops, shape_is, order-told}
use Rattle.reader.proofs.read_shape.Goals as goal

pub returns-in_err-first : goal.returns-in_err-first
returns-in_err-first c = let h = headed _ _ c.requires in
    record {
      reads = handed-on _ _ _ c.from_residual.ensures.1 (mesh-stops _ _ _ _ h.mesh_at_is (sym c.in_err-first.ensures.reads));
      counted = IfOk-from_err _ _ c.from_residual.ensures.0;
    }

pub read_sizes-requires : goal.read_sizes-requires
read_sizes-requires c = let h = headed _ _ c.requires in (
  omega arith,
  (
    mesh-inside _ _ _ _ (sym c.in_ok-first.ensures.reads),
    omega (arith, h.facts.short),
    omega (arith, h.facts.rank_few, h.rank_is),
    omega (arith, h.facts.rank_few, h.rank_is),
    lit≤ tt,
  ),
)

pub returns-in_err-second : goal.returns-in_err-second
returns-in_err-second c = let h = headed _ _ c.requires in
    record {
      reads = handed-on _ _ _ c.from_residual-in_err-second.ensures.1
          (tensor-stops _ _ _ _ h.mesh_at_is (sym c.in_ok-first.ensures.reads) h.table_at (sym c.in_err-second.ensures.reads));
      counted = IfOk-from_err _ _ c.from_residual-in_err-second.ensures.0;
    }

pub returns : goal.returns
returns c = let h = headed _ _ c.requires in
    let is = shape_is _ _ _ _ h.mesh_at_is (sym c.in_ok-first.ensures.reads) h.table_at (sym c.in_ok-second.ensures.reads) in
    let f = mesh-and-table-facts _ _ _ _ _ is in
    let order = order-told c.args.file.now c.args.header.axes h.edition_is c.in_ok-first.ensures.multiplies in
    record {
      reads = rw (← order) (sym is);
      counted = record {
        devices_are = c.in_ok-first.ensures.multiplies;
        n_is = sym f.axes_many;
        rank_is = sym f.rank_many;
      };
    }
