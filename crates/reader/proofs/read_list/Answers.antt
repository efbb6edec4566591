use Prim.Native.Nat.{◌+◌}
use mathlib.Core.Path.{refl, sym}
use native.Mathlib.Omega.{arith}
use Rattle.laws.proofs.Fronts.{part_cut}
use Rattle.reader.proofs.Answers.{refused-so}
use Rattle.reader.proofs.Listing.{ByteIs, byte-is, no-count, count-above, axes-missing, list-whole}
use Rattle.reader.proofs.read_list.Goals as goal
use Rattle.reader.proofs.read_list.Goals.{In-Some}

-- the count byte
count_is : (c : In-Some) → ByteIs c.args.file.now c.args.at c.in-Some.byte.now
count_is c = byte-is c.in-Some.ensures.lookup.3

pub returns-in_default : goal.returns-in_default
returns-in_default c = refused-so c.outside.ensures (no-count _ _ _ c.in_default.ensures.lookup.3)

pub returns-then-n-count : goal.returns-then-n-count
returns-then-n-count c =
    refused-so c.outside-then-n-count.ensures (count-above _ _ _ (count_is ((goal.at.returns-then-n-count c).In-Some)) c.if-n-count.true)

pub returns-then-file-first : goal.returns-then-file-first
returns-then-file-first c = let h = count_is ((goal.at.returns-then-file-first c).In-Some) in
    refused-so c.outside-then-file-first.ensures (axes-missing _ _ _ h c.if-n-count.false (omega (arith, c.if-file-first.true)))

pub returns : goal.returns
returns c = let h = count_is ((goal.at.returns c).In-Some) in
    sym (list-whole _ _ _ h c.if-n-count.false (omega (arith, c.if-file-first.false)) c.requires _ refl
    (simp (
      c.axis_in.ensures,
      c.axis_in-2.ensures,
      c.axis_in-3.ensures,
      c.axis_in-4.ensures,
      c.axis_in-5.ensures,
      c.axis_in-6.ensures,
      part_cut (c.args.at + 1) c.in-Some.byte.now,
    )))
