use mathlib.Core.Path.{sym}
use Rattle.std.proofs.lemmas.Result.{err_from_is_err_and}
use native.Mathlib.Omega.{arith}
use Prim.Native.Nat.{◌≤◌}
use lib.ListN.{length}
use Rattle.rules.specs.Limits.{most_bytes}
use Rattle.records.specs.Writing.{judge_records}
use Rattle.records.specs.Forms.{records_given}
use Rattle.encode.proofs.Accepted.{accepted-encodable}
use Rattle.writer.proofs.Writes.{judged-fine, nothing_written, records-refused, too_long, too_short, written, file-written, write-promise}
use Rattle.writer.proofs.write.Goals as goal

pub returns-in_err-judge_records : goal.returns-in_err-judge_records
returns-in_err-judge_records c = let a = c.args in
    let R = records_given a.mesh.now a.order.now a.table.now a.start a.steps.now in
    let r = c.from_residual in
    let p = err_from_is_err_and r.result r.ensures.1 in
    let w = records-refused R a.file.now _ c.in_err-judge_records.ensures in
    write-promise _ _ _ _ _ _ (λ i. (c.type_inv.mesh i).fits) (λ i. (c.type_inv.order i).fits) (λ i. (c.type_inv.table i).fits) _ _ (rw (p.1, p.2) (sym w)) (nothing_written R a.file.now w)

pub file_length-length-requires : goal.file_length-length-requires
file_length-length-requires c = let a = c.args in
    let R = records_given a.mesh.now a.order.now a.table.now a.start a.steps.now in
    let p = judged-fine (judge_records R) c.in_ok-judge_records.ensures in
    (accepted-encodable a.mesh.now a.order.now a.table.now a.start a.steps.now p.0 p.1).0

pub returns-then-length-gt-MOST : goal.returns-then-length-gt-MOST
returns-then-length-gt-MOST c = let a = c.args in
    let R = records_given a.mesh.now a.order.now a.table.now a.start a.steps.now in
    let p = judged-fine (judge_records R) c.in_ok-judge_records.ensures in
    let w = too_long R a.file.now p.1 c.file_length-length.ensures c.if-length-gt-MOST.true in
    write-promise _ _ _ _ _ _ (λ i. (c.type_inv.mesh i).fits) (λ i. (c.type_inv.order i).fits) (λ i. (c.type_inv.table i).fits) _ _ (rw c.outside.ensures (sym w)) (nothing_written R a.file.now w)

pub returns-then-file-length : goal.returns-then-file-length
returns-then-file-length c = let a = c.args in
    let R = records_given a.mesh.now a.order.now a.table.now a.start a.steps.now in
    let p = judged-fine (judge_records R) c.in_ok-judge_records.ensures in
    let w = too_short R a.file.now p.1 c.file_length-length.ensures c.if-length-gt-MOST.false c.if-file-length.true in
    write-promise _ _ _ _ _ _ (λ i. (c.type_inv.mesh i).fits) (λ i. (c.type_inv.order i).fits) (λ i. (c.type_inv.table i).fits) _ _ (rw c.outside-then-file-length.ensures (sym w)) (nothing_written R a.file.now w)

pub put_file-requires : goal.put_file-requires
put_file-requires c = let a = c.args in
    let R = records_given a.mesh.now a.order.now a.table.now a.start a.steps.now in
    let p = judged-fine (judge_records R) c.in_ok-judge_records.ensures in
    let k = accepted-encodable a.mesh.now a.order.now a.table.now a.start a.steps.now p.0 p.1 in
    record {
      encodable = k.0;
      few = k.1;
      short = omega (arith, c.file_length-length.ensures, c.if-length-gt-MOST.false);
      room = omega (arith, c.file_length-length.ensures, c.if-file-length.false);
    }

pub returns : goal.returns
returns c = let a = c.args in
    let R = records_given a.mesh.now a.order.now a.table.now a.start a.steps.now in
    let p = judged-fine (judge_records R) c.in_ok-judge_records.ensures in
    let n = c.put_file.ensures.answers in
    let s : c.put_file.result ≤ most_bytes = omega (arith, n, c.file_length-length.ensures, c.if-length-gt-MOST.false) in
    let o : c.put_file.result ≤ length a.file.now = omega (arith, n, c.file_length-length.ensures, c.if-file-length.false) in
    write-promise _ _ _ _ _ _ (λ i. (c.type_inv.mesh i).fits) (λ i. (c.type_inv.order i).fits) (λ i. (c.type_inv.table i).fits) _ _ (sym (written R a.file.now p.1 n s o)) (file-written R a.file.now p.1 n s o c.put_file.ensures.leaves)
