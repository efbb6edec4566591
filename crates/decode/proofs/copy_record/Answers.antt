use native.Mathlib.Omega.{arith}
use Rattle.decode.proofs.Walks.{stands-inside, repeat-bytes, repeat-copied, plain_copied, never-refused}
use Rattle.decode.proofs.copy_record.Goals as goal

pub bounds-file-at : goal.bounds-file-at
bounds-file-at c = omega (arith, stands-inside c.requires.2.stands)

pub bounds-file-at-then-file-at-eq9 : goal.bounds-file-at-then-file-at-eq9
bounds-file-at-then-file-at-eq9 c = omega (arith, repeat-bytes _ c.requires.2.stands c.if-file-at-eq9.true)

pub bounds-file-at-then-file-at-eq9-2 : goal.bounds-file-at-then-file-at-eq9-2
bounds-file-at-then-file-at-eq9-2 c = omega (arith, repeat-bytes _ c.requires.2.stands c.if-file-at-eq9.true)

pub returns-then-file-at-eq9 : goal.returns-then-file-at-eq9
returns-then-file-at-eq9 c = repeat-copied c.if-file-at-eq9.true c.put_repeat.ensures

pub unwrap-read-requires : goal.unwrap-read-requires
unwrap-read-requires c = never-refused 0 c.if-file-at-eq9.false c.read_step.result c.read_step.ensures _ c.requires.2.stands

pub returns : goal.returns
returns c = plain_copied 0 c.if-file-at-eq9.false c.read_step.result c.unwrap-read.result c.read_step.ensures c.unwrap-read.ensures c.put_plain.ensures
