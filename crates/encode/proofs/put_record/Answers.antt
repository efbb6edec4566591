use Rattle.encode.proofs.Given.{plain-short, repeat-put, plain-put, unknown-put}
use Rattle.encode.proofs.put_record.Goals as goal

pub returns-then-steps-from-eq9 : goal.returns-then-steps-from-eq9
returns-then-steps-from-eq9 c = let a = c.args in
    repeat-put a.rank a.steps.now a.from c.if-steps-from-eq9.true c.put_three.ensures

pub put_step-requires : goal.put_step-requires
put_step-requires c = let a = c.args in
    let p = c.requires in
    (p.0, p.1, plain-short a.rank a.steps.now a.from c.if-steps-from-eq9.false c.in-Some.ensures p.3)

pub returns-in-Some : goal.returns-in-Some
returns-in-Some c = let a = c.args in
    plain-put a.rank a.steps.now a.from c.if-steps-from-eq9.false c.in-Some.ensures c.put_step.ensures

pub returns-in-None : goal.returns-in-None
returns-in-None c = let a = c.args in
    unknown-put a.rank a.steps.now a.from c.if-steps-from-eq9.false c.in-None.ensures c.put_byte.ensures
