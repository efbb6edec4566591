use native.Mathlib.Omega.{arith}
use Rattle.encode.proofs.Files.{edition_is, front-few, first_is, total_is}
use Rattle.encode.proofs.file_length.Goals as goal

pub put_steps-requires : goal.put_steps-requires
put_steps-requires c = let a = c.args in
    let m = a.mesh.now in
    let o = a.order.now in
    let z = a.sizes.now in
    let b = a.steps.now in
    let w = c.requires in
    let f = front-few m o z a.start b w c.edition_of-edition.result in
    (omega (arith, w.records, c.put_front-first.ensures.next, f), w.rank, w.short_steps)

pub returns : goal.returns
returns c = let a = c.args in
    let m = a.mesh.now in
    let o = a.order.now in
    let z = a.sizes.now in
    let b = a.steps.now in
    let e = edition_is m o z a.start b c.requires c.edition_of-edition.ensures in
    let f = first_is m o z a.start b c.requires e c.put_front-first.ensures.next in
    total_is m o z a.start b c.requires f c.put_steps.ensures.next
