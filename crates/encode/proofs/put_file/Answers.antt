use native.Mathlib.Omega.{arith}
use lib.ListN.{length}
use Rattle.types.specs.Types.{axes_of}
use Rattle.encode.proofs.Files.{edition-few, edition_is, front-few, first_is, total_is, file-put}
use Rattle.encode.proofs.put_file.Goals as goal

pub put_steps-total-requires : goal.put_steps-total-requires
put_steps-total-requires c = let a = c.args in
    let m = a.mesh.now in
    let o = a.order.now in
    let z = a.sizes.now in
    let b = a.steps.now in
    let w = c.requires.encodable in
    let f = front-few m o z a.start b w c.edition_of-edition.result in
    (omega (arith, w.records, c.put_front-first.ensures.next, f), w.rank, w.short_steps)

pub put_header-requires : goal.put_header-requires
put_header-requires c = let a = c.args in
    let m = a.mesh.now in
    let o = a.order.now in
    let z = a.sizes.now in
    let b = a.steps.now in
    let w = c.requires.encodable in
    let d = c.edition_of-edition.ensures in
    let k = edition-few o (axes_of a.start.replicated) in
    let f = first_is m o z a.start b w (edition_is m o z a.start b w d) c.put_front-first.ensures.next in
    let n = c.put_steps-total.ensures.next in
    let t = total_is m o z a.start b w f n in
    let q = c.outermost_steps-outer.ensures (length z) in
    (omega (arith, d, k), w.axes, w.devices, w.rank, omega (arith, q, c.requires.few), omega (arith, t, n, c.requires.short), omega (arith, t, c.requires.short))

pub returns : goal.returns
returns c = let a = c.args in
    let m = a.mesh.now in
    let o = a.order.now in
    let z = a.sizes.now in
    let b = a.steps.now in
    let w = c.requires.encodable in
    let e = edition_is m o z a.start b w c.edition_of-edition.ensures in
    let f = first_is m o z a.start b w e c.put_front-first.ensures.next in
    let t = total_is m o z a.start b w f c.put_steps-total.ensures.next in
    let q = c.outermost_steps-outer.ensures (length z) in record { answers = t; leaves = file-put m o z a.start b a.out.now c.requires _ _ _ _ e q f t c.put_front-first.ensures c.put_steps-total.ensures c.put_header.ensures }
