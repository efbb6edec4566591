use native.Mathlib.Omega.{arith}
use Rattle.records.proofs.Written.{length-u16s}
use Rattle.encode.proofs.Puts.{put_both}
use Rattle.encode.proofs.put_front.Goals as goal

pub put_u16s-third-requires : goal.put_u16s-third-requires
put_u16s-third-requires c = let a = c.args in
    let p = c.requires in
    let u = c.put_u16s-second.ensures.next in
    omega (arith, u, length-u16s a.mesh.now, length-u16s a.order.now)

pub put_u16s-fourth-requires : goal.put_u16s-fourth-requires
put_u16s-fourth-requires c = let a = c.args in
    let p = c.requires in
    let u = c.put_u16s-second.ensures.next in
    let v = c.put_u16s-third.ensures.next in
    omega (arith, u, v, length-u16s a.mesh.now, length-u16s a.order.now)

pub put_sharding-requires : goal.put_sharding-requires
put_sharding-requires c = let a = c.args in
    let p = c.requires in
    let u = c.put_u16s-second.ensures.next in
    let v = c.put_u16s-third.ensures.next in
    let w = c.put_u16s-fourth.ensures.next in
    (omega (arith, u, v, w, length-u16s a.mesh.now, length-u16s a.order.now, length-u16s a.sizes.now), p.2, p.3)

pub returns : goal.returns
returns c = put_both c.put_u16s-second.ensures
    (put_both c.put_u16s-third.ensures (put_both c.put_u16s-fourth.ensures c.put_sharding.ensures))
