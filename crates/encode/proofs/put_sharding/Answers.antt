use native.Mathlib.Omega.{arith}
use Rattle.encode.proofs.Given.{lists-few, axes-short, sharding-put}
use Rattle.encode.proofs.put_sharding.Goals as goal

pub put_list-third-requires : goal.put_list-third-requires
put_list-third-requires c = let a = c.args in
    let p = c.requires in
    let d = lists-few a.rank a.sharding.dims p.1 p.2.dims in
    (omega (arith, c.put_lists-second.ensures.next, d), axes-short a.sharding.unreduced p.2.unreduced)

pub put_replicated-requires : goal.put_replicated-requires
put_replicated-requires c = let a = c.args in
    let p = c.requires in
    let d = lists-few a.rank a.sharding.dims p.1 p.2.dims in
    let u = axes-short a.sharding.unreduced p.2.unreduced in
    (omega (arith, c.put_lists-second.ensures.next, c.put_list-third.ensures.next, d, u), axes-short a.sharding.replicated p.2.replicated)

pub returns : goal.returns
returns c = let a = c.args in
    sharding-put a.edition a.rank a.sharding c.requires.2 c.put_lists-second.ensures c.put_list-third.ensures
    c.put_replicated.ensures
