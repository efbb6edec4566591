use native.Mathlib.Omega.{arith}
use Rattle.encode.proofs.Puts.{put_both}
use Rattle.encode.proofs.Given.{axes-short, list_put}
use Rattle.encode.proofs.put_reduce.Goals as goal

pub put_list-requires : goal.put_list-requires
put_list-requires c = let n = c.put_byte-next.ensures.next in
    let p = c.requires in
    (omega arith, axes-short c.args.list p.1)

pub returns : goal.returns
returns c = put_both c.put_byte-next.ensures (list_put c.args.list c.requires.1 c.put_list.ensures)
