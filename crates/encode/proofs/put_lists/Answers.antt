use native.Mathlib.Omega.{arith}
use lib.ListN.{length-take}
use Rattle.encode.proofs.Puts.{lists-start, lists-step, lists-done}
use Rattle.encode.proofs.Given.{dims-short, lists-given, lists-length, list-at}
use Rattle.encode.proofs.put_lists.Goals as goal

pub loop-list-init : goal.loop-list-init
loop-list-init c = lists-start _ _ _

pub put_list-place-requires : goal.put_list-place-requires
put_list-place-requires c = let a = c.args in (
  omega (arith, c.loop-list.invariant.near, length-take a.rank a.lists.0),
  rw (list-at a.rank a.lists c.loop-list.list-index) (dims-short a.rank a.lists c.requires.2 c.loop-list.list-index),
)

pub loop-list-preserved : goal.loop-list-preserved
loop-list-preserved c = let a = c.args in
    let i = c.loop-list.list-index in
    let e = list-at a.rank a.lists i in
    lists-step c.loop-list.invariant (omega (arith, lists-length a.rank a.lists)) e (rw e (dims-short a.rank a.lists c.requires.2 i))
    c.put_list-place.ensures

pub returns : goal.returns
returns c = let a = c.args in
    lists-given a.rank a.lists c.requires.2 (lists-done c.loop-list.invariant (omega (arith, lists-length a.rank a.lists)))
