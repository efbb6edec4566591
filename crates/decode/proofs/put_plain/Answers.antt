use mathlib.Core.List.{[], ◌∷◌}
use lib.ListN.{take}
use Rattle.types.specs.Types.{dims_of}
use Rattle.records.specs.Forms.{record_of}
use Rattle.decode.proofs.Forms.{without-list}
use Rattle.decode.proofs.put_plain.Goals as goal

pub returns-in-AllSlice : goal.returns-in-AllSlice
unfolding record_of
returns-in-AllSlice c =
    simp c.in-AllSlice.is (without-list (1 ∷ 0 ∷ 0 ∷ []) (take c.args.rank (dims_of c.in-AllSlice.lists)) c.empty-none.ensures c.put_form.ensures)

pub returns-in-AllGather : goal.returns-in-AllGather
unfolding record_of
returns-in-AllGather c =
    simp c.in-AllGather.is
    (without-list (2 ∷ 0 ∷ 0 ∷ []) (take c.args.rank (dims_of c.in-AllGather.lists)) c.empty-none.ensures c.put_form-in-AllGather.ensures)

pub returns-in-AllReduce : goal.returns-in-AllReduce
unfolding record_of
returns-in-AllReduce c = simp c.in-AllReduce.is c.put_form-in-AllReduce.ensures

pub returns-in-AllToAll : goal.returns-in-AllToAll
unfolding record_of
returns-in-AllToAll c = simp c.in-AllToAll.is c.put_form-in-AllToAll.ensures

pub returns-in-ReduceScatter : goal.returns-in-ReduceScatter
unfolding record_of
returns-in-ReduceScatter c =
    simp c.in-ReduceScatter.is
    (without-list (5 ∷ 0 ∷ 0 ∷ []) (take c.args.rank (dims_of c.in-ReduceScatter.lists)) c.empty-none.ensures c.put_form-in-ReduceScatter.ensures)
