use Rattle.records.specs.Records.{step_bytes}
use Rattle.encode.proofs.put_step.Goals as goal

pub returns-in-AllSlice : goal.returns-in-AllSlice
unfolding step_bytes
returns-in-AllSlice c = simp c.in-AllSlice.is c.put_per_dim.ensures

pub returns-in-AllGather : goal.returns-in-AllGather
unfolding step_bytes
returns-in-AllGather c = simp c.in-AllGather.is c.put_per_dim-in-AllGather.ensures

pub returns-in-AllReduce : goal.returns-in-AllReduce
unfolding step_bytes
returns-in-AllReduce c = simp c.in-AllReduce.is c.put_reduce.ensures

pub returns-in-AllToAll : goal.returns-in-AllToAll
unfolding step_bytes
returns-in-AllToAll c = simp c.in-AllToAll.is c.put_to_all.ensures

pub returns-in-ReduceScatter : goal.returns-in-ReduceScatter
unfolding step_bytes
returns-in-ReduceScatter c = simp c.in-ReduceScatter.is c.put_per_dim-in-ReduceScatter.ensures
