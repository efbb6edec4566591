use Rattle.types.specs.Types.{sharding_of, mesh_of, sizes_of}
use Rattle.plan.proofs.Walks.{Walking}
use Rattle.plan.proofs.walk_steps.Given as goal

abbrev pub invariant-loop-k : goal.invariant-loop-k
invariant-loop-k l =
    let o = l.fn.opening in
    Walking (mesh_of o.mesh) (sizes_of o.table) l.file l.state o.steps o.at (sharding_of o.table.rank o.start) l.k l.number l.at l.ran l.most l.moved
    (sharding_of o.table.rank l.after) (sharding_of o.table.rank l.kept)
