use Rattle.types.specs.Types.{sharding_of, mesh_of, sizes_of}
use Rattle.records.specs.Forms.{steps_given}
use Rattle.given.proofs.Turns.{Turning}
use Rattle.given.proofs.judge_outermost.Given as goal

abbrev pub invariant-loop-n : goal.invariant-loop-n
invariant-loop-n l =
    Turning (mesh_of l.mesh) (sizes_of l.table) (steps_given l.table.rank l.steps) l.count (sharding_of l.table.rank l.initial.after) l.n l.place l.ran (sharding_of l.table.rank l.after)
