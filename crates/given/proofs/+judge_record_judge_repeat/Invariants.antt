use Prim.Native.Nat.{◌+◌, ◌-◌, ◌*◌}
use Rattle.types.specs.Types.{sharding_of, mesh_of, sizes_of}
use Rattle.records.specs.Forms.{record_count, steps_given}
use Rattle.given.proofs.Inside.{Within}
use Rattle.given.proofs.+judge_record_judge_repeat.Given as goal

-- the records left, and of two calls for one record the second is less
abbrev pub decreases-judge_record : goal.decreases-judge_record
decreases-judge_record l = 2 * (record_count l.steps.now - l.i) + 1

abbrev pub decreases-judge_repeat : goal.decreases-judge_repeat
decreases-judge_repeat l = 2 * (record_count l.steps.now - l.i)

abbrev pub invariant-judge_repeat-loop-n : goal.invariant-judge_repeat-loop-n
invariant-judge_repeat-loop-n l =
    Within (mesh_of l.mesh) (sizes_of l.table) (steps_given l.table.rank l.steps) l.below l.head.inner l.i (sharding_of l.table.rank l.sharding) l.n
    l.block.at l.block.runs (sharding_of l.table.rank l.block.sharding)
