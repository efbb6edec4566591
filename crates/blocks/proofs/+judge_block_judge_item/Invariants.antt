use Prim.Native.Nat.{◌+◌, ◌-◌}
use lib.ListN.{length}
use Rattle.types.specs.Types.{sharding_of, mesh_of, sizes_of}
use Rattle.blocks.proofs.Inner.{InnerMoved}
use Rattle.blocks.proofs.+judge_block_judge_item.Given as goal

-- the bytes left
abbrev pub decreases-judge_block : goal.decreases-judge_block
decreases-judge_block l = length l.file.now - l.at

abbrev pub decreases-judge_item : goal.decreases-judge_item
decreases-judge_item l = length l.file.now - l.at

abbrev pub invariant-judge_block-loop-i : goal.invariant-judge_block-loop-i
invariant-judge_block-loop-i l =
    InnerMoved (mesh_of l.mesh) (sizes_of l.table) l.file (l.depth - 1) l.head.inner (l.k + 1) (l.at + 2) l.largest (sharding_of l.table.rank l.sharding)
    l.i l.block.number l.block.at l.block.runs l.block.largest l.block.moved (sharding_of l.table.rank l.block.sharding)
