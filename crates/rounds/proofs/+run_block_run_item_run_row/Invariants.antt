-- By the depth that is left: so many steps call one, it calls a repeat of less depth, and that so many steps.
use Prim.Native.Nat.{◌+◌, ◌*◌}
use Rattle.rounds.proofs.Rows.{RowRun}
use Rattle.rounds.proofs.Rounds.{RoundsRun}
use Rattle.rounds.proofs.+run_block_run_item_run_row.Given as goal

abbrev pub decreases-run_block : goal.decreases-run_block
decreases-run_block l = 3 * l.depth + 2

abbrev pub decreases-run_item : goal.decreases-run_item
decreases-run_item l = 3 * l.depth

abbrev pub decreases-run_row : goal.decreases-run_row
decreases-run_row l = 3 * l.depth + 1

abbrev pub invariant-run_block-loop-i : goal.invariant-run_block-loop-i
invariant-run_block-loop-i l =
    RoundsRun l.mesh l.table l.file l.depth l.from l.rounds l.inner l.initial.work l.initial.spare l.i l.here l.work l.spare

abbrev pub invariant-run_row-loop-done : goal.invariant-run_row-loop-done
invariant-run_row-loop-done l =
    RowRun l.mesh l.table l.file l.depth l.count l.initial.here l.initial.work l.initial.spare l.done l.here l.work l.spare
