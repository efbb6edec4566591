use Rattle.run.proofs.Running.{row-can, row-taken}
use Rattle.run.proofs.run_steps.Goals as goal

pub run_row-end-requires : goal.run_row-end-requires
run_row-end-requires c = row-can c.requires _

pub returns : goal.returns
returns c = let r = c in
    row-taken r.requires _ _ _ _ r.run_row-end.ensures
