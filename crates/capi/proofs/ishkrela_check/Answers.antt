use Rattle.std.proofs.Common.{◌∙◌}
use Rattle.capi.proofs.Replies.{check-told, check-rank}
use Rattle.capi.proofs.ishkrela_check.Goals as goal

pub check_passed-requires : goal.check_passed-requires
check_passed-requires c = check-rank _ c.check-checked.ensures c.in-Ok.is

pub returns-in-Ok : goal.returns-in-Ok
returns-in-Ok c = c.check_passed.ensures ∙ check-told _ c.check-checked.ensures c.in-Ok.is

pub returns-in-Err : goal.returns-in-Err
returns-in-Err c = c.check_refused.ensures ∙ check-told _ c.check-checked.ensures c.in-Err.is
