use Rattle.std.proofs.Common.{◌∙◌}
use Rattle.capi.proofs.Replies.{read_told, read-counts}
use Rattle.capi.proofs.ishkrela_read.Goals as goal

pub read_opened-requires : goal.read_opened-requires
read_opened-requires c = read-counts _ _ _ c.read-opened.ensures c.in-Ok.is

pub returns-in-Ok-clause-answers : goal.returns-in-Ok-clause-answers
returns-in-Ok-clause-answers c = c.read_opened.ensures ∙ read_told _ _ _ c.read-opened.ensures c.in-Ok.is

pub returns-in-Err-clause-answers : goal.returns-in-Err-clause-answers
returns-in-Err-clause-answers c = c.read_refused.ensures ∙ read_told _ _ _ c.read-opened.ensures c.in-Err.is
