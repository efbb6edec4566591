use Rattle.std.proofs.Common.{◌∙◌}
use Rattle.capi.proofs.Replies.{place-told, place-rank}
use Rattle.capi.proofs.ishkrela_place.Goals as goal

pub place_found-requires : goal.place_found-requires
place_found-requires c = place-rank _ _ _ c.place-placed.ensures c.in-Ok.is

pub returns-in-Ok : goal.returns-in-Ok
returns-in-Ok c = c.place_found.ensures ∙ place-told _ _ _ c.place-placed.ensures c.in-Ok.is

pub returns-in-Err : goal.returns-in-Err
returns-in-Err c = c.place_refused.ensures ∙ place-told _ _ _ c.place-placed.ensures c.in-Err.is
