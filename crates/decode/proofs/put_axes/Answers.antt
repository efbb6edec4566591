use mathlib.Core.Path.{refl, ap}
use Rattle.records.specs.Forms.{six_places}
use Rattle.decode.proofs.Forms.{parts-step}
use Rattle.decode.proofs.put_axes.Goals as goal

pub loop-d-preserved : goal.loop-d-preserved
loop-d-preserved c = parts-step c.loop-d.invariant c.loop-d-test.true _ (ap six_places c.list_at.ensures) refl c.put_places-next.ensures
