use Rattle.std.specs.Prelude.{Ok}
use Rattle.decode.proofs.opened.Goals as goal

pub returns : goal.returns
returns c = (λ i. record {
  outcome = Ok (record { n = c.requires.n_is i; rank = c.requires.rank_is i; order = c.args.order; steps = c.args.steps });
  mesh = c.mesh_within.ensures i;
  table = c.sizes_within.ensures i;
  start = c.lists_within.ensures i;
})
