use Rattle.std.proofs.Common.{arith, []}
use Rattle.std.proofs.lemmas.List.{get_or-take}
use Rattle.std.proofs.lemmas.Grind.{common_steps}
use Rattle.rules.specs.Limits.{most_dims}
use Rattle.types.specs.Types.{dims_of}
use Rattle.marshal.proofs.ShardingReplyFromSharding.from.Goals as goal

pub returns : goal.returns
returns c =
    let ds = dims_of c.args.sharding.dims in
    rw (
      get_or-take most_dims ds 0 [] (omega arith),
      get_or-take most_dims ds 1 [] (omega arith),
      get_or-take most_dims ds 2 [] (omega arith),
      get_or-take most_dims ds 3 [] (omega arith),
    )
    (grind (arith, common_steps))
