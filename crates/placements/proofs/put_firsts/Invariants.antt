use Prim.Native.Nat.{◌≤◌, ◌*◌}
use mathlib.Core.List.{map}
use lib.ListN.{length, get_or}
use Rattle.rules.specs.Lists.{flat}
use Rattle.laws.proofs.Fronts.{Filled}
use Rattle.placements.specs.Placing.{firsts_at}
use Rattle.placements.proofs.put_firsts.Given as goal

abbrev pub invariant-loop-i : goal.invariant-loop-i
invariant-loop-i l =
    (l.i ≤ length l.devices) × Filled (λ t. get_or (flat (map (firsts_at l.mesh l.dims l.shard l.places) l.devices)) t 0) l.initial.out l.out (l.i * l.shard.rank)
