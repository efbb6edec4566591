-- The proofs of what specs/WorkedPlaces.antt states and of its worked cases. Assumes nothing.
use Rattle.std.specs.Prelude.{◌≡◌, refl, [], ◌∷◌, replicate}
use Rattle.types.specs.Types.{dims_of, sharding_of, list_from, lists_from}
use Rattle.types.specs.Answers.{reason_of, checked_of, placed_of}
use Rattle.rules.specs.Calls.{check_of, place_of}
use Rattle.rules.specs.Ledger.{file_in, file_of, w1, w4}
use Rattle.types.specs.declared.Reason.TheVariants.{
  NotTail,
  NoSuchDevice,
  NotReplicated,
  NotReducible,
  ShardingChanged,
  TooDeep,
  TooManyRun,
  RepeatOfNothing,
}
use Rattle.std.specs.Prelude.{Ok, Err}
use Rattle.types.specs.WorkedPlaces.{list, none, single, four, crossed, kept, keeping, split, turned, nowhere}

pub places :
    -- the check: W1, and W6 with gather [1]
    (checked_of (check_of w1) ≡ record {
      outcome = Ok (record { room = 32; devices = 4; steps = 1; rank = 2; moved = 16 });
      sharding = split;
      shard = 2 ∷ 4 ∷ 0 ∷ 0 ∷ [];
    })
    × (checked_of (check_of (w4 ((2 ∷ 1 ∷ 1 ∷ []) ∷ [])))
    ≡ record { outcome = Err (record { reason = NotTail; step = 1 }); sharding = nowhere; shard = 0 ∷ 0 ∷ 0 ∷ 0 ∷ [] })
    -- mesh 2x2x2x2, table 4x2, sharding [[3, 0], [2]], unreduced [1]
    × (checked_of (check_of (file_of (2 ∷ 2 ∷ 2 ∷ 2 ∷ []) (4 ∷ 2 ∷ []) ((3 ∷ 0 ∷ []) ∷ (2 ∷ []) ∷ (1 ∷ []) ∷ []) [])) ≡ record {
      outcome = Ok (record { room = 16; devices = 16; steps = 0; rank = 2; moved = 0 });
      sharding = record {
        dims = record { 0 = list 2 (3 ∷ 0 ∷ 0 ∷ 0 ∷ 0 ∷ 0 ∷ []) ∷ single 2 ∷ none ∷ none ∷ [] };
        unreduced = single 1;
        replicated = none;
      };
      shard = 1 ∷ 1 ∷ 0 ∷ 0 ∷ [];
    })
    -- the placement: W4, device 1; W1 after its step, device 3; W4, device 4
    × (placed_of (place_of (w4 []) 0 1)
    ≡ record { outcome = Ok 1; sharding = turned; shard = 1 ∷ 0 ∷ 0 ∷ 0 ∷ []; first = 2 ∷ 0 ∷ 0 ∷ 0 ∷ [] })
    × (placed_of (place_of w1 1 3)
    ≡ record { outcome = Ok 2; sharding = split; shard = 2 ∷ 4 ∷ 0 ∷ 0 ∷ []; first = 2 ∷ 0 ∷ 0 ∷ 0 ∷ [] })
    × (placed_of (place_of (w4 []) 0 4) ≡ record {
      outcome = Err (record { reason = NoSuchDevice; step = 0 });
      sharding = nowhere;
      shard = 0 ∷ 0 ∷ 0 ∷ 0 ∷ [];
      first = 0 ∷ 0 ∷ 0 ∷ 0 ∷ [];
    })
    -- a placement of a plan that is refused in a step
    × (placed_of (place_of (w4 ((2 ∷ 1 ∷ 1 ∷ []) ∷ [])) 0 0) ≡ record {
      outcome = Err (record { reason = NotTail; step = 1 });
      sharding = nowhere;
      shard = 0 ∷ 0 ∷ 0 ∷ 0 ∷ [];
      first = 0 ∷ 0 ∷ 0 ∷ 0 ∷ [];
    })
    -- every dimension, and the unreduced axes
    × (checked_of (check_of four) ≡ record {
      outcome = Ok (record { room = 768; devices = 32; steps = 0; rank = 4; moved = 0 });
      sharding = crossed;
      shard = 1 ∷ 2 ∷ 3 ∷ 4 ∷ [];
    })
    × (placed_of (place_of four 0 31)
    ≡ record { outcome = Ok 4; sharding = crossed; shard = 1 ∷ 2 ∷ 3 ∷ 4 ∷ []; first = 1 ∷ 2 ∷ 3 ∷ 4 ∷ [] })
    -- the replicated axes
    × (checked_of (check_of kept) ≡ record {
      outcome = Ok (record { room = 8; devices = 8; steps = 0; rank = 1; moved = 0 });
      sharding = keeping;
      shard = 1 ∷ 0 ∷ 0 ∷ 0 ∷ [];
    })
    × (placed_of (place_of kept 0 1)
    ≡ record { outcome = Ok 1; sharding = keeping; shard = 1 ∷ 0 ∷ 0 ∷ 0 ∷ []; first = 1 ∷ 0 ∷ 0 ∷ 0 ∷ [] })
unfolding file_in file_of check_of place_of list_from lists_from reason_of
places = (refl, refl, refl, refl, refl, refl, refl, refl, refl, refl, refl)

-- of a table of two dimensions the first two lists count, and of a list as many places as it counts
counted : sharding_of 2 (record {
  dims = record { 0 = list 2 (3 ∷ 1 ∷ 9 ∷ 9 ∷ 9 ∷ 9 ∷ []) ∷ list 0 (replicate 6 9) ∷ list 1 (replicate 6 9) ∷ list 6 (replicate 6 9) ∷ [] };
  unreduced = list 1 (2 ∷ 9 ∷ 9 ∷ 9 ∷ 9 ∷ 9 ∷ []);
  replicated = list 2 (0 ∷ 4 ∷ 9 ∷ 9 ∷ 9 ∷ 9 ∷ []);
}) ≡ record { dims = (3 ∷ 1 ∷ []) ∷ [] ∷ []; unreduced = 2 ∷ []; replicated = 0 ∷ 4 ∷ [] }
unfolding dims_of
counted = refl

-- the reasons of numbers that no answer above has
reasoned : (reason_of 23 ≡ NotReplicated) × (reason_of 27 ≡ NotReducible) × (reason_of 41 ≡ ShardingChanged) × (reason_of 42 ≡ TooDeep) × (reason_of 43 ≡ TooManyRun) × (reason_of 44 ≡ RepeatOfNothing)
unfolding reason_of
reasoned = (refl, refl, refl, refl, refl, refl)
