-- What the parts of the placement for a list of devices ask for and leave. Assumes nothing.
use Rattle.std.specs.Prelude.{ℕ, suc, ◌*◌, ◌≤◌, ◌<◌, ◌≡◌, List, [], ◌∷◌, length, get_or, take, ltb, Err}
use Rattle.rules.specs.Lists.{pick}
use Rattle.rules.specs.Mesh.{coords}
use Rattle.rules.specs.Sharding.{first_indexes}
use Rattle.types.specs.Types.{dims_of, sizes_of}
use Rattle.types.specs.declared.DimLists.{DimLists}
use Rattle.types.specs.declared.Table.{Table}
use Rattle.types.specs.declared.Reason.{Reason}
use Rattle.place.specs.Placing.{Placing}
use Rattle.placements.specs.declared.PlacedAll.{PlacedAll}

abbrev pub refused_at : Reason → (place : ℕ) → PlacedAll
refused_at reason place = record { outcome = Err (record { reason = reason; step = 0 }); place = place }

-- how many numbers at the front of a list are below a limit
abbrev pub leading : ℕ → List ℕ → ℕ
leading most [] = 0
leading most (d ∷ ds) = pick (ltb d most) (suc (leading most ds)) 0

-- the first indexes of device d, whose place the list of places has
abbrev pub firsts_at : (mesh : List ℕ) → DimLists → Table → (places : List ℕ) → ℕ → List ℕ
firsts_at mesh dims shard places d = first_indexes mesh (take shard.rank (dims_of dims)) (sizes_of shard) (coords mesh (get_or places d 0))

-- lists and sizes as many as the rank; each device has a place, where it can be placed; and there is room for all their indexes
pub record PlacingAll (mesh : List ℕ) (dims : DimLists) (shard : Table) (places devices : List ℕ) (room : ℕ) : Type 0 where
  pub lists : length (take shard.rank (dims_of dims)) ≡ shard.rank
  pub sizes : length (sizes_of shard) ≡ shard.rank
  pub below : (i : ℕ) → i < length devices → get_or devices i 0 < length places
  pub placing : (i : ℕ) → i < length devices → Placing mesh dims shard (get_or places (get_or devices i 0) 0)
  pub fits : length devices * shard.rank ≤ room
