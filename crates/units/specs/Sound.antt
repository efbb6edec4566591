-- What every state that comes from the opening call satisfies, whatever bytes came. "The state may not keep the file": what is held is small (`unit_few`, `head_few`, `deep`).
-- And it is what the judgements ask for (`Sound`): sizes within their limits, a sharding of that mesh and table, numbers that do not overflow.
-- Statements; proofs/Sounds.antt proves them. Assumes nothing.
use Rattle.std.specs.Prelude.{ℕ, ◌+◌, ◌*◌, ◌≤◌, ◌<◌, ◌≡◌, List, [], ◌∷◌, length}
use Rattle.rules.specs.Mesh.{devices}
use Rattle.rules.specs.Limits.{most_axes, most_devices, most_dims, most_words, most_steps, most_run, most_depth, least_bytes, most_bytes}
use Rattle.rules.specs.Sharding.{Sharding, IsSharding}
use Rattle.rules.specs.PlanFile.{axis_count, rank_count, step_count}
use Rattle.laws.proofs.Accepted.{SizesFacts, Within}
use Rattle.blocks.specs.Blocks.{shard_words}
use Rattle.units.specs.Units.{
  Frame,
  Standing,
  Phase,
  in_header,
  in_mesh,
  in_the_order,
  in_table,
  in_the_start,
  in_steps,
  at_end,
  stopped,
  State,
  state_after,
}

-- the most bytes of a unit: a starting sharding of four dimensions' lists, the unreduced and the replicated one, each a count byte and six axes
abbrev pub most_unit : ℕ
most_unit = 42

-- a header whose counts are within their limits
pub record Known (head : List ℕ) : Type 0 where
  pub long : length head ≡ least_bytes
  pub axes_some : 1 ≤ axis_count head
  pub axes_few : axis_count head ≤ most_axes
  pub rank_some : 1 ≤ rank_count head
  pub rank_few : rank_count head ≤ most_dims
  pub steps_few : step_count head ≤ most_steps

-- a mesh of that many axes
pub record Meshed (head mesh : List ℕ) : Type 0 where
  pub known : Known head
  pub many : length mesh ≡ axis_count head
  pub sizes : SizesFacts most_devices 1 mesh

-- and a table of that rank
pub record Tabled (head mesh sizes : List ℕ) : Type 0 where
  pub meshed : Meshed head mesh
  pub many : length sizes ≡ rank_count head
  pub within : Within mesh sizes

-- a sharding of it, and the most words that a shard had
pub record Sharded (mesh sizes : List ℕ) (largest : ℕ) (s : Sharding) : Type 0 where
  pub is : IsSharding mesh sizes s
  pub counted : shard_words mesh sizes s ≤ largest
  pub few : largest ≤ most_words

-- Step numbers fall from the innermost list outwards, and no list runs more than each kind byte before may run.
abbrev pub Framed : (number : ℕ) → List Frame → Type 0
Framed number [] = Unit {0}
Framed number (f ∷ frames) = (f.number < number) × (f.ran ≤ f.number * most_run) × Framed f.number frames

-- no more kind bytes than bytes before the unit
pub record Going (before : ℕ) (mesh sizes : List ℕ) (q : Standing) : Type 0 where
  pub sharded : Sharded mesh sizes q.largest q.sharding
  pub deep : length q.frames ≤ most_depth
  pub number_few : q.number ≤ before
  pub ran_few : q.ran ≤ q.number * most_run
  pub framed : Framed q.number q.frames

abbrev pub SoundIn : (head : List ℕ) → (before : ℕ) → Phase → Type 0
SoundIn head before in_header = length head < least_bytes
SoundIn head before in_mesh = Known head
SoundIn head before (in_the_order mesh t) = Meshed head mesh × (t.count < devices mesh) × (length t.marks ≡ most_devices)
SoundIn head before (in_table mesh) = Meshed head mesh
SoundIn head before (in_the_start mesh sizes) = Tabled head mesh sizes
SoundIn head before (in_steps mesh sizes q) = Tabled head mesh sizes × Going before mesh sizes q
SoundIn head before (at_end mesh sizes largest s) = Tabled head mesh sizes × Sharded mesh sizes largest s
SoundIn head before (stopped a k) = Unit {0}

-- `before`: the bytes before the unit
pub record Sound (s : State) : Type 0 where
  pub before : ℕ
  pub seen_few : s.seen ≤ most_bytes + 1
  pub unit_few : length s.unit < most_unit
  pub bytes : before + length s.unit ≤ s.seen
  pub phase : SoundIn s.head before s.phase
  pub head_few : length s.head ≤ least_bytes

abbrev pub AlwaysSound : Type 0
AlwaysSound = (bytes : List ℕ) → Sound (state_after bytes)
