-- What answers and steps of the code stand for, on plans of the ledger: as the types of the code hold them, beside those of the rules.
-- Places past a list's count, and past the rank, hold nines: they stand for nothing. The check's and the placement's answers are in WorkedPlaces.
-- Assumes nothing.
use Rattle.std.specs.Prelude.{ℕ, ◌-◌, List, [], ◌++◌, map, length, replicate}
use Rattle.rules.specs.Limits.{most_axes, most_dims}
use Rattle.rules.specs.Ledger.{nines}
use Rattle.types.specs.declared.Axis.{Axis}
use Rattle.types.specs.declared.AxisList.{AxisList}
use Rattle.types.specs.declared.DimLists.{DimLists}
use Rattle.types.specs.declared.Reason.{Reason}
use Rattle.types.specs.declared.Refusal.{Refusal}

-- ---- values of the code

abbrev pub axis : ℕ → Axis
axis a = record { 0 = a }

abbrev pub axes : List ℕ → AxisList
axes l = record { count = length l; axes = map axis (l ++ nines (most_axes - length l)); align = [] }

abbrev pub lists : List (List ℕ) → DimLists
lists dims = record { 0 = map axes (dims ++ replicate (most_dims - length dims) (nines 1)) }

abbrev pub refusal : Reason → ℕ → Refusal
refusal reason step = record { reason = reason; step = step }

-- ---- what they stand for
