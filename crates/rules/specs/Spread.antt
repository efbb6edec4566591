-- Document 01, "Shardings and the spread of a table", from "Shards lie in the buffer" on: states, their buffers, faithful spreads.
-- The element type W is a parameter; `addAll` is the sum of a group's elements. Assumes nothing.
use Rattle.std.specs.Prelude.{ℕ, ◌+◌, ◌*◌, ◌/◌, ◌%◌, ◌^◌, ◌≡◌, List, [], ◌∷◌, map, get_or}
use Rattle.rules.specs.Lists.{tab, each, product, total, In, Below}
use Rattle.rules.specs.Mesh.{number, coords, device_number, device_coords, devices, Agree, members}
use Rattle.rules.specs.Sharding.{Sharding, varying, first_indexes}

-- A state of a table that is spread over devices: the word of each device at each index of its shard.
abbrev pub StateOf : Type 0 → Type 0
StateOf W = List ℕ → List ℕ → W

-- "Shards lie in the buffer by device number, each in row-major order, without gaps. m is the words of one shard."
-- The buffer of a state whose shards have a shape, and the state that a buffer holds: z is read where the buffer is too short.
unfoldable pub tabulate_by : {W : Type 0} → (order mesh shape : List ℕ) → StateOf W → List W
tabulate_by order mesh shape w =
    tab (devices mesh * product shape) (λ p. w (device_coords order mesh (p / product shape)) (coords shape (p % product shape)))

unfoldable pub held_by : {W : Type 0} → W → (order mesh shape : List ℕ) → List W → StateOf W
held_by z order mesh shape buffer x i = get_or buffer (device_number order mesh x * product shape + number shape i) z

-- The same with each shard at its device's place, the row-major number of its coordinates: so the steps lay their words out, whatever the order.
unfoldable pub tabulate : {W : Type 0} → List ℕ → List ℕ → StateOf W → List W
tabulate mesh shape w = tab (devices mesh * product shape) (λ p. w (coords mesh (p / product shape)) (coords shape (p % product shape)))

unfoldable pub held : {W : Type 0} → W → List ℕ → List ℕ → List W → StateOf W
held z mesh shape buffer x i = get_or buffer (number mesh x * product shape + number shape i) z

-- the sum of words: one word is itself, more are added modulo 2 ^ 32
unfoldable pub add_words : List ℕ → ℕ
add_words [] = 0
add_words (w ∷ []) = w
add_words (w ∷ v ∷ ws) = total (w ∷ v ∷ ws) % 2 ^ 32

-- an index of a shard, counted from the shard's first indexes
abbrev pub from : List ℕ → List ℕ → List ℕ
from first i = each ◌+◌ first i

-- "A buffer is a faithful spread of a table when (a) devices that differ only on replicated axes hold equal shards, and (b) for each device, the
-- word_by_word sum, modulo 2^32, over all devices that agree with it outside the unreduced axes, is the table's block of that device."
-- Replicated are all axes but those along which shards vary. The devices that agree with x outside the unreduced axes are x's group along them.
pub record Faithful {W : Type 0} (addAll : List W → W) (mesh : List ℕ) (s : Sharding) (shape : List ℕ) (table : List ℕ → W) (w : StateOf W) : Type 0 where
  pub same : (x y i : List ℕ) → Below x mesh → Below y mesh → Below i shape → Agree (λ a. In a (varying s)) x y → w x i ≡ w y i
  pub sums : (x i : List ℕ) → Below x mesh → Below i shape
      → addAll (map (λ y. w y i) (members mesh s.unreduced x)) ≡ table (from (first_indexes mesh s.dims shape x) i)
