-- What the functions of an order of devices (src/lib.rt) ask for and leave. An order has the device number at each place (rules/specs/Mesh.antt).
-- Words are of any type W; z is read outside the words, which no function does. Assumes nothing.
use Rattle.std.specs.Prelude.{ℕ, ◌+◌, ◌*◌, ◌/◌, ◌%◌, ◌<◌, ◌≤◌, List, length, get_or}
use Rattle.rules.specs.Lists.{tab}
use Rattle.rules.specs.Mesh.{place_in}

-- each number of a list is below n
abbrev pub EachBelow : ℕ → List ℕ → Type 0
EachBelow n l = (p : ℕ) → p < length l → get_or l p 0 < n

-- The place of each device number. Of a rearrangement it is the inverse.
unfoldable pub places_of : (order : List ℕ) → List ℕ
places_of order = tab (length order) (λ d. place_in d order)

-- Shards of m words that lie in a buffer by number, put by place: at each place the one whose number the order has there.
unfoldable pub words_by_place : {W : Type 0} → W → (order : List ℕ) → (m : ℕ) → List W → List W
words_by_place z order m buffer = tab (length order * m) (λ t. get_or buffer (get_or order (t / m) 0 * m + t % m) z)

-- the shards are within a buffer of `from` words, and there is room for them in one of `to` words
pub record ShardsFit (order : List ℕ) (m to from : ℕ) : Type 0 where
  pub below : EachBelow (length order) order
  pub room : length order * m ≤ to
  pub inside : length order * m ≤ from
