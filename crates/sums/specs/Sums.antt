-- The reduction by whole shards, in one buffer: it keeps the shape, so each sum stands where its shard was, and half the memory of two buffers is
-- touched. `firsts` has, for each device, where the shard of the first member of its group begins; `shifts` has how far after it the shard of the
-- member at each position begins. Each group is added once, in place of its first member's shard; so many of the others as are to have the sum
-- repeat that. The elements are of any type W: addAll is the sum of a group's elements, z is read outside the buffer, which no code does. Assumes
-- nothing.
use Rattle.std.specs.Prelude.{◌≡◌, ℕ, ◌+◌, ◌*◌, ◌<◌, ◌≤◌, ◌⊎◌, List, [], ◌∷◌, ◌++◌, length, get_or, take, drop, nat_lt, slice_index, slice_index_or}
use Rattle.rules.specs.Lists.{tab, pick, product, In, Distinct}
use Rattle.rules.specs.Mesh.{devices, span, position, OnMesh}
use Rattle.rules.specs.Spread.{StateOf, tabulate, held, add_words}
use Rattle.rules.specs.Collectives.{made, reduce_places}
use Rattle.rules.specs.Limits.{most_axes, most_devices, most_words}
use Rattle.strided.specs.Strided.{offset}
use Rattle.digits.specs.Digits.{most_room, mesh_strides, cleared, axis_digits, mesh_digits, HasStrides}

-- the words with g 0, g 1, .., g (m - 1) written from `at` on
abbrev pub written : {W : Type 0} → List W → (at m : ℕ) → (ℕ → W) → List W
written words at m g = (take at words ++ tab m g) ++ drop (at + m) words

-- word o of the sum of the shards of the first q members, which begin at the shifts from `at` on
abbrev pub part_word : {W : Type 0} → (List W → W) → W → (old : List W) → (shifts : List ℕ) → (at q o : ℕ) → W
part_word addAll z old shifts at q o = addAll (tab q (λ p. get_or old (at + slice_index shifts p + o) z))

-- word o of the shard at `at` and of the k members from position q on, added
abbrev pub added_word : (words shifts : List ℕ) → (at q k o : ℕ) → ℕ
added_word words shifts at q k o = add_words (slice_index words (at + o) ∷ tab k (λ j. slice_index words (at + slice_index shifts (q + j) + o)))

-- word o of the sum of the shards that begin at the shifts from `at` on
unfoldable pub group_word : {W : Type 0} → (List W → W) → W → (old : List W) → (shifts : List ℕ) → ℕ → ℕ → W
group_word addAll z old shifts at o = addAll (tab (length shifts) (λ q. get_or old (at + slice_index shifts q + o) z))

-- the buffer that a reduction leaves: the new state, and what was behind the old one
abbrev pub reduced_buffer : {W : Type 0} → (List W → W) → W → (mesh shape L : List ℕ) → List W → List W
reduced_buffer addAll z mesh shape L old =
    tabulate mesh shape (made addAll (reduce_places mesh L) (held z mesh shape old)) ++ drop (devices mesh * product shape) old

-- a state in which the first n members of each group have the group's sum, and the others their own words; and the buffer that has it at its front
abbrev pub summed : {W : Type 0} → (List W → W) → (mesh L : List ℕ) → ℕ → StateOf W → StateOf W
summed addAll mesh L n w x i = pick (nat_lt (position mesh L x) n) (made addAll (reduce_places mesh L) w x i) (w x i)

abbrev pub summed_buffer : {W : Type 0} → (List W → W) → W → (mesh shape L : List ℕ) → ℕ → List W → List W
summed_buffer addAll z mesh shape L n old =
    tabulate mesh shape (summed addAll mesh L n (held z mesh shape old)) ++ drop (devices mesh * product shape) old

-- what is left where the shards of a group's first n members have the words g: every other word is as it was
pub record Shared {W : Type 0} (z : W) (old : List W) (shifts : List ℕ) (at m n : ℕ) (g : ℕ → W) (new : List W) : Type 0 where
  pub members : (q o : ℕ) → q < n → o < m → slice_index_or new (at + slice_index shifts q + o) z ≡ g o
  pub others : (p : ℕ) → ((q : ℕ) → q < n → (p < at + slice_index shifts q) ⊎ (at + slice_index shifts q + m ≤ p)) → slice_index_or new p z ≡ slice_index_or old p z

-- what is left once the groups whose first member is before place d are summed: the first n members of each have its sum, and every other word is as
-- it was
pub record Summed {W : Type 0} (addAll : List W → W) (z : W) (old : List W) (firsts shifts : List ℕ) (m n d : ℕ) (new : List W) : Type 0 where
  pub done : (e q o : ℕ) → e < length firsts → q < n → o < m → slice_index firsts e < d * m
      → slice_index_or new (slice_index firsts e + slice_index shifts q + o) z ≡ group_word addAll z old shifts (slice_index firsts e) o
  pub left : (e q o : ℕ) → e < length firsts → q < length shifts → o < m → (n ≤ q) ⊎ (d * m ≤ slice_index firsts e)
      → slice_index_or new (slice_index firsts e + slice_index shifts q + o) z ≡ slice_index_or old (slice_index firsts e + slice_index shifts q + o) z
  pub behind : (p : ℕ) → length firsts * m ≤ p → slice_index_or new p z ≡ slice_index_or old p z

-- The tables, for shards of m words.
unfoldable pub first_words : (mesh L : List ℕ) → ℕ → List ℕ
first_words mesh L m = tab (product mesh) (offset (mesh_digits mesh (cleared L (mesh_strides mesh m)) []))

unfoldable pub shift_words : (mesh L : List ℕ) → ℕ → List ℕ
shift_words mesh L m = tab (span mesh L) (offset (axis_digits mesh L (mesh_strides mesh m) []))

-- the numbers of the digits of a group's axes, or of all devices
abbrev pub axis_room : ℕ
axis_room = 3 * most_axes

-- ---- what the code asks

-- two shards of m words within the words: the one at a lies behind the one at `at`
pub record Behind (at a m words : ℕ) : Type 0 where
  pub behind : at + m ≤ a
  pub inside : a + m ≤ words

-- one group: its shards are within the words, the first one's begins at `at`, and no two have a word in common
pub record Group (shifts : List ℕ) (m at words : ℕ) : Type 0 where
  pub some : 0 < length shifts
  pub first : get_or shifts 0 0 ≡ 0
  pub apart : (p q : ℕ) → p < q → q < length shifts → (slice_index shifts p + m ≤ slice_index shifts q) ⊎ (slice_index shifts q + m ≤ slice_index shifts p)
  pub inside : (q : ℕ) → q < length shifts → at + slice_index shifts q + m ≤ words

-- k members of a group from position q on, which is not the first
pub record Next (q k : ℕ) (shifts : List ℕ) : Type 0 where
  pub later : 0 < q
  pub inside : q + k ≤ length shifts

-- so many members of a group, at least its first one
pub record Some (n : ℕ) (shifts : List ℕ) : Type 0 where
  pub some : 0 < n
  pub members : n ≤ length shifts

-- all groups: a device's first member is a device that is the first of its own group, and not behind it; and the members of a first one's group are
-- devices with that same first place
pub record Groups (firsts shifts : List ℕ) (m words : ℕ) : Type 0 where
  pub room : length firsts * m ≤ words
  pub groups : (d : ℕ) → d < length firsts → Group shifts m (slice_index firsts d) words
  pub first : (d : ℕ) → d < length firsts
      → (e : ℕ) × (e * m ≤ d * m) × (slice_index firsts d ≡ e * m) × (slice_index firsts e ≡ e * m)
  pub members : (d q : ℕ) → d < length firsts → q < length shifts
      → (e : ℕ) × (e < length firsts) × (slice_index firsts d + slice_index shifts q ≡ e * m) × (slice_index firsts e ≡ slice_index firsts d)

-- a list of axes on a mesh with strides, and the places that list its group
pub record Shifting (shifts strides mesh L : List ℕ) : Type 0 where
  pub has : HasStrides strides mesh
  pub of_mesh : (a : ℕ) → In a L → a < length mesh
  pub room : span mesh L ≤ length shifts
  pub members : span mesh L ≤ most_devices
  pub few : (q : ℕ) → q < span mesh L → offset (axis_digits mesh L strides []) q ≤ most_room

-- a mesh with strides, and the places that list its devices
pub record Firsts (firsts strides mesh : List ℕ) : Type 0 where
  pub has : HasStrides strides mesh
  pub room : length firsts ≡ product mesh
  pub few : (d : ℕ) → d < product mesh → offset (mesh_digits mesh strides []) d ≤ most_room

-- a mesh, a group's axes, and places for both tables
pub record Tables (firsts shifts strides mesh L : List ℕ) (m : ℕ) : Type 0 where
  pub has : HasStrides strides mesh
  pub words_few : m ≤ most_words
  pub of_mesh : (a : ℕ) → In a L → a < length mesh
  pub once : Distinct L
  pub firsts_room : length firsts ≡ product mesh
  pub shifts_room : length shifts ≡ most_devices

-- a reduction of shards of a shape
pub record Reducing (mesh shape L : List ℕ) (words : ℕ) : Type 0 where
  pub on : OnMesh mesh
  pub words_pos : 0 < product shape
  pub words_few : product shape ≤ most_words
  pub of_mesh : (a : ℕ) → In a L → a < length mesh
  pub once : Distinct L
  pub room : devices mesh * product shape ≤ words
