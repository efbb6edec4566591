-- Document 01, "Mesh, devices, groups".
-- A mesh is the list of its axis sizes, so an axis is a place in that list. A device is the list of its coordinates. Device numbers stand only
-- where devices are written down: in buffers, listings and placements. Source document 000 decides on groups and their order. Numbers here are
-- plain; that an axis number, a tensor dimension and a device number are three kinds is kept by the types of the code (crate types).
-- Assumes nothing.
use Rattle.std.specs.Prelude.{ℕ, ◌+◌, ◌*◌, ◌/◌, ◌%◌, ◌<◌, ◌≤◌, ◌≡◌, List, [], ◌∷◌, map, length, get_or, set, replicate, eqb}
use Rattle.rules.specs.Lists.{tab, pick, flat, product, without, In, Below}
use Rattle.rules.specs.Limits.{most_axes, most_devices}

-- The row-major number of coordinates under sizes, the last fastest; and the coordinates that have a number.
abbrev pub number : List ℕ → List ℕ → ℕ
number [] xs = 0
number (n ∷ ns) [] = 0
number (n ∷ ns) (x ∷ xs) = x * product ns + number ns xs

abbrev pub coords : List ℕ → ℕ → List ℕ
coords [] k = []
coords (n ∷ ns) k = k / product ns ∷ coords ns (k % product ns)

-- "A device has one coordinate along each axis. Its number is the row-major number of its coordinates, the last axis fastest." `Below x mesh` says that
-- x is a device of the mesh. Document 02, Ask 9: an order has "the device at each coordinate tuple in row-major order"; "Device number now means the
-- listed id, in buffers, groups and placements." The row-major number is then the device's place. "Editions 1 and 2 keep plain order."
abbrev pub plain_order : ℕ → List ℕ
plain_order n = tab n (λ d. d)

-- the first place of a number in a list, its length where it is not there
abbrev pub place_in : ℕ → List ℕ → ℕ
place_in d [] = 0
place_in d (e ∷ l) = pick (eqb d e) 0 (place_in d l + 1)

abbrev pub device_number : (order mesh x : List ℕ) → ℕ
device_number order mesh x = get_or order (number mesh x) 0

abbrev pub device_coords : (order mesh : List ℕ) → ℕ → List ℕ
device_coords order mesh d = coords mesh (place_in d order)

-- "D is the product of the sizes."
abbrev pub devices : List ℕ → ℕ
devices mesh = product mesh

-- What the code asks of a mesh: "n 1 to 6", "D up to 1,024" (document 02), and no size is 0.
pub record OnMesh (mesh : List ℕ) : Type 0 where
  pub axes_some : 1 ≤ length mesh
  pub axes_few : length mesh ≤ most_axes
  pub devices_pos : 0 < devices mesh
  pub devices_few : devices mesh ≤ most_devices

-- "two devices are in one group when their coordinates agree on every axis outside the list"
abbrev pub Agree : (ℕ → Type 0) → List ℕ → List ℕ → Type 0
Agree P x y = (a : ℕ) → P a → get_or x a 0 ≡ get_or y a 0

abbrev pub SameGroup : List ℕ → List ℕ → List ℕ → Type 0
SameGroup L x y = Agree (λ a. ¬ In a L) x y

-- the number of devices of a group: the product of the sizes of the list's axes
abbrev pub span : List ℕ → List ℕ → ℕ
span mesh [] = 1
span mesh (a ∷ L) = get_or mesh a 1 * span mesh L

-- "A device's position in its group is the mixed-radix number of its coordinates along the list, the first named axis most significant.
-- The list's order counts, not the mesh's."
abbrev pub position : List ℕ → List ℕ → List ℕ → ℕ
position mesh [] x = 0
position mesh (a ∷ L) x = get_or x a 0 * span mesh L + position mesh L x

-- the device of x's group that has position q, and the group of x by position
abbrev pub member : List ℕ → List ℕ → ℕ → List ℕ → List ℕ
member mesh [] q x = x
member mesh (a ∷ L) q x = set (member mesh L (q % span mesh L) x) a (q / span mesh L)

unfoldable pub members : List ℕ → List ℕ → List ℕ → List (List ℕ)
members mesh L x = tab (span mesh L) (λ q. member mesh L q x)

-- "For a list of distinct axes, two devices are in one group when their coordinates agree on every axis outside the list (000)." The group of x by
-- position, `members mesh L x`, has each device that agrees with x outside the list (`has`) exactly once (`once`), and no other (`of_mesh`,
-- `agrees`).
pub record IsGroup (mesh L x : List ℕ) : Type 0 where
  pub of_mesh : (q : ℕ) → q < span mesh L → Below (member mesh L q x) mesh
  pub agrees : (q : ℕ) → q < span mesh L → SameGroup L x (member mesh L q x)
  pub has : (y : List ℕ) → Below y mesh → SameGroup L x y → (position mesh L y < span mesh L) × (member mesh L (position mesh L y) x ≡ y)
  pub once : (q r : ℕ) → q < span mesh L → r < span mesh L → member mesh L q x ≡ member mesh L r x → q ≡ r

-- "the remaining axes (taken in increasing axis number)"
unfoldable pub remaining : List ℕ → List ℕ → List ℕ
unfolding without
remaining mesh L = without (tab (length mesh) (λ a. a)) L

-- The devices whose coordinates off the remaining axes are 0, one of each group, in row-major order of the remaining axes.
unfoldable pub firsts : List ℕ → List ℕ → List (List ℕ)
unfolding members remaining
firsts mesh L = members mesh (remaining mesh L) (replicate (length mesh) 0)

-- "It writes D device numbers: groups in row-major order of the remaining axes, devices by position inside each group."
unfoldable pub grouped : (mesh L : List ℕ) → List (List ℕ)
unfolding firsts members
grouped mesh L = flat (map (members mesh L) (firsts mesh L))

unfoldable pub listing : (order mesh L : List ℕ) → List ℕ
unfolding grouped
listing order mesh L = map (device_number order mesh) (grouped mesh L)

-- the same by place, as the code lists them before it looks numbers up
unfoldable pub places_listed : (mesh L : List ℕ) → List ℕ
unfolding grouped
places_listed mesh L = map (number mesh) (grouped mesh L)

-- "The D numbers are a rearrangement of 0 to D-1.": the list has n entries, each is below n, none is there twice, and each number below n is there.
pub record Rearrangement (n : ℕ) (l : List ℕ) : Type 0 where
  pub size : length l ≡ n
  pub below : (p : ℕ) → p < n → get_or l p 0 < n
  pub once : (p q : ℕ) → p < n → q < n → get_or l p 0 ≡ get_or l q 0 → p ≡ q
  pub has : (d : ℕ) → d < n → (p : ℕ) × (p < n) × (get_or l p 0 ≡ d)
