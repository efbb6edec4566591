-- A copy with strides, of elements of any type. Its digits stand outer to inner in one list, three numbers each: a size, an inner and a stride. The
-- inner is the number of words that the digits after it count; one step of the digit goes a stride further in the words that are copied. Word t of
-- the copy is at `offset digits t` there. Other digits can copy the same words (`Alike`): fewer of them, with longer runs. Knows nothing of meshes.
-- Assumes nothing.
use Rattle.std.specs.Prelude.{ℕ, ◌+◌, ◌*◌, ◌/◌, ◌%◌, ◌^◌, ◌≤◌, ◌<◌, ◌≡◌, List, [], ◌∷◌, length, get_or}
use Rattle.rules.specs.Lists.{tab}

-- the words that the digits count
abbrev pub counted : List ℕ → ℕ
counted [] = 1
counted (s ∷ []) = 1
counted (s ∷ m ∷ []) = 1
counted (s ∷ m ∷ z ∷ r) = s * m

-- where word t comes from
abbrev pub offset : List ℕ → ℕ → ℕ
offset [] t = 0
offset (s ∷ []) t = 0
offset (s ∷ m ∷ []) t = 0
offset (s ∷ m ∷ z ∷ r) t = t / m * z + offset r (t % m)

-- each inner is the number of words of the digits after it
abbrev pub Nested : List ℕ → Type 0
Nested [] = Unit {0}
Nested (s ∷ []) = ⊥
Nested (s ∷ m ∷ []) = ⊥
Nested (s ∷ m ∷ z ∷ r) = (m ≡ counted r) × Nested r

-- three digits: planes of rows, whose words are a stride apart
abbrev pub plane_digits : (planes inner far count len apart stride : ℕ) → List ℕ
plane_digits planes inner far count len apart stride = planes ∷ inner ∷ far ∷ count ∷ len ∷ apart ∷ len ∷ 1 ∷ stride ∷ []

-- What the code asks, of one digit: words a stride apart, from `at` on, that are within `room`;
pub record Row (words stride at room : ℕ) : Type 0 where
  pub filled : 0 < words
  pub inside : (t : ℕ) → t < words → at + t * stride < room

-- of two: as many rows as `count`, of `len` words each;
pub record Rows (words count len apart stride at room : ℕ) : Type 0 where
  pub filled : 0 < len
  pub whole : words ≡ count * len
  pub inside : (i t : ℕ) → i < count → t < len → at + i * apart + t * stride < room

-- of words that are repeated: some, and the whole is a number of them;
pub record Period (words period : ℕ) : Type 0 where
  pub filled : 0 < period
  pub within : period ≤ words
  pub whole : words % period ≡ 0

-- of any number of them;
pub record Counts (digits : List ℕ) (words at room : ℕ) : Type 0 where
  pub nested : Nested digits
  pub whole : words ≡ counted digits
  pub filled : 0 < words
  pub inside : (t : ℕ) → t < words → at + offset digits t < room

-- of a copy, which has a digit.
pub record Copy (digits : List ℕ) (words at room : ℕ) : Type 0 where
  pub some : 0 < length digits
  pub counts : Counts digits words at room

-- The words that the code leaves; z is read outside the words, which no copy does.
unfoldable pub row : {W : Type 0} → W → ℕ → ℕ → ℕ → List W → List W
row z words stride at old = tab words (λ t. get_or old (at + t * stride) z)

unfoldable pub rows : {W : Type 0} → W → ℕ → ℕ → ℕ → ℕ → ℕ → List W → List W
rows z words len apart stride at old = tab words (λ k. get_or old (at + k / len * apart + k % len * stride) z)

unfoldable pub repeated : {W : Type 0} → W → ℕ → ℕ → List W → List W
repeated z period words old = tab words (λ t. get_or old (t % period) z)

unfoldable pub copied : {W : Type 0} → W → List ℕ → ℕ → ℕ → List W → List W
copied z digits words at old = tab words (λ t. get_or old (at + offset digits t) z)

-- some of the words that are left, as many as whole periods have where the others are whole periods
pub record Part (done last left part : ℕ) : Type 0 where
  pub some : 0 < part
  pub within : part ≤ left
  pub whole : (period : ℕ) → done % period ≡ 0 → last % period ≡ 0 → left % period ≡ 0 → part % period ≡ 0

-- ---- digits that are joined

-- digits that copy the same words: as many, from the same places
pub record Alike (digits others : List ℕ) : Type 0 where
  pub some : 0 < length others
  pub nested : Nested others
  pub count : counted others ≡ counted digits
  pub places : (t : ℕ) → t < counted digits → offset others t ≡ offset digits t

-- more words than a slice can have: its bytes are fewer than 2 ^ 63
abbrev pub most_places : ℕ
most_places = 2 ^ 61

-- digits whose sizes and strides can be multiplied, for what they count and where they lead is within a slice
pub record Joining (digits : List ℕ) : Type 0 where
  pub copy : Copy digits (counted digits) 0 most_places
  pub few : counted digits ≤ most_places

-- digits whose first one is not put yet; the others stand from place `first` on, with room for one more before them
pub record Putting (joined : List ℕ) (first : ℕ) (digits : List ℕ) : Type 0 where
  pub room : 3 ≤ first
  pub inside : first + 3 ≤ length joined
  pub joining : Joining digits

-- the most numbers of a copy's digits: sixteen digits
abbrev pub digit_room : ℕ
digit_room = 3 * 16
