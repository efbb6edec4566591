-- The listing by place, as both calls begin; the axes in the order of its places; and what the functions that make them ask for. Assumes nothing.
use Rattle.std.specs.Prelude.{ℕ, ◌+◌, ◌*◌, ◌/◌, ◌%◌, ◌<◌, ◌≤◌, ◌≡◌, List, ◌++◌, length, get_or, drop, Result}
use Rattle.rules.specs.Lists.{tab, without, In, Distinct}
use Rattle.rules.specs.Mesh.{number, coords, devices, span, member, places_listed, OnMesh}
use Rattle.rules.specs.Limits.{most_axes, most_devices}
use Rattle.rules.specs.Refusals.{Judged, accept, refuse, ◌>>◌, need}
use Rattle.rules.specs.PlanFile.{axes_allowed, judge_sizes}
use Rattle.rules.specs.Calls.{groups_by}
use Rattle.types.specs.Answers.{judged}
use Rattle.types.specs.declared.Refusal.{Refusal}

-- 5, 10, 11: what groups_by judges before an order
abbrev pub judge_mesh : List ℕ → Judged (Unit {0})
judge_mesh mesh = do
  need (axes_allowed (length mesh)) 5
  judge_sizes most_devices 10 11 1 mesh

-- two judgements in turn
abbrev pub judge_both : (first next : Judged (Unit {0})) → Judged (Unit {0})
judge_both first next = do
  first
  next

-- what a call leaves before places are looked up
abbrev pub places_out : Judged ℕ → (mesh axes out : List ℕ) → List ℕ
places_out (accept d) mesh axes out = places_listed mesh axes ++ drop d out
places_out (refuse n k) mesh axes out = out

pub record ByPlace (ordered : Judged (Unit {0})) (mesh axes out : List ℕ) (r : Result ℕ Refusal) (outAfter : List ℕ) : Type 0 where
  pub answers : judged r ≡ groups_by ordered mesh axes out
  pub leaves : outAfter ≡ places_out (groups_by ordered mesh axes out) mesh axes out

-- "the remaining axes (taken in increasing axis number)", then those of the list
unfoldable pub axis_order : ℕ → List ℕ → List ℕ
unfolding without
axis_order n L = without (tab n (λ a. a)) L ++ L

-- distinct axes of a mesh of n axes
pub record IsList (n : ℕ) (L : List ℕ) : Type 0 where
  pub few : n ≤ most_axes
  pub below : (a : ℕ) → In a L → a < n
  pub once : Distinct L

-- the devices by the digits of their place in the listing, along all axes in an order
abbrev pub along : (mesh axes : List ℕ) → ℕ → ℕ
along mesh axes p = number mesh (member mesh axes p (coords mesh 0))

pub record IsAxisOrder (mesh axes : List ℕ) (room : ℕ) : Type 0 where
  pub fits : OnMesh mesh
  pub list : IsList (length mesh) axes
  pub whole : span mesh axes ≡ devices mesh
  pub enough : devices mesh ≤ room

-- the first `count` entries again and again, a stride further on each time
abbrev pub repeated : (out : List ℕ) (count stride : ℕ) → ℕ → ℕ
repeated out count stride p = p / count * stride + get_or out (p % count) 0

pub record Repeats (out : List ℕ) (count end stride : ℕ) : Type 0 where
  pub some : 0 < count
  pub more : count ≤ end
  pub room : end ≤ length out
  pub few : (p : ℕ) → p < end → repeated out count stride p < most_devices
