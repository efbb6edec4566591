-- Document 01, "Shardings and the spread of a table", its first paragraph: what a sharding is. Source document 001 decides on shardings.
-- Assumes nothing.
use Rattle.std.specs.Prelude.{ℕ, ◌*◌, ◌/◌, ◌%◌, ◌<◌, Bool, List, ◌++◌, length, eqb, T}
use Rattle.rules.specs.Lists.{each, both, flat, In, Distinct}
use Rattle.rules.specs.Mesh.{span, position}

-- "A sharding gives each tensor dimension an ordered list of axes, outer to inner, and has a list of unreduced axes." Document 02, Ask 3: "a sharding
-- name[s] axes that must stay replicated. The sharding record gains this list".
pub record Sharding : Type 0 where
  pub dims : List (List ℕ)
  pub unreduced : List ℕ
  pub replicated : List ℕ

-- The axes along which shards may differ: those that split a dimension, and the unreduced ones. "An axis in none is replicated.", and "these axes", the
-- explicitly replicated ones, "count as replicated".
abbrev pub varying : Sharding → List ℕ
varying s = flat s.dims ++ s.unreduced

-- all axes that a sharding names
abbrev pub named : Sharding → List ℕ
named s = varying s ++ s.replicated

abbrev pub Unnamed : ℕ → Sharding → Type 0
Unnamed a s = ¬ In a (named s)

-- "Each dimension's size is divisible by the product of its axes' sizes; the quotient is the shard size."
abbrev pub divisible : List ℕ → List ℕ → List (List ℕ) → Bool
divisible mesh sizes dims = both (λ n d. eqb (n % span mesh d) 0) sizes dims

abbrev pub shard_sizes : List ℕ → List ℕ → List (List ℕ) → List ℕ
shard_sizes mesh sizes dims = each (λ n d. n / span mesh d) sizes dims

-- "A device's block number along a dimension is its position for that dimension's list; its first index there is block number times shard size."
abbrev pub first_indexes : List ℕ → List (List ℕ) → List ℕ → List ℕ → List ℕ
first_indexes mesh dims shape x = each (λ n d. position mesh d x * n) shape dims

-- A sharding of a table of the given sizes on a mesh. "No axis appears twice in all of these."; the new list is "naming no axis named before".
pub record IsSharding (mesh sizes : List ℕ) (s : Sharding) : Type 0 where
  pub of_mesh : (a : ℕ) → In a (named s) → a < length mesh
  pub once : Distinct (named s)
  pub divides : T (divisible mesh sizes s.dims)
