-- A table times a number: factors are multiplied (`scaled-scaled`), and count modulo 2 ^ 32 (`scaled-mod`); a table that has a faithful spread of words is
-- one of words at all its indexes (`table-words`), so that 1 times it is the table (`unscaled`); and a step that reduces unreduced axes alone has factor 1
-- (`step-one`). Assumes nothing.
use Prim.Native.Nat.{ℕ, ◌*◌, ◌%◌, ◌^◌, ◌<◌}
use mathlib.Core.Path.{◌≡◌, sym, ap, ◌∙◌, subst, fun_ext}
use mathlib.Core.List.{List}
use native.Mathlib.Nat.{mod-mod, mod-eq_of_lt, mul_comm, mul_assoc, one-mul}
use lib.ListN.{length}
use Rattle.rules.specs.Lists.{flat, In, Distinct, Below}
use Rattle.rules.specs.Mesh.{span, members}
use Rattle.rules.specs.Sharding.{Sharding, varying, first_indexes}
use Rattle.rules.specs.Spread.{StateOf, Faithful, add_words, from}
use Rattle.rules.specs.Collectives.{Step, owner, within}
use Rattle.rules.specs.Factor.{scaled, reduced_axes, step_factor}
use Rattle.laws.proofs.Lists.{all_map, in_right, without_all, below_length}
use Rattle.laws.proofs.Shapes.{Cut, piece-below, below-owner, below-within, owner-index}
use Rattle.laws.proofs.Sources.{WordsIn}
use Rattle.laws.proofs.Sums.{sum-const, sum-mod, all-members, add_words-lt}

-- ---- products

pub mul-mod : (c n m : ℕ) → c * (n % m) % m ≡ c * n % m
mul-mod c n m =
    ap (λ (z : ℕ). z % m) (sym (sum-const c (n % m))) ∙ sum-mod c m (λ k. n % m) (λ k. n) (λ k l. mod-mod n m) ∙ ap (λ (z : ℕ). z % m) (sum-const c n)

pub scaled-scaled : (c d : ℕ) (table : List ℕ → ℕ) → scaled c (scaled d table) ≡ scaled (d * c) table
unfolding scaled
scaled-scaled c d table =
    fun_ext (λ i. mul-mod c (d * table i) (2 ^ 32) ∙ ap (λ (z : ℕ). z % 2 ^ 32) (sym (mul_assoc c d (table i)) ∙ ap (λ (z : ℕ). z * table i) (mul_comm c d)))

-- a factor counts modulo 2 ^ 32
pub scaled-mod : (c : ℕ) (table : List ℕ → ℕ) (i : List ℕ) → scaled (c % 2 ^ 32) table i ≡ scaled c table i
unfolding scaled
scaled-mod c table i =
    ap (λ (z : ℕ). z % 2 ^ 32) (mul_comm (c % 2 ^ 32) (table i)) ∙ mul-mod (table i) c (2 ^ 32) ∙ ap (λ (z : ℕ). z % 2 ^ 32) (mul_comm (table i) c)

-- ---- 1 times a table

module _ {mesh : List ℕ} {s : Sharding} {shape : List ℕ} {table : List ℕ → ℕ} {w : StateOf ℕ} (words : WordsIn mesh shape w)
    (F : Faithful add_words mesh s shape table w) where
  -- every word of the table that a device has in its block is one
  block-word : (x i : List ℕ) → Below x mesh → Below i shape → table (from (first_indexes mesh s.dims shape x) i) < 2 ^ 32
  block-word x i bx bi =
      subst (λ (z : ℕ). z < 2 ^ 32) (F.sums x i bx bi)
      (add_words-lt _ (all_map (λ n. n < 2 ^ 32) (λ y. w y i) (members mesh s.unreduced x)
      (all-members (λ y. w y i < 2 ^ 32) mesh s.unreduced x bx (λ y by g. words y i by bi))))

  pub scaled-one : Faithful add_words mesh s shape (scaled 1 table) w
  unfolding scaled
  scaled-one = record {
    same = F.same;
    sums = λ x i bx bi. F.sums x i bx bi ∙ sym (ap (λ (z : ℕ). z % 2 ^ 32) (one-mul _) ∙ mod-eq_of_lt (block-word x i bx bi));
  }

  -- every index of the table is in the block of a device
  pub table-words : {sizes : List ℕ} → Cut mesh s.dims sizes shape → Distinct (flat s.dims) → ((a : ℕ) → In a (flat s.dims) → a < length mesh)
      → (x : List ℕ) → Below x mesh → (i : List ℕ) → Below i sizes → table i < 2 ^ 32
  table-words c once of_mesh x bx i bi =
      let Gs : List (List ℕ) = s.dims in
      subst (λ (j : List ℕ). table j < 2 ^ 32) (owner-index mesh x c bi (λ a u. rw (below_length bx) (of_mesh a u)) once)
      (block-word (owner mesh Gs shape i x) (within shape i) (below-owner mesh c bi bx) (below-within mesh c bi))

-- a spread of 1 times a table of words is one of the table
pub unscaled : {mesh : List ℕ} {s : Sharding} {sizes shape : List ℕ} {table : List ℕ → ℕ} {w : StateOf ℕ} → Cut mesh s.dims sizes shape
    → ((i : List ℕ) → Below i sizes → table i < 2 ^ 32) → Faithful add_words mesh s shape (scaled 1 table) w → Faithful add_words mesh s shape table w
unfolding scaled
unscaled {mesh} c words F = record {
  same = F.same;
  sums = λ x i bx bi. F.sums x i bx bi ∙ ap (λ (z : ℕ). z % 2 ^ 32) (one-mul _) ∙ mod-eq_of_lt (words _ (piece-below mesh c bx bi));
}

-- ---- factor 1

pub step-one : (mesh : List ℕ) (t : Step) (s : Sharding) → ((a : ℕ) → In a (reduced_axes t) → In a s.unreduced) → step_factor mesh t s ≡ 1
step-one mesh t s h =
    ap (span mesh) (without_all (varying s) (reduced_axes t) (λ a i. in_right a (flat s.dims) s.unreduced (h a i)))
