-- A state whose shards are equal along replicated axes is a faithful spread of one table: that of its sums (`sums-spread`). Assumes nothing.
use Prim.Native.Nat.{ℕ, ◌<◌}
use mathlib.Core.Path.{◌≡◌, sym, ap, ◌∙◌}
use mathlib.Core.Logic.{inl, ⊎_elim}
use mathlib.Core.List.{List, map}
use lib.ListN.{length, get_or}
use Rattle.rules.specs.Lists.{flat, In, Distinct, Below}
use Rattle.rules.specs.Mesh.{span, member, members, Agree}
use Rattle.rules.specs.Sharding.{Sharding, varying, first_indexes}
use Rattle.rules.specs.Spread.{StateOf, Faithful, add_words, from}
use Rattle.rules.specs.Collectives.{owner, within}
use Rattle.laws.proofs.Lists.{tab-cong, in_left, in-append, distinct-split}
use Rattle.laws.proofs.Positions.{below-member, agree-member, member-other}
use Rattle.laws.proofs.Shapes.{Cut, piece-below, below-owner, within_first, owner-first}
use Rattle.laws.proofs.Sums.{members-tab}

-- "(a) devices that differ only on replicated axes hold equal shards"
abbrev pub Alike : (mesh : List ℕ) (s : Sharding) (shape : List ℕ) → StateOf ℕ → Type 0
Alike mesh s shape w =
    (x y i : List ℕ) → Below x mesh → Below y mesh → Below i shape → Agree (λ a. In a (varying s)) x y → w x i ≡ w y i

-- the sum along the unreduced axes at the device, of those that agree with z off the split axes, whose block has the index
abbrev pub sums_table : (mesh : List ℕ) (s : Sharding) (shape z : List ℕ) → StateOf ℕ → List ℕ → ℕ
sums_table mesh s shape z w j = add_words (map (λ y. w y (within shape j)) (members mesh s.unreduced (owner mesh s.dims shape j z)))

pub sums-spread : {mesh : List ℕ} {s : Sharding} {sizes shape z : List ℕ} {w : StateOf ℕ} → Cut mesh s.dims sizes shape → Distinct (varying s)
    → ((a : ℕ) → In a (varying s) → a < length mesh) → Below z mesh → Alike mesh s shape w → Faithful add_words mesh s shape (sums_table mesh s shape z w) w
sums-spread {mesh} {s} {shape} {z} {w} c once of_mesh bz alike = record {
  same = alike;
  sums = λ x i bx bi.
      let dims : List (List ℕ) = s.dims in
      let U : List ℕ = s.unreduced in
      let parts : Distinct (flat dims) × Distinct U × ((a : ℕ) → In a (flat dims) → ¬ In a U) = distinct-split (flat dims) U once in
      let j : List ℕ = from (first_indexes mesh dims shape x) i in
      let o : List ℕ = owner mesh dims shape j z in
      let bo : Below o mesh = below-owner mesh c (piece-below mesh c bx bi) bz in
      let at : (a : ℕ) → In a (flat dims) → get_or o a 0 ≡ get_or x a 0 =
      λ a d. owner-first mesh a c bi bx bz parts.0 (λ b e. of_mesh b (in_left b (flat dims) U e)) d in
      ap add_words (members-tab (λ y. w y i) mesh U x
      ∙ tab-cong (span mesh U) (λ q. w (member mesh U q x) i) (λ q. w (member mesh U q o) i)
      (λ q l. alike (member mesh U q x) (member mesh U q o) i (below-member mesh U q l bx) (below-member mesh U q l bo) bi (λ a u. ⊎_elim
      (λ d. member-other mesh U q x a (parts.2 a d) ∙ sym (at a d) ∙ sym (member-other mesh U q o a (parts.2 a d)))
      (λ v. agree-member mesh U q a l bx bo (inl v)) (in-append a (flat dims) U u)))
      ∙ sym (members-tab (λ y. w y i) mesh U o)
      ∙ ap (λ (k : List ℕ). map (λ y. w y k) (members mesh U o)) (sym (within_first mesh x c bi)));
}
