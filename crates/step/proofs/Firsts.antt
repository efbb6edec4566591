-- A group's sum that stands at its first member alone: a move that reads the first member of each device's group there makes what the same move makes
-- of a reduction, where each device has the sum (`first-sums`). And such sums are the same of states that agree (`summed-cong`). For every element
-- type. Assumes nothing.
use Prim.Native.Nat.{ℕ, ◌/◌, ◌%◌, ◌<◌}
use mathlib.Core.Path.{◌≡◌, refl, sym, ap, ap₂, ◌∙◌}
use mathlib.Core.Bool.{Bool}
use mathlib.Core.List.{List, [], ◌∷◌, ◌++◌, map}
use native.Mathlib.Omega.{arith}
use borrow.Author.Tests.{lt-ltb}
use lib.ListN.{set}
use lib.Dec.{ltb}
use lib.Seq.{set-set}
use Rattle.rules.specs.Lists.{pick, Below, Distinct}
use Rattle.rules.specs.Mesh.{span, position, member, members}
use Rattle.rules.specs.Sharding.{shard_sizes, first_indexes}
use Rattle.rules.specs.Spread.{StateOf, tabulate, from}
use Rattle.rules.specs.Collectives.{all_reduce, owner, within, reduce_places, sources, made, moved}
use Rattle.laws.proofs.Lists.{tab-cong, below_length}
use Rattle.laws.proofs.Positions.{member-set, position-member, below-member}
use Rattle.laws.proofs.Buffers.{held-tabulate, tabulate-same}
use Rattle.laws.proofs.Sources.{made-reduce, step_local}
use Rattle.mesh.proofs.Sizes.{group-pos}
use Rattle.moves.specs.Moves.{Moving, Along, moved_shape, moved_first}
use Rattle.moves.proofs.Leads.{source-below}
use Rattle.moves.proofs.Whole.{step_of}
use Rattle.sums.specs.Sums.{summed}

-- the group of a member is the device's own
member-again : (mesh L : List ℕ) (q r : ℕ) (x : List ℕ) → Distinct L → member mesh L q (member mesh L r x) ≡ member mesh L q x
member-again mesh [] q r x d = refl
member-again mesh (a ∷ L) q r x d =
    let s : ℕ = span mesh L in
    ap (λ (y : List ℕ). set y a (q / s)) (member-set mesh L (q % s) (member mesh L (r % s) x) a (r / s) d.0)
    ∙ set-set (member mesh L (q % s) (member mesh L (r % s) x)) a (r / s) (q / s)
    ∙ ap (λ (y : List ℕ). set y a (q / s)) (member-again mesh L (q % s) (r % s) x d.1)

module _ {W : Type 0} (addAll : List W → W) (mesh L : List ℕ) where
  -- so all its members have the same sum
  same_sum : (w : StateOf W) (q : ℕ) (x i : List ℕ) → Distinct L
      → made addAll (reduce_places mesh L) w (member mesh L q x) i ≡ made addAll (reduce_places mesh L) w x i
  unfolding members
  same_sum w q x i d =
      made-reduce addAll mesh L w (member mesh L q x) i
      ∙ ap (λ (l : List (List ℕ)). addAll (map (λ y. w y i) l)) (tab-cong (span mesh L) _ _ (λ r h. member-again mesh L r q x d))
      ∙ sym (made-reduce addAll mesh L w x i)

  -- what the first member has is the sum of its group
  first-has : (w : StateOf W) (x i : List ℕ) → 0 < span mesh L → Along mesh L → Below x mesh
      → summed addAll mesh L 1 w (member mesh L 0 x) i ≡ made addAll (reduce_places mesh L) w x i
  first-has w x i some al bx =
      let y : List ℕ = member mesh L 0 x in
      let e : position mesh L y ≡ 0 = position-member mesh L 0 x al.once (λ a u. rw (below_length bx) (al.of_mesh a u)) some in
      ap (λ (t : Bool). pick t (made addAll (reduce_places mesh L) w y i) (w y i)) (lt-ltb (position mesh L y) 1 (omega (arith, e)))
      ∙ same_sum w 0 x i al.once

  pub first-sums : {shape : List ℕ} {Gs Ss : List (List ℕ)} → Moving mesh shape Gs Ss → Along mesh L → (z : W) (w : StateOf W) (rest : List W)
      → moved_first z mesh L Gs Ss shape (tabulate mesh shape (summed addAll mesh L 1 w) ++ rest)
      ≡ moved z mesh Gs Ss shape (tabulate mesh shape (made addAll (reduce_places mesh L) w) ++ rest)
  first-sums {shape} {Gs} {Ss} v al z w rest = tabulate-same mesh (moved_shape mesh shape Gs Ss) _ _ (λ x i bx bi.
      let some : 0 < span mesh L = group-pos mesh L v.on.devices_pos in
      let b = source-below mesh shape L Gs Ss (step_of v) al bx bi in
      held-tabulate mesh shape z (summed addAll mesh L 1 w) rest (below-member mesh L 0 some b.0) b.1
      ∙ first-has w (owner mesh Gs (shard_sizes mesh shape Ss) i x) (from (first_indexes mesh Ss (shard_sizes mesh shape Ss) x) (within (shard_sizes mesh shape Ss) i)) some al b.0
      ∙ sym (held-tabulate mesh shape z (made addAll (reduce_places mesh L) w) rest b.0 b.1))

  pub summed-cong : (n : ℕ) (shape : List ℕ) (v w : StateOf W) → ((y j : List ℕ) → Below y mesh → Below j shape → v y j ≡ w y j)
      → tabulate mesh shape (summed addAll mesh L n v) ≡ tabulate mesh shape (summed addAll mesh L n w)
  unfolding sources
  summed-cong n shape v w h = tabulate-same mesh shape _ _ (λ x i bx bi.
      ap₂ (pick (ltb (position mesh L x) n)) (step_local mesh addAll (all_reduce L) shape v w x i tt bx bi (λ y j by bj _. h y j by bj)) (h x i bx bi))
