-- One step of the code: what it gives the step is what the step asks for (`turn-asks`), and it leaves what the contract says (`turned`).
-- Assumes nothing.
use Prim.Native.Nat.{ℕ}
use mathlib.Core.Path.{◌≡◌, sym, ap, ◌∙◌, subst, transport}
use mathlib.Core.Bool.{Bool, true, false}
use mathlib.Core.List.{List}
use lib.ListN.{length}
use Rattle.rules.specs.Lists.{pick, product}
use Rattle.rules.specs.Sharding.{shard_sizes}
use Rattle.rules.specs.Spread.{add_words}
use Rattle.rules.specs.Collectives.{stepped, with_shards}
use Rattle.rules.specs.PlanFile.{Read}
use Rattle.types.specs.Types.{sharding_of, step_of, mesh_of, sizes_of}
use Rattle.types.specs.declared.Sharding as code
use Rattle.types.specs.declared.Table.{Table}
use Rattle.laws.proofs.Judging.{accept-inj}
use Rattle.reader.specs.Reading.{reading}
use Rattle.std.specs.Prelude.{Ok}
use Rattle.reader.specs.declared.Read as code-read
use Rattle.types.specs.declared.Mesh.{Mesh}
use Rattle.taking.specs.Taking.{StepTaken, take_step, taken_of}
use Rattle.taking.specs.declared.Taken.{Taken}
use Rattle.step.specs.Stepping.{Stepping, stepped_buffer, spent_buffer, spent_shards, in_place}
use Rattle.step.proofs.Shards.{leaves-shards, spends-shards}
use Rattle.rounds.specs.Rounds.{shape_of, Turning, Turned}

-- of two buffers, the one in which the next state stands, and the other one
next-stands : (b : Bool) (here there spent : List ℕ) (next : List ℕ → List ℕ) {here' there' : List ℕ}
    → here' ≡ pick b (next here) spent → there' ≡ pick b there (next there) → (pick b here' there' ≡ next (pick b here there)) × (pick b there' here' ≡ pick b there spent)
next-stands true here there spent next e f = (e, f)
next-stands false here there spent next e f = (f, e)

module _ {file : List ℕ} {at k : ℕ} {mesh : Mesh} {table : Table} {s : code.Sharding} (r : code-read.Read Taken) {old new : ℕ}
    (h : Turning file at k mesh table s old new)
    (e : reading (taken_of table.rank) (Ok r) ≡ take_step (mesh_of mesh) (sizes_of table) k file at (sharding_of table.rank s))
    {shape : List ℕ} {words : ℕ} (Shape-is : shape ≡ shape_of mesh table s) (rank_is : length shape ≡ table.rank)
    (words_are : words ≡ product (shape_of mesh table r.value.sharding)) where
  pub turn-asks : Stepping (mesh_of mesh) shape (step_of (length shape) r.value.step) words old new
  turn-asks =
      transport (λ i. Stepping (mesh_of mesh) (sym Shape-is i) (step_of (sym rank_is i) r.value.step) (sym words_are i) old new)
      (subst (λ (m : StepTaken). Stepping (mesh_of mesh) (shape_of mesh table s) m.step (product (shard_sizes (mesh_of mesh) (sizes_of table) m.sharding.dims)) old new)
      (ap (λ (x : Read StepTaken). x.value) (sym (accept-inj (e ∙ h.taken)))) h.stepping)

  pub turned : (here there : List ℕ) {here' there' : List ℕ}
      → here' ≡ pick (in_place (step_of (length shape) r.value.step)) (stepped_buffer add_words 0 (mesh_of mesh) shape (step_of (length shape) r.value.step) words here here)
      (spent_buffer add_words 0 (mesh_of mesh) shape (step_of (length shape) r.value.step) here)
      → there' ≡ pick (in_place (step_of (length shape) r.value.step)) there (stepped_buffer add_words 0 (mesh_of mesh) shape (step_of (length shape) r.value.step) words here there)
      → Turned file at k mesh table s here there here' there' r
  turned here there p q =
      let place : ℕ → Bool = λ n. in_place (step_of n r.value.step) in
      let next = stepped_buffer add_words 0 (mesh_of mesh) shape (step_of (length shape) r.value.step) words here in
      let spent = spent_buffer add_words 0 (mesh_of mesh) shape (step_of (length shape) r.value.step) here in
      let n = next-stands (place table.rank) here there spent next
      (p ∙ ap (λ n. pick (place n) (next here) spent) rank_is) (q ∙ ap (λ n. pick (place n) there (next there)) rank_is) in
      record {
        taken = e;
        leaves = λ v f st. n.0 ∙ leaves-shards turn-asks add_words 0 v (f ∙ sym Shape-is) here _ st
            ∙ ap (λ (n : ℕ). with_shards (mesh_of mesh) (stepped add_words (mesh_of mesh) (step_of n r.value.step) v) (pick (in_place (step_of table.rank r.value.step)) here there)) rank_is;
        keeps = λ v f st. n.1 ∙ ap (pick (in_place (step_of table.rank r.value.step)) there)
            (spends-shards add_words 0 (mesh_of mesh) (step_of (length shape) r.value.step) v (f ∙ sym Shape-is) here st
            ∙ ap (λ (n : ℕ). spent_shards add_words (mesh_of mesh) (step_of n r.value.step) v here) rank_is);
      }
