-- The sizes of mesh and table: for each way out of read_shape, the judgement that it stands for. Assumes nothing.
use Prim.Native.Nat.{ℕ, ◌+◌, ◌*◌}
use mathlib.Core.Path.{◌≡◌, refl, sym, ap₂, ◌∙◌}
use mathlib.Core.Bool.{Bool}
use mathlib.Core.List.{List}
use Rattle.rules.specs.Mesh.{devices as devices_of}
use Rattle.rules.specs.Limits.{most_words}
use Rattle.rules.specs.Refusals.{accept, refuse}
use Rattle.rules.specs.PlanFile.{Read, edition, mesh_offset, tensor_offset, sizes_at, carries_order, mesh_and_table_at}
use Rattle.reader.specs.Reading.{order_of, order_in, mesh_at}
use Rattle.reader.proofs.Ordering.{mesh-split}

module _ (carried : Bool) (n rank : ℕ) (f : List ℕ) {at : ℕ} (at-mesh : at ≡ mesh_offset f) where
  pub mesh-stops : {a k : ℕ} → mesh_at carried n at f ≡ refuse a k → mesh_and_table_at carried n rank f ≡ refuse a k
  mesh-stops e = mesh-split carried n rank f ∙ rw (← at-mesh, e) refl

  module _ {m : Read (List ℕ)} (e : mesh_at carried n at f ≡ accept m) {end : ℕ} (at-tensor : end ≡ tensor_offset f) where
    pub tensor-stops : {a k : ℕ} → sizes_at most_words 12 13 rank end f m.next ≡ refuse a k → mesh_and_table_at carried n rank f ≡ refuse a k
    tensor-stops q = mesh-split carried n rank f ∙ rw (← at-mesh, e, ← at-tensor, q) refl

    pub shape_is : {t : Read (List ℕ)} → sizes_at most_words 12 13 rank end f m.next ≡ accept t
        → mesh_and_table_at carried n rank f ≡ accept (record {
          value = record { mesh = m.value; order = order_of carried (devices_of m.value) f (18 + 2 * n); sizes = t.value };
          next = t.next;
        })
    shape_is q = mesh-split carried n rank f ∙ rw (← at-mesh, e, ← at-tensor, q) refl

-- the order as it is told, by the file's edition and the devices that were counted
pub order-told : (f : List ℕ) (n : ℕ) {e c d : ℕ} → e ≡ edition f → c ≡ d → order_of (carries_order e) d f (18 + 2 * n) ≡ order_in f n c
order-told f n p q = ap₂ (λ (e d : ℕ). order_of (carries_order e) d f (18 + 2 * n)) p (sym q)
