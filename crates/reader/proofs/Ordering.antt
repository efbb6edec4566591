-- The order of the devices: for each way out of judge_order and of read_mesh, the judgement that it stands for; and that the order of an accepted mesh
-- is the file's (`order-found`). Assumes nothing.
use Prim.Native.Nat.{ℕ, ◌+◌, ◌*◌, ◌≤◌, ◌<◌}
use mathlib.Core.Path.{◌≡◌, refl, sym, ap, ◌∙◌, subst}
use mathlib.Core.Bool.{Bool, true, false}
use mathlib.Core.List.{List}
use borrow.Author.Tests.{le-leb, lt-leb}
use lib.ListN.{length}
use lib.Dec.{leb, leb→le, lit≤}
use Rattle.rules.specs.Lists.{tab}
use Rattle.rules.specs.Mesh.{devices as devices_of}
use Rattle.rules.specs.Limits.{most_devices, most_words}
use Rattle.rules.specs.Refusals.{Judged, accept, refuse, ◌>>=◌}
use Rattle.rules.specs.PlanFile.{Read, u16_at, mesh_offset, tensor_offset, sizes_at, order_allowed, order_at, MeshAndTable, mesh_and_table_at, mesh_and_table_at_by}
use Rattle.laws.proofs.Judging.{accept-inj, need-inv, bind_inv}
use Rattle.laws.proofs.Accepted.{section-facts}
use Rattle.reader.specs.Reading.{order_of, mesh_at}

module _ (carried : Bool) (n : ℕ) (file : List ℕ) (at : ℕ) where
  pub no-order : carried ≡ false → accept (record { value = order_of carried n file at; next = at }) ≡ order_at carried n file at
  unfolding order_at
  no-order e = rw e refl

  module _ (e : carried ≡ true) where
    pub order-past : length file < at + 2 * n → order_at carried n file at ≡ refuse 7 0
    unfolding order_at
    order-past l = rw e (simp (lt-leb (at + 2 * n) (length file) l))

    module _ (l : at + 2 * n ≤ length file) where
      pub order-wrong : order_allowed n (tab n (λ i. u16_at file (at + 2 * i))) ≡ false → order_at carried n file at ≡ refuse 19 0
      unfolding order_at
      order-wrong w = rw e (simp (le-leb (at + 2 * n) (length file) l, w))

      pub order-whole : order_allowed n (tab n (λ i. u16_at file (at + 2 * i))) ≡ true
          → accept (record { value = order_of carried n file at; next = at + 2 * n }) ≡ order_at carried n file at
      unfolding order_at
      order-whole w = rw e (sym (simp (le-leb (at + 2 * n) (length file) l, w)))

-- an order that is read is the file's
order_value : (carried : Bool) (n : ℕ) (file : List ℕ) (at : ℕ) (o : Read (List ℕ)) → order_at carried n file at ≡ accept o → o.value ≡ order_of carried n file at
unfolding order_at
order_value true n file at o e =
    let a = need-inv 0 (leb (at + 2 * n) (length file)) 7 _ o e in
    let b = need-inv 0 (order_allowed n (tab n (λ i. u16_at file (at + 2 * i)))) 19 _ o a.1 in
    ap (λ (r : Read (List ℕ)). r.value) (sym (accept-inj b.1))
order_value false n file at o e = ap (λ (r : Read (List ℕ)). r.value) (sym (accept-inj e))

-- and ends within the file
order-inside : (carried : Bool) (n : ℕ) (file : List ℕ) (at : ℕ) (o : Read (List ℕ)) → at ≤ length file → order_at carried n file at ≡ accept o → o.next ≤ length file
unfolding order_at
order-inside true n file at o h e =
    let a = need-inv 0 (leb (at + 2 * n) (length file)) 7 _ o e in
    let b = need-inv 0 (order_allowed n (tab n (λ i. u16_at file (at + 2 * i)))) 19 _ o a.1 in
    subst (λ (r : Read (List ℕ)). r.next ≤ length file) (accept-inj b.1) (leb→le (at + 2 * n) (length file) a.0)
order-inside false n file at o h e = subst (λ (r : Read (List ℕ)). r.next ≤ length file) (accept-inj e) h

-- ---- the mesh section

module _ (carried : Bool) (n offset : ℕ) (file : List ℕ) where
  pub sizes-stop : {a k : ℕ} → sizes_at most_devices 10 11 n offset file 18 ≡ refuse a k → mesh_at carried n offset file ≡ refuse a k
  unfolding mesh_at
  sizes-stop e = rw e refl

  module _ {m : Read (List ℕ)} (e : sizes_at most_devices 10 11 n offset file 18 ≡ accept m) {d : ℕ} (d-is : d ≡ devices_of m.value) where
    pub order-stops : {a k : ℕ} → order_at carried d file m.next ≡ refuse a k → mesh_at carried n offset file ≡ refuse a k
    unfolding mesh_at
    order-stops q = rw (e, ← d-is, q) refl

    pub mesh-read : {o : Read (List ℕ)} → order_at carried d file m.next ≡ accept o
        → mesh_at carried n offset file ≡ accept (record { value = m.value; next = o.next })
    unfolding mesh_at
    mesh-read q = rw (e, ← d-is, q) refl

  pub mesh-inside : {m : Read (List ℕ)} → mesh_at carried n offset file ≡ accept m → m.next ≤ length file
  unfolding mesh_at
  mesh-inside {m} e =
      let s = bind_inv (sizes_at most_devices 10 11 n offset file 18) _ m e in
      let o = bind_inv (order_at carried (devices_of s.0.value) file s.0.next) _ m s.2 in
      let f = section-facts most_devices 10 11 n offset file 18 s.0 (lit≤ tt) s.1 in
      subst (λ (r : Read (List ℕ)). r.next ≤ length file) (accept-inj o.2) (order-inside carried (devices_of s.0.value) file s.0.next o.0 f.inside o.1)

-- mesh and table: the mesh section, then the tensor section
module _ (carried : Bool) (n rank : ℕ) (file : List ℕ) where
  abbrev with_table : Read (List ℕ) → (order : List ℕ) → Judged (Read MeshAndTable)
  with_table m order = do
    t ← sizes_at most_words 12 13 rank (tensor_offset file) file m.next
    accept (record { value = record { mesh = m.value; order = order; sizes = t.value }; next = t.next })

  pub mesh-split : mesh_and_table_at carried n rank file
      ≡ ◌>>=◌ (mesh_at carried n (mesh_offset file) file) (λ m. with_table m (order_of carried (devices_of m.value) file (18 + 2 * n)))
  unfolding mesh_and_table_at_by mesh_at
  mesh-split = go (sizes_at most_devices 10 11 n (mesh_offset file) file 18) refl
    where
      after : (m : Read (List ℕ)) → m.next ≡ 18 + 2 * n → (j : Judged (Read (List ℕ))) → order_at carried (devices_of m.value) file m.next ≡ j
          → ◌>>=◌ j (λ o. with_table (record { value = m.value; next = o.next }) o.value)
          ≡ ◌>>=◌ (◌>>=◌ j (λ o. accept (record { value = m.value; next = o.next }))) (λ r. with_table r (order_of carried (devices_of r.value) file (18 + 2 * n)))
      after m h (accept o) e =
          ap (with_table (record { value = m.value; next = o.next }))
          (order_value carried (devices_of m.value) file m.next o e ∙ ap (order_of carried (devices_of m.value) file) h)
      after m h (refuse a k) e = refl

      go : (j : Judged (Read (List ℕ))) → sizes_at most_devices 10 11 n (mesh_offset file) file 18 ≡ j
          → ◌>>=◌ j (λ m. ◌>>=◌ (order_at carried (devices_of m.value) file m.next) (λ o. with_table (record { value = m.value; next = o.next }) o.value))
          ≡ ◌>>=◌ (◌>>=◌ j (λ m. ◌>>=◌ (order_at carried (devices_of m.value) file m.next) (λ o. accept (record { value = m.value; next = o.next }))))
          (λ r. with_table r (order_of carried (devices_of r.value) file (18 + 2 * n)))
      go (accept m) e =
          after m (section-facts most_devices 10 11 n (mesh_offset file) file 18 m (lit≤ tt) e).next_is (order_at carried (devices_of m.value) file m.next) refl
      go (refuse a k) e = refl

  pub order-found : {r : Read MeshAndTable} → mesh_and_table_at carried n rank file ≡ accept r
      → r.value.order ≡ order_of carried (devices_of r.value.mesh) file (18 + 2 * n)
  order-found {r} e =
      let m = bind_inv (mesh_at carried n (mesh_offset file) file) _ r (sym mesh-split ∙ e) in
      let t = bind_inv (sizes_at most_words 12 13 rank (tensor_offset file) file m.0.next) _ r m.2 in
      subst (λ (x : Read MeshAndTable). x.value.order ≡ order_of carried (devices_of x.value.mesh) file (18 + 2 * n)) (accept-inj t.2) refl
