-- What stands before the steps, part by part: how each part's refusal is the whole's, and what it is where all parts are accepted.
-- Assumes nothing.
use Prim.Native.Nat.{ℕ}
use mathlib.Core.Path.{◌≡◌, refl, sym, ap, ◌∙◌, subst}
use mathlib.Core.List.{List}
use native.Mathlib.Omega.{arith}
use lib.ListN.{length}
use lib.Dec.{eqb}
use borrow.Author.Tests.{eq-eqb, ne_eqb}
use Rattle.types.specs.Types.{sharding_of, mesh_of, sizes_of, WithinPlaces}
use Rattle.rules.specs.Mesh.{devices as devices_of}
use Rattle.rules.specs.Sharding.{Sharding}
use Rattle.rules.specs.Refusals.{Judged, accept, refuse, ◌>>=◌, ◌>>◌, need}
use Rattle.rules.specs.PlanFile.{Read, edition, axis_count, rank_count, judge_header, carries_order, MeshAndTable, mesh_and_table_at, carries_replicated, sharding_offset, sharding_at}
use Rattle.rules.specs.PlanFile.{steps_offset, judge_start, one_meaning, Front, judge_front, judge_front_by}
use Rattle.types.specs.declared.Mesh.{Mesh}
use Rattle.types.specs.declared.Sharding as code
use Rattle.types.specs.declared.Table.{Table}
use Rattle.laws.proofs.Judging.{accept-inj, need-inv, then-inv, then-assoc, bind_inv}
use Rattle.laws.proofs.Accepted.{Within, MeshAndTableFacts, mesh-and-table-facts}
use Rattle.reader.specs.Reading.{numbers_of, header_of, order_in, shape_of, Counted}
use Rattle.reader.specs.declared.Header.{Header}
use Rattle.reader.specs.declared.Shape.{Shape}
use Rattle.reader.proofs.Heading.{Headed, headed}
use Rattle.reader.proofs.Ordering.{order-found}
use Rattle.opening.specs.Opening.{judge_opening}

-- an accepted mesh and an accepted table have their places
pub places : {devices : ℕ} {mesh : Mesh} {table : Table} → Counted devices mesh table → Within (mesh_of mesh) (sizes_of table) → WithinPlaces mesh table
places c a = record {
  axes = omega (arith, c.n_is, a.axes_few);
  rank = omega (arith, c.rank_is, a.rank_few);
  sized = record { least = a.sizes_pos; most = a.sizes_few };
}

-- ---- what stands before the steps

-- the sharding, the steps' offset, and the judgement of the start, after the sizes r
abbrev after_sizes : Header → List ℕ → Read MeshAndTable → Judged Front
after_sizes h file r = do
  s ← sharding_at (carries_replicated h.edition) h.axes h.rank h.sharding_at file r.next
  need (eqb h.steps_at s.next) 6
  judge_start r.value.mesh r.value.sizes s.value
  need (one_meaning h.edition s.value.replicated) 18
  accept (record { mesh = r.value.mesh; order = r.value.order; sizes = r.value.sizes; start = s.value; next = s.next })

module _ (file : List ℕ) where
  front-split : judge_front file
      ≡ ◌>>◌ (judge_header file)
      (◌>>=◌ (mesh_and_table_at (carries_order (edition file)) (axis_count file) (rank_count file) file) (after_sizes (numbers_of file) file))
  unfolding judge_front_by
  front-split = refl

  -- the order is the file's
  pub front-order : {f : Front} → judge_front file ≡ accept f → f.order ≡ order_in file (length f.mesh) (devices_of f.mesh)
  front-order {f} e =
      let h = then-inv (judge_header file) _ f (sym front-split ∙ e) in
      let m = bind_inv (mesh_and_table_at (carries_order (edition file)) (axis_count file) (rank_count file) file) _ f h.1 in
      let s = bind_inv (sharding_at (carries_replicated (edition file)) (axis_count file) (rank_count file) (sharding_offset file) file m.0.next) _ f m.2 in
      let o = need-inv 0 (eqb (steps_offset file) s.0.next) 6 _ f s.2 in
      let j = then-inv (judge_start m.0.value.mesh m.0.value.sizes s.0.value) _ f o.1 in
      let z = need-inv 0 (one_meaning (edition file) s.0.value.replicated) 18 _ f j.1 in
      let found = order-found (carries_order (edition file)) (axis_count file) (rank_count file) file m.1 in
      let many = (mesh-and-table-facts (carries_order (edition file)) (axis_count file) (rank_count file) file m.0 m.1).axes_many in
      subst (λ (x : Front). x.order ≡ order_in file (length x.mesh) (devices_of x.mesh)) (accept-inj z.1)
      (found ∙ ap (λ (n : ℕ). order_in file n (devices_of m.0.value.mesh)) (sym many))

  header_refused : {a k : ℕ} → header_of file ≡ refuse a k → judge_header file ≡ refuse a k
  unfolding header_of
  header_refused e = go (judge_header file) _ e
    where
      go : {A B : Type 0} {a k : ℕ} (m : Judged A) (b : B) → ◌>>◌ m (accept b) ≡ refuse a k → m ≡ refuse a k
      go (accept x) b e = let z : ◌≡◌ {A = ℕ} 0 1 = cc in absurd (omega arith)
      go (refuse n l) b e = cc

  pub header-stops : {a k : ℕ} → header_of file ≡ refuse a k → judge_front file ≡ refuse a k
  header-stops e = front-split ∙ rw (header_refused e) refl

  module _ {h : Header} (e : header_of file ≡ accept h) where
    opened : judge_front file ≡ ◌>>=◌ (mesh_and_table_at (carries_order h.edition) h.axes h.rank file) (after_sizes h file)
    unfolding header_of
    opened =
        let p = then-inv (judge_header file) (accept (numbers_of file)) h e in
        front-split ∙ rw p.0.1 refl
        ∙ ap (λ (x : Header). ◌>>=◌ (mesh_and_table_at (carries_order x.edition) x.axes x.rank file) (after_sizes x file)) (accept-inj p.1)

    pub shape-stops : {a k : ℕ} → mesh_and_table_at (carries_order h.edition) h.axes h.rank file ≡ refuse a k → judge_front file ≡ refuse a k
    shape-stops q = opened ∙ ap (λ (j : Judged (Read MeshAndTable)). ◌>>=◌ j (after_sizes h file)) q

    module _ {r : Read MeshAndTable} (q : mesh_and_table_at (carries_order h.edition) h.axes h.rank file ≡ accept r) where
      after-shape : judge_front file ≡ after_sizes h file r
      after-shape = opened ∙ ap (λ (j : Judged (Read MeshAndTable)). ◌>>=◌ j (after_sizes h file)) q

      pub sharding-stops : {a k : ℕ} → sharding_at (carries_replicated h.edition) h.axes h.rank h.sharding_at file r.next ≡ refuse a k
          → judge_front file ≡ refuse a k
      sharding-stops w = after-shape ∙ rw w refl

      module _ {s : Read Sharding} (w : sharding_at (carries_replicated h.edition) h.axes h.rank h.sharding_at file r.next ≡ accept s) where
        abbrev front : Front
        front = record { mesh = r.value.mesh; order = r.value.order; sizes = r.value.sizes; start = s.value; next = s.next }

        after-sharding : judge_front file
            ≡ ◌>>◌ (need (eqb h.steps_at s.next) 6) (◌>>◌ (judge_opening h.edition r.value.mesh r.value.sizes s.value) (accept front))
        unfolding judge_opening
        after-sharding =
            after-shape ∙ rw w refl
            ∙ ap (λ (j : Judged Front). ◌>>◌ (need (eqb h.steps_at s.next) 6) j)
            (sym (then-assoc (judge_start r.value.mesh r.value.sizes s.value) (need (one_meaning h.edition s.value.replicated) 18) (accept front)))

        pub offset-stops : ¬ (h.steps_at ≡ s.next) → judge_front file ≡ refuse 6 0
        offset-stops n = after-sharding ∙ simp (ne_eqb h.steps_at s.next n)

        module _ (v : h.steps_at ≡ s.next) where
          pub start-stops : {a k : ℕ} → judge_opening h.edition r.value.mesh r.value.sizes s.value ≡ refuse a k → judge_front file ≡ refuse a k
          start-stops z = after-sharding ∙ simp (eq-eqb h.steps_at s.next v, z)

          pub front-is : judge_opening h.edition r.value.mesh r.value.sizes s.value ≡ accept tt → judge_front file ≡ accept front
          front-is z = after-sharding ∙ simp (eq-eqb h.steps_at s.next v, z)

-- ---- what the code asks

module _ (file : List ℕ) {header : Header} (e : header_of file ≡ accept header) {shape : Shape} {at : ℕ}
    (q : mesh_and_table_at (carries_order header.edition) header.axes header.rank file ≡ accept (record { value = shape_of file shape; next = at }))
    (counted : Counted shape.devices shape.mesh shape.table) where
  sizes-facts : MeshAndTableFacts header.axes header.rank file (record { value = shape_of file shape; next = at })
  sizes-facts = mesh-and-table-facts (carries_order header.edition) header.axes header.rank file _ q

  rank-are : shape.table.rank ≡ header.rank
  rank-are = counted.rank_is ∙ sizes-facts.rank_many

  pub within-places : WithinPlaces shape.mesh shape.table
  within-places =
      let h : Headed file header = headed file header e in
      let n : shape.mesh.n ≡ header.axes = counted.n_is ∙ sizes-facts.axes_many in
      record {
        axes = omega (arith, n, h.axes_are, h.facts.axes_few);
        rank = omega (arith, rank-are, h.rank_is, h.facts.rank_few);
        sized = record { least = sizes-facts.mesh.each_pos; most = sizes-facts.mesh.each_few };
      }

  -- the sharding that was read has as many lists as the table has dimensions
  pub of-rank : {j : Judged (Read Sharding)} (s : code.Sharding) {end : ℕ} → j ≡ accept (record { value = sharding_of header.rank s; next = end })
      → j ≡ accept (record { value = sharding_of shape.table.rank s; next = end })
  of-rank {j} s {end} w = subst (λ (n : ℕ). j ≡ accept (record { value = sharding_of n s; next = end })) (sym rank-are) w
