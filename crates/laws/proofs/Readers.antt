-- Two readers of plan files, of which the one takes nothing that the other does not: what either answers on a file that the other accepts
-- (`readers_compared`). The judgements differ in four tests and in the kinds of steps; what follows the sizes up to the steps is the same for every reader
-- (`after_sizes`). Assumes nothing.
use Prim.Native.Nat.{ℕ, zero, suc, ◌+◌, ◌*◌, ◌<◌, ◌≤◌}
use mathlib.Core.Path.{◌≡◌, refl, sym, ap, ◌∙◌, subst}
use mathlib.Core.Bool.{Bool, true, false, not, ◌&&◌}
use mathlib.Core.List.{List, [], ◌∷◌, ◌++◌}
use native.Mathlib.Nat.{mul-pos, mul_assoc, le-mul_of_pos_right}
use native.Mathlib.Omega.{arith}
use lib.ListN.{length}
use lib.Dec.{T, ltb, leb, eqb, ltb→lt, leb→le, le→leb, eqb→eq, eqb_refl, lit<, lit≤}
use borrow.Author.Tests.{lt-leb, leb-false}
use Rattle.rules.specs.Lists.{tab, product, done, ◌&◌}
use Rattle.rules.specs.Mesh.{devices}
use Rattle.rules.specs.Limits.{Reader, every_kind, present, least_bytes, most_bytes, most_devices, most_words, latest_edition, original, up_to, before}
use Rattle.rules.specs.Refusals.{Judged, accept, refuse, ◌>>=◌, ◌>>◌, need, need_at}
use Rattle.rules.specs.PlanFile.{
  Read,
  u16_at,
  edition,
  edition_known,
  axis_count,
  rank_count,
  step_count,
  mesh_offset,
  tensor_offset,
  sharding_offset,
  steps_offset,
  judge_header_by,
  judge_sizes,
  sizes_at,
  carries_order,
  order_at,
  MeshAndTable,
  mesh_and_table_at_by,
  carries_replicated,
  sharding_at,
  judge_start,
  one_meaning,
  Record,
  kind_byte,
  Outermost,
  outermost_at,
  Front,
  judge_front_by,
  Plan,
  judge_by,
}
use Rattle.laws.specs.Readers.{
  Narrower,
  kinds_known,
  taken_by,
  KeepsPlans,
  MeetsTests,
  ReadersCompared,
  EarlierLimits,
  EarlierEditions,
  NoneOf,
  EarlierSteps,
}
use Rattle.laws.proofs.Judging.{accept-inj, need-inv, then-inv, bind_inv, then-assoc}
use Rattle.laws.proofs.Lists.{T_and, T→true, n_t→false}
use Rattle.laws.proofs.Accepted.{SizesFacts, sizes-facts}
use Rattle.laws.proofs.Earlier.{outermost-meets, outermost-keeps}

-- ---- a judgement that is a test more than another

-- what j answers where i accepts a: the tests t, and then a
abbrev Tests : {A : Type 0} → (j : Judged A) → Judged (Unit {0}) → A → Type 0
Tests j t a = j ≡ ◌>>◌ t (accept a)

passes : {A : Type 0} (b : Bool) (n : ℕ) (m : Judged A) → T b → ◌>>◌ (need b n) m ≡ m
passes {A = A} false n m t = elim t [ ]
passes true n m t = refl

-- a test that is the last to be made
tests-last : (b : Bool) (n : ℕ) (m : Judged (Unit {0})) → m ≡ accept tt → ◌>>◌ (need b n) m ≡ need b n
tests-last true n m e = e
tests-last false n m e = refl

-- tests, and then what follows
tests-bind : {A B : Type 0} (t u : Judged (Unit {0})) (a : A) (f : A → Judged B) (b : B) (j : Judged A) → Tests j t a → Tests (f a) u b
    → Tests (◌>>=◌ j f) (◌>>◌ t u) b
tests-bind {A} {B} t u a f b j e g = ap (λ (i : Judged A). ◌>>=◌ i f) e ∙ go t
  where
    go : (t : Judged (Unit {0})) → ◌>>=◌ (◌>>◌ t (accept a)) f ≡ ◌>>◌ (◌>>◌ t u) (accept b)
    go (accept x) = g
    go (refuse n k) = refl

tests_then : {B : Type 0} (t u : Judged (Unit {0})) (m : Judged B) (b : B) (j : Judged (Unit {0})) → j ≡ t → Tests m u b
    → Tests (◌>>◌ j m) (◌>>◌ t u) b
tests_then {B} t u m b j e g = ap (λ (i : Judged (Unit {0})). ◌>>◌ i m) e ∙ go t
  where
    go : (t : Judged (Unit {0})) → ◌>>◌ t m ≡ ◌>>◌ (◌>>◌ t u) (accept b)
    go (accept x) = g
    go (refuse n k) = refl

-- no test more
tests-none : {A B : Type 0} (t : Judged (Unit {0})) (a : A) (f : A → Judged B) (b : B) (j : Judged A) → Tests j t a → f a ≡ accept b → Tests (◌>>=◌ j f) t b
tests-none {A} t a f b j e g = ap (λ (i : Judged A). ◌>>=◌ i f) e ∙ go t
  where
    go : (t : Judged (Unit {0})) → ◌>>=◌ (◌>>◌ t (accept a)) f ≡ ◌>>◌ t (accept b)
    go (accept x) = g
    go (refuse n k) = refl

both_hold : (a b : Bool) → T a → T b → T (a && b)
both_hold false b s t = elim s [ ]
both_hold true false s t = elim t [ ]
both_hold true true s t = tt

pos-right : (a b : ℕ) → 0 < a * b → 0 < b
pos-right a zero h = absurd (omega arith)
pos-right a (suc b) h = omega arith

-- ---- the header

-- the tests of what a reader takes, of a header
abbrev header_within : Reader → (file : List ℕ) → Judged (Unit {0})
header_within r file = ◌>>◌ (need (leb (length file) r.bytes) 2) (need (edition_known r (edition file)) 3)

module _ (r s : Reader) (file : List ℕ) where
  header-meets : judge_header_by s file ≡ accept tt → judge_header_by r file ≡ header_within r file
  unfolding judge_header_by
  header-meets e =
      let a = need-inv 0 (leb least_bytes (length file)) 1 _ tt e in
      let b = need-inv 0 (leb (length file) s.bytes) 2 _ tt a.1 in
      let c = need-inv 0 (edition_known s (edition file)) 3 _ tt b.1 in
      passes (leb least_bytes (length file)) 1 _ a.0
      ∙ ap (λ (j : Judged (Unit {0})). ◌>>◌ (need (leb (length file) r.bytes) 2) j) (tests-last (edition_known r (edition file)) 3 _ c.1)

  known-by-both : r.editions ≤ s.editions → (e : ℕ) → T (edition_known r e) → T (edition_known s e)
  known-by-both l e t =
      let k : T (leb 1 e) × T (leb e r.editions) = T_and (leb 1 e) (leb e r.editions) t in
      both_hold (leb 1 e) (leb e s.editions) k.0 (le→leb e s.editions (omega (arith, leb→le e r.editions k.1)))

  header-keeps : r.bytes ≤ s.bytes → r.editions ≤ s.editions → judge_header_by r file ≡ accept tt → judge_header_by s file ≡ accept tt
  unfolding judge_header_by
  header-keeps l m e =
      let a = need-inv 0 (leb least_bytes (length file)) 1 _ tt e in
      let b = need-inv 0 (leb (length file) r.bytes) 2 _ tt a.1 in
      let c = need-inv 0 (edition_known r (edition file)) 3 _ tt b.1 in
      passes (leb least_bytes (length file)) 1 _ a.0
      ∙ passes (leb (length file) s.bytes) 2 _ (le→leb (length file) s.bytes (omega (arith, leb→le (length file) r.bytes b.0)))
      ∙ passes (edition_known s (edition file)) 3 _ (known-by-both m (edition file) c.0) ∙ c.1

-- ---- sizes

module _ (few most z o : ℕ) where
  sizes-meet : (running : ℕ) (sizes : List ℕ) → 0 < running → running ≤ few → judge_sizes most z o running sizes ≡ accept tt
      → judge_sizes few z o running sizes ≡ need (leb (running * product sizes) few) o
  unfolding judge_sizes
  sizes-meet running [] p l e = sym (holds (leb (running * 1) few) (le→leb (running * 1) few (omega arith)))
    where
      holds : (b : Bool) → T b → need b o ≡ accept tt
      holds false t = elim t [ ]
      holds true t = refl
  sizes-meet running (n ∷ sizes) p l e =
      let q = need-inv 0 (ltb 0 n) z _ tt e in
      let k = need-inv 0 (leb (running * n) most) o _ tt q.1 in
      let h : 0 < n = ltb→lt 0 n q.0 in
      let f : SizesFacts most (running * n) sizes = sizes-facts most z o (running * n) sizes (mul-pos p h) (leb→le (running * n) most k.0) k.1 in
      passes (ltb 0 n) z _ q.0
      ∙ go (leb (running * n) few) refl (sizes-meet (running * n) sizes (mul-pos p h)) f.pos k.1
    where
      whole : running * n * product sizes ≡ running * (n * product sizes)
      whole = mul_assoc running n (product sizes)

      go : (b : Bool) → leb (running * n) few ≡ b
          → (running * n ≤ few → judge_sizes most z o (running * n) sizes ≡ accept tt → judge_sizes few z o (running * n) sizes ≡ need (leb (running * n * product sizes) few) o)
          → 0 < running * n * product sizes
          → judge_sizes most z o (running * n) sizes ≡ accept tt
          → ◌>>◌ (need b o) (judge_sizes few z o (running * n) sizes) ≡ need (leb (running * (n * product sizes)) few) o
      go true eb ih ps e = ih (leb→le (running * n) few (subst T (sym eb) tt)) e ∙ ap (λ (j : ℕ). need (leb j few) o) whole
      go false eb ih ps e = ap (λ (b : Bool). need b o) (sym (lt-leb (running * (n * product sizes)) few (over ps)))
        where
          over : 0 < running * n * product sizes → few < running * (n * product sizes)
          over ps =
              omega (
                arith,
                leb-false (running * n) few eb,
                le-mul_of_pos_right (running * n) (pos-right (running * n) (product sizes) ps),
                whole,
              )

  sizes-keep : (running : ℕ) (sizes : List ℕ) → few ≤ most → judge_sizes few z o running sizes ≡ accept tt → judge_sizes most z o running sizes ≡ accept tt
  unfolding judge_sizes
  sizes-keep running [] l e = refl
  sizes-keep running (n ∷ sizes) l e =
      let q = need-inv 0 (ltb 0 n) z _ tt e in
      let k = need-inv 0 (leb (running * n) few) o _ tt q.1 in
      passes (ltb 0 n) z _ q.0
      ∙ passes (leb (running * n) most) o _ (le→leb (running * n) most (omega (arith, leb→le (running * n) few k.0)))
      ∙ sizes-keep (running * n) sizes l k.1

  module _ (count offset : ℕ) (file : List ℕ) (at : ℕ) (x : Read (List ℕ)) where
    section-meets : 1 ≤ few → sizes_at most z o count offset file at ≡ accept x → Tests (sizes_at few z o count offset file at) (need (leb (product x.value) few) o) x
    unfolding sizes_at
    section-meets l e =
        let sizes : List ℕ = tab count (λ i. u16_at file (at + 2 * i)) in
        let a = need-inv 0 (eqb offset at) 6 _ x e in
        let b = need-inv 0 (leb (at + 2 * count) (length file)) 7 _ x a.1 in
        let c = then-inv (judge_sizes most z o 1 sizes) _ x b.1 in
        passes (eqb offset at) 6 _ a.0 ∙ passes (leb (at + 2 * count) (length file)) 7 _ b.0
        ∙ ap (λ (j : Judged (Unit {0})). ◌>>◌ j (accept (record { value = sizes; next = at + 2 * count }))) (sizes-meet 1 sizes (lit< tt) l c.0.1)
        ∙ subst (λ (y : Read (List ℕ)). ◌>>◌ (need (leb (1 * product sizes) few) o) (accept (record { value = sizes; next = at + 2 * count }))
        ≡ ◌>>◌ (need (leb (product y.value) few) o) (accept y)) (accept-inj c.1)
        (ap (λ (n : ℕ). ◌>>◌ (need (leb n few) o) (accept (record { value = sizes; next = at + 2 * count }))) (omega arith))

    section-keeps : few ≤ most → sizes_at few z o count offset file at ≡ accept x → sizes_at most z o count offset file at ≡ accept x
    unfolding sizes_at
    section-keeps l e =
        let sizes : List ℕ = tab count (λ i. u16_at file (at + 2 * i)) in
        let a = need-inv 0 (eqb offset at) 6 _ x e in
        let b = need-inv 0 (leb (at + 2 * count) (length file)) 7 _ x a.1 in
        let c = then-inv (judge_sizes few z o 1 sizes) _ x b.1 in
        passes (eqb offset at) 6 _ a.0 ∙ passes (leb (at + 2 * count) (length file)) 7 _ b.0
        ∙ ap (λ (j : Judged (Unit {0})). ◌>>◌ j (accept (record { value = sizes; next = at + 2 * count }))) (sizes-keep 1 sizes l c.0.1) ∙ c.1

-- the tests of a reader's limits, of sizes
abbrev sizes_within : Reader → (mesh sizes : List ℕ) → Judged (Unit {0})
sizes_within r mesh sizes = ◌>>◌ (need (leb (devices mesh) r.devices) 11) (need (leb (product sizes) r.words) 13)

-- the tensor's section, after the mesh and the order
abbrev table_at : Reader → (rank : ℕ) → (file : List ℕ) → (m o : Read (List ℕ)) → Judged (Read MeshAndTable)
table_at r rank file m o = do
  t ← sizes_at r.words 12 13 rank (tensor_offset file) file o.next
  accept (record { value = record { mesh = m.value; order = o.value; sizes = t.value }; next = t.next })

-- the order and the tensor's section; an order is the same for every reader
abbrev after_mesh : Reader → (carried : Bool) → (rank : ℕ) → (file : List ℕ) → Read (List ℕ) → Judged (Read MeshAndTable)
after_mesh r carried rank file m = ◌>>=◌ (order_at carried (devices m.value) file m.next) (table_at r rank file m)

module _ (r s : Reader) (n : Narrower r s) (carried : Bool) (count rank : ℕ) (file : List ℕ) (x : Read MeshAndTable) where
  sections-meet : mesh_and_table_at_by s carried count rank file ≡ accept x
      → Tests (mesh_and_table_at_by r carried count rank file) (sizes_within r x.value.mesh x.value.sizes) x
  unfolding mesh_and_table_at_by
  sections-meet e =
      let m = bind_inv (sizes_at s.devices 10 11 count (mesh_offset file) file 18) (after_mesh s carried rank file) x e in
      let o = bind_inv (order_at carried (devices m.0.value) file m.0.next) (table_at s rank file m.0) x m.2 in
      let t = bind_inv (sizes_at s.words 12 13 rank (tensor_offset file) file o.0.next) _ x o.2 in
      subst (λ (y : Read MeshAndTable). Tests (mesh_and_table_at_by r carried count rank file) (sizes_within r y.value.mesh y.value.sizes) y) (accept-inj t.2)
      (tests-bind (need (leb (devices m.0.value) r.devices) 11) (need (leb (product t.0.value) r.words) 13) m.0 (after_mesh r carried rank file) _
      (sizes_at r.devices 10 11 count (mesh_offset file) file 18)
      (section-meets r.devices s.devices 10 11 count (mesh_offset file) file 18 m.0 n.devices_some m.1)
      (ap (λ (j : Judged (Read (List ℕ))). ◌>>=◌ j (table_at r rank file m.0)) o.1
      ∙ tests-none (need (leb (product t.0.value) r.words) 13) t.0 _ _ (sizes_at r.words 12 13 rank (tensor_offset file) file o.0.next)
      (section-meets r.words s.words 12 13 rank (tensor_offset file) file o.0.next t.0 n.words_some t.1) refl))

  sections-keep : mesh_and_table_at_by r carried count rank file ≡ accept x → mesh_and_table_at_by s carried count rank file ≡ accept x
  unfolding mesh_and_table_at_by
  sections-keep e =
      let m = bind_inv (sizes_at r.devices 10 11 count (mesh_offset file) file 18) (after_mesh r carried rank file) x e in
      let o = bind_inv (order_at carried (devices m.0.value) file m.0.next) (table_at r rank file m.0) x m.2 in
      let t = bind_inv (sizes_at r.words 12 13 rank (tensor_offset file) file o.0.next) _ x o.2 in
      ap (λ (j : Judged (Read (List ℕ))). ◌>>=◌ j (after_mesh s carried rank file))
      (section-keeps r.devices s.devices 10 11 count (mesh_offset file) file 18 m.0 n.devices_few m.1)
      ∙ ap (λ (j : Judged (Read (List ℕ))). ◌>>=◌ j (table_at s rank file m.0)) o.1
      ∙ ap (λ (j : Judged (Read (List ℕ))). ◌>>=◌ j (λ t. accept (both m.0 o.0 t)))
      (section-keeps r.words s.words 12 13 rank (tensor_offset file) file o.0.next t.0 n.words_few t.1) ∙ t.2
    where
      both : Read (List ℕ) → Read (List ℕ) → Read (List ℕ) → Read MeshAndTable
      both m o t = record { value = record { mesh = m.value; order = o.value; sizes = t.value }; next = t.next }

-- ---- the whole file

-- what follows the sizes, the same for every reader
abbrev after_sizes : List ℕ → Read MeshAndTable → Judged Front
after_sizes file m = do
  s ← sharding_at (carries_replicated (edition file)) (axis_count file) (rank_count file) (sharding_offset file) file m.next
  need (eqb (steps_offset file) s.next) 6
  judge_start m.value.mesh m.value.sizes s.value
  need (one_meaning (edition file) s.value.replicated) 18
  accept (record { mesh = m.value.mesh; order = m.value.order; sizes = m.value.sizes; start = s.value; next = s.next })

sizes-same : (file : List ℕ) (m : Read MeshAndTable) (f : Front) → after_sizes file m ≡ accept f → (m.value.mesh ≡ f.mesh) × (m.value.sizes ≡ f.sizes)
sizes-same file m f e =
    let s = bind_inv (sharding_at (carries_replicated (edition file)) (axis_count file) (rank_count file) (sharding_offset file) file m.next) _ f e in
    let o = need-inv 0 (eqb (steps_offset file) s.0.next) 6 _ f s.2 in
    let j = then-inv (judge_start m.value.mesh m.value.sizes s.0.value) _ f o.1 in
    let z = need-inv 0 (one_meaning (edition file) s.0.value.replicated) 18 _ f j.1 in (
      ap (λ (g : Front). g.mesh) (accept-inj z.1),
      ap (λ (g : Front). g.sizes) (accept-inj z.1),
    )

-- what follows the front
abbrev plan_of : Front → Outermost → Plan
plan_of f ts = record {
  mesh = f.mesh;
  order = f.order;
  sizes = f.sizes;
  start = f.start;
  records = ts.records;
  steps = ts.steps;
  runs = ts.runs;
}

abbrev after_front : Reader → List ℕ → Front → Judged Plan
after_front r file f = do
  ts ← outermost_at r.kinds f.mesh f.sizes file 0 (step_count file) 1 f.next f.start
  need (eqb ts.next (length file)) 9
  accept (plan_of f ts)

front_same : (r : Reader) (file : List ℕ) (f : Front) (p : Plan) → after_front r file f ≡ accept p → (f.mesh ≡ p.mesh) × (f.sizes ≡ p.sizes)
front_same r file f p e =
    let ts = bind_inv (outermost_at r.kinds f.mesh f.sizes file 0 (step_count file) 1 f.next f.start) _ p e in
    let z = need-inv 0 (eqb ts.0.next (length file)) 9 _ p ts.2 in (
      ap (λ (q : Plan). q.mesh) (accept-inj z.1),
      ap (λ (q : Plan). q.sizes) (accept-inj z.1),
    )

module _ (r s : Reader) (n : Narrower r s) (file : List ℕ) (f : Front) (p : Plan) where
  steps-meet : after_front s file f ≡ accept p → Tests (after_front r file f) (kinds_known r.kinds 1 p.records) p
  steps-meet e =
      let ts = bind_inv (outermost_at s.kinds f.mesh f.sizes file 0 (step_count file) 1 f.next f.start) _ p e in
      let z = need-inv 0 (eqb ts.0.next (length file)) 9 _ p ts.2 in
      subst (λ (q : Plan). Tests (after_front r file f) (kinds_known r.kinds 1 q.records) q) (accept-inj z.1)
      (tests-none (kinds_known r.kinds 1 ts.0.records) ts.0 _ (plan_of f ts.0) _
      (outermost-meets f.mesh f.sizes file r.kinds s.kinds 0 (step_count file) 1 f.next f.start ts.0 ts.1)
      (passes (eqb ts.0.next (length file)) 9 (accept (plan_of f ts.0)) z.0))

  steps-keep : after_front r file f ≡ accept p → after_front s file f ≡ accept p
  steps-keep e =
      let ts = bind_inv (outermost_at r.kinds f.mesh f.sizes file 0 (step_count file) 1 f.next f.start) _ p e in
      rw (outermost-keeps f.mesh f.sizes file r.kinds s.kinds n.kinds_few 0 (step_count file) 1 f.next f.start ts.0 ts.1) ts.2

module _ (r s : Reader) (n : Narrower r s) (file : List ℕ) where
  -- the tests that r makes and s does not, of a file with these sizes
  abbrev limits : (mesh sizes : List ℕ) → Judged (Unit {0})
  limits mesh sizes = ◌>>◌ (need (leb (length file) r.bytes) 2) (◌>>◌ (need (edition_known r (edition file)) 3) (sizes_within r mesh sizes))

  front-meets : (f : Front) → judge_front_by s file ≡ accept f → Tests (judge_front_by r file) (limits f.mesh f.sizes) f
  unfolding judge_front_by
  front-meets f e =
      let h = then-inv (judge_header_by s file) _ f e in
      let m = bind_inv (mesh_and_table_at_by s (carries_order (edition file)) (axis_count file) (rank_count file) file) (after_sizes file) f h.1 in
      let q = sizes-same file m.0 f m.2 in
      subst (λ (mesh : List ℕ). Tests (judge_front_by r file) (limits mesh f.sizes) f) q.0
      (subst (λ (sizes : List ℕ). Tests (judge_front_by r file) (limits m.0.value.mesh sizes) f) q.1
      (tests_then (header_within r file) (sizes_within r m.0.value.mesh m.0.value.sizes) _ f (judge_header_by r file)
      (header-meets r s file h.0.1)
      (tests-none (sizes_within r m.0.value.mesh m.0.value.sizes) m.0 (after_sizes file) f
      (mesh_and_table_at_by r (carries_order (edition file)) (axis_count file) (rank_count file) file)
      (sections-meet r s n (carries_order (edition file)) (axis_count file) (rank_count file) file m.0 m.1) m.2)
      ∙ ap (λ (t : Judged (Unit {0})). ◌>>◌ t (accept f))
      (then-assoc (need (leb (length file) r.bytes) 2) (need (edition_known r (edition file)) 3) (sizes_within r m.0.value.mesh m.0.value.sizes))))

  front-keeps : (f : Front) → judge_front_by r file ≡ accept f → judge_front_by s file ≡ accept f
  unfolding judge_front_by
  front-keeps f e =
      let h = then-inv (judge_header_by r file) _ f e in
      let m = bind_inv (mesh_and_table_at_by r (carries_order (edition file)) (axis_count file) (rank_count file) file) (after_sizes file) f h.1 in
      ap (λ (j : Judged (Unit {0})). ◌>>◌ j (◌>>=◌ (mesh_and_table_at_by s (carries_order (edition file)) (axis_count file) (rank_count file) file) (after_sizes file)))
      (header-keeps r s file n.bytes_few n.editions_few h.0.1)
      ∙ ap (λ (j : Judged (Read MeshAndTable)). ◌>>=◌ j (after_sizes file)) (sections-keep r s n (carries_order (edition file)) (axis_count file) (rank_count file) file m.0 m.1) ∙ m.2

-- tests taken together otherwise
then-four : {A : Type 0} (a b c d : Judged (Unit {0})) (m : Judged A) → ◌>>◌ (◌>>◌ a (◌>>◌ b (◌>>◌ c d))) m ≡ ◌>>◌ a (◌>>◌ b (◌>>◌ c (◌>>◌ d m)))
then-four a b c d m =
    then-assoc a (◌>>◌ b (◌>>◌ c d)) m
    ∙ ap (◌>>◌ a) (then-assoc b (◌>>◌ c d) m ∙ ap (◌>>◌ b) (then-assoc c d m))

meets-tests : (r s : Reader) → Narrower r s → MeetsTests r s
unfolding judge_by
meets-tests r s n file p e =
    let f = bind_inv (judge_front_by s file) (after_front s file) p e in
    let q = front_same s file f.0 p f.2 in
    let known : Judged (Unit {0}) = kinds_known r.kinds 1 p.records in
    subst (λ (mesh : List ℕ). Tests (judge_by r file) (◌>>◌ (limits r s n file mesh p.sizes) known) p) q.0
    (subst (λ (sizes : List ℕ). Tests (judge_by r file) (◌>>◌ (limits r s n file f.0.mesh sizes) known) p) q.1
    (tests-bind (limits r s n file f.0.mesh f.0.sizes) known f.0 (after_front r file) p (judge_front_by r file) (front-meets r s n file f.0 f.1)
    (steps-meet r s n file f.0 p f.2)))
    ∙ ap (λ (t : Judged (Unit {0})). ◌>>◌ t (accept p))
    (then-four (need (leb (length file) r.bytes) 2) (need (edition_known r (edition file)) 3) (need (leb (devices p.mesh) r.devices) 11)
    (need (leb (product p.sizes) r.words) 13) known)

keeps-plans : (r s : Reader) → Narrower r s → KeepsPlans r s
unfolding judge_by
keeps-plans r s n file p e =
    let f = bind_inv (judge_front_by r file) (after_front r file) p e in
    ap (λ (j : Judged Front). ◌>>=◌ j (after_front s file)) (front-keeps r s n file f.0 f.1) ∙ steps-keep r s n file f.0 p f.2

-- TWO READERS
pub readers_compared : ReadersCompared
readers_compared r s n = (keeps-plans r s n, meets-tests r s n)

narrower : Narrower original present
narrower = record {
  devices_some = lit≤ tt;
  words_some = lit≤ tt;
  devices_few = lit≤ tt;
  words_few = lit≤ tt;
  bytes_few = lit≤ tt;
  editions_few = lit≤ tt;
  kinds_few = λ b t. t;
}

pub earlier_limits : EarlierLimits
earlier_limits = record { keeps = keeps-plans original present narrower; meets = meets-tests original present narrower }

-- ---- readers with the present limits

-- of the editions up to one, and of some kinds
abbrev reading : (latest : ℕ) → (kinds : ℕ → Bool) → Reader
reading latest kinds = record { devices = most_devices; words = most_words; bytes = most_bytes; editions = latest; kinds = kinds }

reading-less : (latest : ℕ) (kinds : ℕ → Bool) → latest ≤ latest_edition → Narrower (reading latest kinds) present
reading-less latest kinds l = record {
  devices_some = lit≤ tt;
  words_some = lit≤ tt;
  devices_few = lit≤ tt;
  words_few = lit≤ tt;
  bytes_few = lit≤ tt;
  editions_few = l;
  kinds_few = λ b t. tt;
}

-- where the tests of bytes and sizes pass, those of the edition and of the kinds are left
tests_left : {A : Type 0} (bytes first known devices words : Bool) (kinds : Judged (Unit {0})) (m : Judged A) → T bytes → T first → T devices → T words
    → ◌>>◌ (◌>>◌ (need bytes 2) (◌>>◌ (need (first && known) 3) (◌>>◌ (need devices 11) (◌>>◌ (need words 13) kinds)))) m
    ≡ ◌>>◌ (◌>>◌ (need known 3) kinds) m
tests_left {A = A} false first known _ words kinds m b f d w = elim b [ ]
tests_left {A = A} true false known _ words kinds m b f d w = elim f [ ]
tests_left {A = A} true true false false words kinds m b f d w = elim d [ ]
tests_left {A = A} true true false true false kinds m b f d w = elim w [ ]
tests_left {A = A} true true true false words kinds m b f d w = elim d [ ]
tests_left {A = A} true true true true false kinds m b f d w = elim w [ ]
tests_left true true true true true kinds m b f d w = refl
tests_left true true false true true kinds m b f d w = refl

limits-met : (latest : ℕ) (kinds : ℕ → Bool) → latest ≤ latest_edition → (file : List ℕ) (p : Plan) → judge_by present file ≡ accept p
    → T (leb (edition file) latest_edition)
    × (judge_by (reading latest kinds) file ≡ ◌>>◌ (◌>>◌ (need (leb (edition file) latest) 3) (kinds_known kinds 1 p.records)) (accept p))
limits-met latest kinds l file p e =
    let own = then-inv (taken_by present file p) (accept p) p (sym (meets-tests present present (reading-less latest_edition every_kind (omega arith)) file p e) ∙ e) in
    let b = need-inv 0 (leb (length file) most_bytes) 2 _ tt own.0.1 in
    let k = need-inv 0 (edition_known present (edition file)) 3 _ tt b.1 in
    let d = need-inv 0 (leb (devices p.mesh) most_devices) 11 _ tt k.1 in
    let w = need-inv 0 (leb (product p.sizes) most_words) 13 _ tt d.1 in
    let x : T (leb 1 (edition file)) × T (leb (edition file) latest_edition) = T_and (leb 1 (edition file)) (leb (edition file) latest_edition) k.0 in (
      x.1,
      meets-tests (reading latest kinds) present (reading-less latest kinds l) file p e
          ∙ tests_left (leb (length file) most_bytes) (leb 1 (edition file)) (leb (edition file) latest) (leb (devices p.mesh) most_devices) (leb (product p.sizes) most_words)
          (kinds_known kinds 1 p.records) (accept p) b.0 x.0 d.0 w.0,
    )

all_known : (k : ℕ) (l : List Record) → kinds_known every_kind k l ≡ accept tt
all_known k [] = refl
all_known k (t ∷ l) = all_known (k + 1) l

editions-met : (latest : ℕ) → latest ≤ latest_edition → (file : List ℕ) (p : Plan) → judge_by present file ≡ accept p
    → judge_by (up_to latest) file ≡ ◌>>◌ (need (leb (edition file) latest) 3) (accept p)
editions-met latest l file p e =
    (limits-met latest every_kind l file p e).1
    ∙ ap (λ (j : Judged (Unit {0})). ◌>>◌ (◌>>◌ (need (leb (edition file) latest) 3) j) (accept p)) (all_known 1 p.records)
    ∙ then-assoc (need (leb (edition file) latest) 3) (accept tt) (accept p)

pub earlier_editions : EarlierEditions
earlier_editions = record { keeps = λ latest l. keeps-plans (up_to latest) present (reading-less latest every_kind l); meets = editions-met }

-- ---- the reader just before a kind of step

module _ (kind : ℕ) where
  abbrev others : ℕ → Bool
  others b = not (eqb b kind)

  kinds-met : (file : List ℕ) (p : Plan) → judge_by present file ≡ accept p → judge_by (before kind) file ≡ ◌>>◌ (kinds_known others 1 p.records) (accept p)
  kinds-met file p e =
      let x = limits-met latest_edition others (omega arith) file p e in
      x.1 ∙ ap (λ (j : Judged (Unit {0})). ◌>>◌ j (accept p)) (passes (leb (edition file) latest_edition) 3 (kinds_known others 1 p.records) x.0)

  -- a record of another kind, and one of this kind
  other-met : (k : ℕ) (t : Record) (l : List Record) → ¬ (kind_byte t ≡ kind) → kinds_known others k (t ∷ l) ≡ kinds_known others (k + 1) l
  other-met k t l n =
      ap (λ (b : Bool). ◌>>◌ (need_at k (not b) 20) (kinds_known others (k + 1) l)) (n_t→false (eqb (kind_byte t) kind) (λ y. n (eqb→eq (kind_byte t) kind y)))

  one-met : (k : ℕ) (t : Record) (l : List Record) → kind_byte t ≡ kind → kinds_known others k (t ∷ l) ≡ refuse 20 k
  one-met k t l e =
      ap (λ (b : Bool). ◌>>◌ (need_at k (not b) 20) (kinds_known others (k + 1) l))
      (T→true (eqb (kind_byte t) kind) (subst (λ (z : ℕ). T (eqb (kind_byte t) z)) e (eqb_refl (kind_byte t))))

  at-the-first : (k : ℕ) (l : List Record) (t : Record) (rest : List Record) → NoneOf kind l → kind_byte t ≡ kind
      → kinds_known others k (l ++ t ∷ rest) ≡ refuse 20 (length l + k)
  at-the-first k [] t rest done e = let z : k ≡ 0 + k = omega arith in one-met k t rest e ∙ ap (refuse 20) z
  at-the-first k (r ∷ l) t rest (n & h) e =
      let z : length l + (k + 1) ≡ suc (length l) + k = omega arith in
      other-met k r (l ++ t ∷ rest) n ∙ at-the-first (k + 1) l t rest h e ∙ ap (refuse 20) z

  none-met : (k : ℕ) (l : List Record) → NoneOf kind l → kinds_known others k l ≡ accept tt
  none-met k [] done = refl
  none-met k (t ∷ l) (n & h) = other-met k t l n ∙ none-met (k + 1) l h

  pub earlier_steps : EarlierSteps kind
  earlier_steps = record {
    keeps = keeps-plans (before kind) present (reading-less latest_edition others (omega arith));
    stops = λ file p e l first rest r none k.
        kinds-met file p e ∙ ap (λ (m : List Record). ◌>>◌ (kinds_known others 1 m) (accept p)) r
        ∙ ap (λ (j : Judged (Unit {0})). ◌>>◌ j (accept p)) (at-the-first 1 l first rest none k);
    passes = λ file p e none. kinds-met file p e ∙ ap (λ (j : Judged (Unit {0})). ◌>>◌ j (accept p)) (none-met 1 p.records none);
  }
