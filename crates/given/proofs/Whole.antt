-- The whole judgement in its parts (`in_parts`), and what the parts that passed give to the later ones. Assumes nothing.
use Prim.Native.Nat.{ℕ, ◌≤◌}
use mathlib.Core.Path.{◌≡◌, refl, sym, ap, ◌∙◌, subst}
use mathlib.Core.Bool.{Bool, true, false}
use mathlib.Core.List.{List, [], ◌∷◌}
use native.Mathlib.Omega.{arith}
use lib.ListN.{length}
use lib.Dec.{leb, leb→le}
use Rattle.rules.specs.Lists.{pick}
use Rattle.rules.specs.Limits.{most_axes, most_dims, most_devices, most_words, most_steps, every_kind}
use Rattle.rules.specs.Mesh.{devices, OnMesh}
use Rattle.rules.specs.Refusals.{Judged, accept, refuse, ◌>>=◌, ◌>>◌, need}
use Rattle.rules.specs.Sharding.{Sharding, IsSharding}
use Rattle.rules.specs.PlanFile.{axes_allowed, rank_allowed, judge_sizes, judge_start, Outermost, outermost_at}
use Rattle.types.specs.Types.{Sized, sharding_of, mesh_of, sizes_of}
use Rattle.types.specs.declared.Mesh.{Mesh}
use Rattle.types.specs.declared.Refusal.{Refusal}
use Rattle.types.specs.Answers.{refused_with}
use Rattle.types.specs.declared.Sharding as code
use Rattle.types.specs.declared.Table.{Table}
use Rattle.laws.proofs.Lists.{T_and}
use Rattle.laws.proofs.Judging.{need-inv, then-inv}
use Rattle.laws.proofs.Accepted.{SizesFacts, sizes-facts, start-sharding}
use Rattle.records.specs.Records.{outermost, steps_bytes}
use Rattle.records.specs.Writing.{judge_counts, judge_sharding, judge_order, judge_opening, most_records, step_numbered, judge_records}
use Rattle.records.specs.Forms.{list_given, dims_given, sharding_given, steps_given, records_given}
use Rattle.given.specs.Given.{judge_limits, mesh_from, table_from, Shaped, verdict_of, judge_shape, outermost_given, judge_rest}
use Rattle.given.proofs.Sizes.{mesh_is, table_is}
use Rattle.given.proofs.Counts.{sharding-fits}

-- ---- one judgement after another

pub then-stop : {A : Type 0} (k : Judged A) (r : Refusal) {j : Judged (Unit {0})} → refused_with r ≡ j → refused_with r ≡ ◌>>◌ j k
then-stop k r e = ap (λ (j : Judged (Unit {0})). ◌>>◌ j k) e

pub then-on : {A : Type 0} (k : Judged A) {j : Judged (Unit {0})} → accept tt ≡ j → k ≡ ◌>>◌ j k
then-on k e = ap (λ (j : Judged (Unit {0})). ◌>>◌ j k) e

-- ---- what passed

module _ (mesh : List ℕ) (rank steps : ℕ) (l : judge_limits (length mesh) rank steps ≡ accept tt) (m : judge_sizes most_devices 10 11 1 mesh ≡ accept tt) where
  pub on-mesh : OnMesh mesh
  on-mesh =
      let c = need-inv 0 (axes_allowed (length mesh)) 5 _ tt l in
      let n = T_and (leb 1 (length mesh)) (leb (length mesh) most_axes) c.0 in
      let f : SizesFacts most_devices 1 mesh = sizes-facts most_devices 10 11 1 mesh (omega arith) (omega arith) m in
      record {
        axes_some = leb→le 1 (length mesh) n.0;
        axes_few = leb→le (length mesh) most_axes n.1;
        devices_pos = omega (arith, f.pos);
        devices_few = omega (arith, f.few);
      }

  pub rank_few : rank ≤ most_dims
  rank_few =
      let c = need-inv 0 (axes_allowed (length mesh)) 5 _ tt l in
      let d = need-inv 0 (rank_allowed rank) 5 _ tt c.1 in
      leb→le rank most_dims (T_and (leb 1 rank) (leb rank most_dims) d.0).1

  pub sized : Sized mesh
  sized =
      let f : SizesFacts most_devices 1 mesh = sizes-facts most_devices 10 11 1 mesh (omega arith) (omega arith) m in
      record { least = f.each_pos; most = f.each_few }

module _ (mesh order sizes : List ℕ) (steps : ℕ) (e : judge_shape mesh order sizes steps ≡ accept tt) where
  pub axes_few : length mesh ≤ most_axes
  axes_few =
      let a = then-inv (judge_limits (length mesh) (length sizes) steps) _ tt e in
      let b = then-inv (judge_sizes most_devices 10 11 1 mesh) _ tt a.1 in
      (on-mesh mesh (length sizes) steps a.0.1 b.0.1).axes_few

  pub dims-few : length sizes ≤ most_dims
  dims-few =
      let a = then-inv (judge_limits (length mesh) (length sizes) steps) _ tt e in
      let b = then-inv (judge_sizes most_devices 10 11 1 mesh) _ tt a.1 in
      rank_few mesh (length sizes) steps a.0.1 b.0.1

  pub shaped : (m : Mesh) (t : Table) → m ≡ mesh_from mesh → t ≡ table_from sizes → Shaped m t
  shaped m t m-is t-is =
      let p = mesh_is mesh axes_few m-is in
      let q = table_is sizes dims-few t-is in
      let a = then-inv (judge_limits (length mesh) (length sizes) steps) _ tt e in
      let b = then-inv (judge_sizes most_devices 10 11 1 mesh) _ tt a.1 in
      record {
        fits = record {
          axes = omega (arith, p.1, axes_few);
          rank = omega (arith, q.1, dims-few);
          sized = subst Sized (sym p.0) (sized mesh (length sizes) steps a.0.1 b.0.1);
        };
        n_is = ap length p.0 ∙ sym p.1;
        rank_is = ap length q.0 ∙ sym q.1;
      }

-- ---- a sharding that passed

module _ (mesh sizes : List ℕ) (n rank : ℕ) (s : code.Sharding) (n_is : length mesh ≡ n) (few : n ≤ most_axes)
    (e : judge_sharding mesh sizes (sharding_given rank s) ≡ accept tt) where
  pub is-sharding : (sharding_given rank s ≡ sharding_of rank s) × IsSharding mesh sizes (sharding_of rank s)
  unfolding judge_sharding
  is-sharding =
      let a = then-inv (judge_counts (length mesh) (dims_given rank s.dims)) _ tt e in
      let b = then-inv (judge_counts (length mesh) (list_given s.unreduced ∷ list_given s.replicated ∷ [])) (judge_start mesh sizes (sharding_given rank s)) tt a.1 in
      let f : length mesh ≤ most_axes = omega (arith, n_is) in
      let q : sharding_given rank s ≡ sharding_of rank s = sharding-fits (length mesh) rank s f a.0.1 b.0.1 in
      (q, subst (IsSharding mesh sizes) q (start-sharding mesh sizes (sharding_given rank s) b.1))

  -- then the records
  module _ (steps : List ℕ) (count : ℕ) where
    pub records-decide : judge_rest mesh sizes rank s steps count ≡ step_numbered (outermost_given mesh sizes rank steps count (sharding_of rank s))
    records-decide =
        ap (λ (j : Judged (Unit {0})). ◌>>◌ j (step_numbered (outermost_given mesh sizes rank steps count (sharding_given rank s)))) e
        ∙ ap (λ (s : Sharding). step_numbered (outermost_given mesh sizes rank steps count s)) is-sharding.0

-- ---- the parts

numbered-verdict : {A : Type 0} (x : Judged A) → verdict_of (step_numbered x) ≡ step_numbered (verdict_of x)
numbered-verdict (accept a) = refl
numbered-verdict {A} (refuse n k) = go (leb k most_records)
  where
    go : (b : Bool) → verdict_of {A = A} (pick b (refuse n k) (refuse 2 0)) ≡ pick b (refuse n k) (refuse 2 0)
    go true = refl
    go false = refl

regrouped : {A B : Type 0} (a b c d e f g : Judged (Unit {0})) (x : Judged A) (k : A → B)
    → verdict_of (◌>>◌ (◌>>◌ a (◌>>◌ b (◌>>◌ c (◌>>◌ d (◌>>◌ e (◌>>◌ f g)))))) (◌>>=◌ x (λ o. accept (k o))))
    ≡ ◌>>◌ (◌>>◌ (◌>>◌ a (◌>>◌ b c)) (◌>>◌ d (◌>>◌ e f))) (◌>>◌ g (verdict_of x))
regrouped (refuse m n) b c d e f g x k = refl
regrouped (accept u) (refuse m n) c d e f g x k = refl
regrouped (accept u) (accept v) (refuse m n) d e f g x k = refl
regrouped (accept u) (accept v) (accept w) (refuse m n) e f g x k = refl
regrouped (accept u) (accept v) (accept w) (accept y) (refuse m n) f g x k = refl
regrouped (accept u) (accept v) (accept w) (accept y) (accept z) (refuse m n) g x k = refl
regrouped (accept u) (accept v) (accept w) (accept y) (accept z) (accept p) (refuse m n) x k = refl
regrouped (accept u) (accept v) (accept w) (accept y) (accept z) (accept p) (accept q) (accept o) k = refl
regrouped (accept u) (accept v) (accept w) (accept y) (accept z) (accept p) (accept q) (refuse m n) k = refl

module _ (mesh order sizes : List ℕ) (start : code.Sharding) (steps : List ℕ) {count : ℕ} (c : count ≡ outermost (steps_given (length sizes) steps)) where
  pub in_parts : verdict_of (judge_records (records_given mesh order sizes start steps))
      ≡ ◌>>◌ (judge_shape mesh order sizes count) (judge_rest mesh sizes (length sizes) start steps count)
  unfolding judge_records judge_opening
  in_parts =
      let read : Judged Outermost =
      outermost_at every_kind mesh sizes (steps_bytes (steps_given (length sizes) steps)) 0 (outermost (steps_given (length sizes) steps)) 1 0 (sharding_given (length sizes) start) in
      regrouped (need (axes_allowed (length mesh)) 5) (need (rank_allowed (length sizes)) 5) (need (leb (outermost (steps_given (length sizes) steps)) most_steps) 5)
      (judge_sizes most_devices 10 11 1 mesh) (judge_order (devices mesh) order) (judge_sizes most_words 12 13 1 sizes)
      (judge_sharding mesh sizes (sharding_given (length sizes) start)) (step_numbered read) _
      ∙ (λ i. ◌>>◌ (judge_shape mesh order sizes (outermost (steps_given (length sizes) steps)))
      (◌>>◌ (judge_sharding mesh sizes (sharding_given (length sizes) start)) (numbered-verdict read i)))
      ∙ (λ i. ◌>>◌ (judge_shape mesh order sizes (sym c i)) (◌>>◌ (judge_sharding mesh sizes (sharding_given (length sizes) start))
      (step_numbered (outermost_given mesh sizes (length sizes) steps (sym c i) (sharding_given (length sizes) start)))))

  -- the rest, of the code's mesh and table
  pub rest_of : judge_shape mesh order sizes count ≡ accept tt → (m : Mesh) (t : Table) → m ≡ mesh_from mesh → t ≡ table_from sizes
      → judge_rest (mesh_of m) (sizes_of t) t.rank start steps count ≡ judge_rest mesh sizes (length sizes) start steps count
  rest_of e m t m-is t-is =
      let p = mesh_is mesh (axes_few mesh order sizes count e) m-is in
      let q = table_is sizes (dims-few mesh order sizes count e) t-is in
      λ i. judge_rest (p.0 i) (q.0 i) (q.1 i) start steps count
