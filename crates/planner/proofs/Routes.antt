-- The planner, test by test; and its promise (`plan-promise`). Assumes nothing.
use Prim.Native.Nat.{ℕ, ◌≤◌}
use mathlib.Core.Path.{◌≡◌, refl, sym, ap, ◌∙◌}
use mathlib.Core.Bool.{Bool, true, false}
use mathlib.Core.List.{List, [], ◌∷◌}
use lib.ListN.{length}
use Rattle.std.specs.Prelude.{Result, Ok, Err}
use Rattle.rules.specs.Limits.{most_axes, most_dims}
use Rattle.rules.specs.Sharding.{Sharding}
use Rattle.rules.specs.Refusals.{Judged, accept, refuse, ◌>>◌}
use Rattle.types.specs.Answers.{refused_with, number_of, refusal_of}
use Rattle.rules.specs.PlanFile.{all_in, same}
use Rattle.types.specs.Types.{sharding_of, mesh_of, sizes_of}
use Rattle.types.specs.declared.Mesh.{Mesh}
use Rattle.types.specs.declared.Table.{Table}
use Rattle.types.specs.declared.Refusal.{Refusal}
use Rattle.types.specs.declared.Sharding as code
use Rattle.laws.proofs.Judging.{then-inv, then-assoc}
use Rattle.types.proofs.Refusals.{refusal-told}
use Rattle.records.specs.Writing.{judge_counts, judge_sharding}
use Rattle.records.specs.Forms.{sharding_given}
use Rattle.records.specs.Records.{Records}
use Rattle.records.specs.RoundTrip.{Shorts}
use Rattle.records.specs.Planning.{plan_steps, reachable, plan_of}
use Rattle.records.specs.Promises.{PlanPromise}
use Rattle.records.proofs.Arrives.{planner-promise, plan-again, plan-steps}
use Rattle.given.specs.Given.{judge_shape, mesh_from, table_from}
use Rattle.given.proofs.Sizes.{mesh_is, table_is}
use Rattle.given.proofs.Whole.{axes_few, dims-few}
use Rattle.given.proofs.Counts.{sharding-fits}
use Rattle.records.specs.declared.Planned.{Planned}
use Rattle.records.specs.declared.Steps.{Steps}
use Rattle.records.specs.PlanAnswer.{steps_from, step_count, steps_planned, planned_of}
use Rattle.records.proofs.Accepting.{plan-few}
use Rattle.planner.proofs.Three.{all-counted}
use Rattle.planner.specs.Routes.{judge_route}

-- ---- 40

pub lacks-axis : (s g : Sharding) {b : Bool} → b ≡ all_in g.unreduced s.unreduced → b ≡ false → reachable s g ≡ refuse 40 0
unfolding reachable
lacks-axis s g e f = rw (sym e ∙ f) refl

pub other-list : (s g : Sharding) {b c : Bool} → b ≡ all_in g.unreduced s.unreduced → b ≡ true → c ≡ same s.replicated g.replicated → c ≡ false
    → reachable s g ≡ refuse 40 0
unfolding reachable
other-list s g e f h k = rw (sym e ∙ f, sym h ∙ k) refl

pub in_reach : (s g : Sharding) {b c : Bool} → b ≡ all_in g.unreduced s.unreduced → b ≡ true → c ≡ same s.replicated g.replicated → c ≡ true
    → reachable s g ≡ accept tt
unfolding reachable
in_reach s g e f h k = rw (sym e ∙ f, sym h ∙ k) refl

-- a sharding judged for the mesh and the table of sizes that passed
pub sharding-judged : (mesh order sizes : List ℕ) → accept tt ≡ judge_shape mesh order sizes 0 → (m : Mesh) (t : Table) (s : code.Sharding) → m ≡ mesh_from mesh → t ≡ table_from sizes
    → judge_sharding (mesh_of m) (sizes_of t) (sharding_given t.rank s) ≡ judge_sharding mesh sizes (sharding_given (length sizes) s)
sharding-judged mesh order sizes h m t s a b =
    let p = mesh_is mesh (axes_few mesh order sizes 0 (sym h)) a in
    let q = table_is sizes (dims-few mesh order sizes 0 (sym h)) b in
    λ i. judge_sharding (p.0 i) (q.0 i) (sharding_given (q.1 i) s)

-- outcomes
same-refusal : {x y : Refusal} → ◌≡◌ {A = Result (Unit {0}) Refusal} (Err x) (Err y) → x ≡ y
same-refusal p = cc

made-refused : {x : Refusal} → ◌≡◌ {A = Result (Unit {0}) Refusal} (Ok tt) (Err x) → ⊥
made-refused p = cc

-- ---- the tests in turn

module _ (mesh order sizes : List ℕ) (start goal : code.Sharding) where
  abbrev S : Sharding
  S = sharding_given (length sizes) start

  abbrev G : Sharding
  G = sharding_given (length sizes) goal

  -- a sharding that passed has no list past its places
  fits : (s : code.Sharding) → length mesh ≤ most_axes → judge_sharding mesh sizes (sharding_given (length sizes) s) ≡ accept tt
      → sharding_given (length sizes) s ≡ sharding_of (length sizes) s
  unfolding judge_sharding
  fits s n e =
      let z : Sharding = sharding_given (length sizes) s in
      let d = then-inv (judge_counts (length mesh) z.dims) _ tt e in
      let o = then-inv (judge_counts (length mesh) (z.unreduced ∷ z.replicated ∷ [])) _ tt d.1 in
      sharding-fits (length mesh) (length sizes) s n d.0.1 o.0.1

  pub reach-decides : length mesh ≤ most_axes → accept tt ≡ judge_sharding mesh sizes S → accept tt ≡ judge_sharding mesh sizes G
      → reachable (sharding_of (length sizes) start) (sharding_of (length sizes) goal) ≡ reachable S G
  reach-decides n o q = λ i. reachable (sym (fits start n (sym o)) i) (sym (fits goal n (sym q)) i)

  -- ---- the answer

  -- in every place, and a refusal's number
  abbrev pub Answered : Planned → Type 0
  Answered r =
      (r ≡ planned_of (steps_planned mesh order sizes start goal))
      × ((x : Refusal) → r.outcome ≡ Err x → steps_planned mesh order sizes start goal ≡ refused_with x)

  -- the definition makes the same tests
  planned-is : steps_planned mesh order sizes start goal ≡ ◌>>◌ (judge_route mesh order sizes start goal) (accept (plan_steps S G))
  unfolding plan_of
  planned-is = simp then-assoc refl

  pub plan-refused : (x : Refusal) → refused_with x ≡ judge_route mesh order sizes start goal → {none : Steps} → none ≡ steps_from []
      → Answered (record { outcome = Err x; plan = none })
  plan-refused x e {none} n =
      let stops : steps_planned mesh order sizes start goal ≡ refused_with x =
      planned-is ∙ ap (λ (i : Judged (Unit {0})). ◌>>◌ i (accept (plan_steps S G))) (sym e) in
      let u : x ≡ refusal_of (number_of x.reason) x.step = sym (refusal-told x) in (
        (λ i. record { outcome = Err (u i); plan = n i }) ∙ sym (ap planned_of stops),
        (λ y p. stops ∙ ap (λ (z : Refusal). refused_with z) (same-refusal p)),
      )

  pub route-rank : judge_route mesh order sizes start goal ≡ accept tt → length sizes ≤ most_dims
  route-rank e = dims-few mesh order sizes 0 (then-inv (judge_shape mesh order sizes 0) _ tt e).0.1

  pub plan-made : judge_route mesh order sizes start goal ≡ accept tt → {made : Steps}
      → made ≡ steps_from (plan_steps (sharding_of (length sizes) start) (sharding_of (length sizes) goal))
      → Answered (record { outcome = Ok tt; plan = made })
  plan-made e {made} q =
      let s = then-inv (judge_shape mesh order sizes 0) _ tt e in
      let n : length mesh ≤ most_axes = axes_few mesh order sizes 0 s.0.1 in
      let o = then-inv (judge_sharding mesh sizes S) _ tt s.1 in
      let g = then-inv (judge_sharding mesh sizes G) _ tt o.1 in (
        ap (λ (z : Steps). record { outcome = Ok tt; plan = z }) (q ∙ (λ i. steps_from (plan_steps (sym (fits start n o.0.1) i) (sym (fits goal n g.0.1) i))))
            ∙ sym (ap planned_of (planned-is ∙ ap (λ (i : Judged (Unit {0})). ◌>>◌ i (accept (plan_steps S G))) e)),
        (λ y p. absurd (made-refused p)),
      )

-- ---- the promise

pub plan-promise : (mesh order sizes : List ℕ) → Shorts mesh → Shorts order → Shorts sizes → (start goal : code.Sharding) (r : Planned)
    → Answered mesh order sizes start goal r → PlanPromise mesh order sizes start goal r
plan-promise mesh order sizes m o t start goal r e = record {
  answers = e.0;
  refused = e.1;
  reaches = λ rs a.
      let s : Sharding = S mesh order sizes start goal in
      let g : Sharding = G mesh order sizes start goal in
      let p = planner-promise mesh order sizes m o t s g rs a in
      let answered : r ≡ planned_of (accept (plan_steps s g)) = e.0 ∙ ap (λ (j : Judged Records). planned_of (◌>>◌ j (accept (plan_steps s g)))) a in
      record {
        steps = plan_steps s g;
        answered = answered;
        counted = ap (λ (z : Planned). step_count z.plan) answered ∙ all-counted (plan_steps s g) (plan-few s g);
        all = plan-steps mesh order sizes s g rs a;
        given = plan-again mesh order sizes s g rs a;
        plan = p.0;
        reached = p.1;
      };
}
