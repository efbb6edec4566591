-- The promise of a run that is the definition's (`run-promise`). Assumes nothing.
use Prim.Native.Nat.{ℕ, ◌≤◌}
use mathlib.Core.Path.{◌≡◌, refl, sym, ap, ◌∙◌, subst}
use mathlib.Core.Logic.{◌↔◌}
use mathlib.Core.List.{List}
use lib.ListN.{length}
use Rattle.rules.specs.Mesh.{devices}
use Rattle.rules.specs.Refusals.{Judged, accept, refuse, ◌>>=◌}
use Rattle.rules.specs.PlanFile.{Plan, judge, announced, announced_shape, room}
use Rattle.rules.specs.Moved.{added_on, words_moved, charge_from}
use Rattle.rules.specs.Calls.{CheckAnswer, check_of, runnable, Ran, run_leaves, run_of}
use Rattle.types.specs.Answers.{judged}
use Rattle.laws.specs.Demands.{Words, Demand3}
use Rattle.types.specs.Promises.{RunPromise}
use Rattle.types.specs.declared.Refusal.{Refusal}
use Rattle.types.specs.declared.Ran as code
use Rattle.std.specs.Prelude.{Result, Ok, Err}
use Rattle.laws.proofs.Judging.{never, accept-inj, bind_inv}
use Rattle.laws.proofs.Whole as whole
use Rattle.laws.proofs.Moved as charges

-- ---- the run

-- a run that finishes has judged its file
run-judged : (file work spare : List ℕ) → (run_of file work spare).outcome ≡ accept tt → (p : Plan) × (judge file ≡ accept p)
unfolding run_of runnable
run-judged file work spare e = go _ (judge file) e
  where
    go : (f : Plan → Judged Plan) (j : Judged Plan) → (run_leaves (◌>>=◌ j f) work spare).outcome ≡ accept tt → (p : Plan) × (j ≡ accept p)
    go f (accept p) e = (p, refl)
    go f (refuse n k) e = absurd (never e)

-- a run that is refused leaves both buffers
run-kept : (file work spare : List ℕ) {n k : ℕ} → (run_of file work spare).outcome ≡ refuse n k
    → ((run_of file work spare).work ≡ work) × ((run_of file work spare).spare ≡ spare)
unfolding run_of
run-kept file work spare e = go (runnable file work spare) e
  where
    go : {n k : ℕ} (j : Judged Plan) → (run_leaves j work spare).outcome ≡ refuse n k
        → ((run_leaves j work spare).work ≡ work) × ((run_leaves j work spare).spare ≡ spare)
    go (accept p) e = absurd (never (sym e))
    go (refuse n k) e = (refl, refl)

-- what a check that passed has judged
check-judged : (file : List ℕ) (c : CheckAnswer) → check_of file ≡ accept c → (p : Plan) × (judge file ≡ accept p) × (room p ≡ c.room)
unfolding check_of
check-judged file c e =
    let b = bind_inv (judge file) _ c e in
    (b.0, b.1, ap (λ (x : CheckAnswer). x.room) (accept-inj b.2))

judged-check : (file : List ℕ) (p : Plan) → judge file ≡ accept p
    → (c : CheckAnswer) × (check_of file ≡ accept c) × (c.room ≡ room p) × (c.moved ≡ words_moved p)
unfolding check_of
judged-check file p e =
    let c : CheckAnswer = record {
      room = room p;
      devices = devices p.mesh;
      steps = length p.runs;
      rank = length p.sizes;
      sharding = announced p (length p.steps);
      shard = announced_shape p (length p.steps);
      moved = words_moved p;
    } in
    (c, rw e refl, refl, refl)

finished : (o : Result (Unit {0}) Refusal) → judged o ≡ accept tt → o ≡ Ok tt
finished (Ok x) e = refl
finished (Err r) e = absurd (never e)

module _ (file work spare : List ℕ) (r : code.Ran) {work' spare' : List ℕ} (words : Words work)
    (ran : run_of file work spare ≡ record { outcome = judged r.outcome; moved = r.moved; work = work'; spare = spare' }) where
  abbrev answers : judged r.outcome ≡ (run_of file work spare).outcome
  answers = ap (λ (x : Ran). x.outcome) (sym ran)

  abbrev moved_is : r.moved ≡ (run_of file work spare).moved
  moved_is = ap (λ (x : Ran). x.moved) (sym ran)

  abbrev work_is : work' ≡ (run_of file work spare).work
  work_is = ap (λ (x : Ran). x.work) (sym ran)

  abbrev spare_is : spare' ≡ (run_of file work spare).spare
  spare_is = ap (λ (x : Ran). x.spare) (sym ran)

  demand_3 : (p : Plan) → judge file ≡ accept p
      → Demand3 p work spare (record { outcome = judged r.outcome; moved = r.moved; work = work'; spare = spare' })
  demand_3 p e = subst (Demand3 p work spare) ran (whole.whole_plan file p e work spare words)

  kept : (why : Refusal) → r.outcome ≡ Err why → (r.moved ≡ 0) × (work' ≡ work) × (spare' ≡ spare)
  kept why q =
      let e = sym answers ∙ ap judged q in
      let k = run-kept file work spare e in
      (moved_is ∙ (charges.one_number).refused file work spare _ _ e, work_is ∙ k.0, spare_is ∙ k.1)

  moves : r.outcome ≡ Ok tt → (p : Plan) → judge file ≡ accept p
      → (r.moved ≡ words_moved p) × (r.moved ≡ added_on (charge_from p.mesh p.sizes) p.start p.steps)
  moves q p e =
      let c = judged-check file p e in
      let m : r.moved ≡ words_moved p = moved_is ∙ (charges.one_number).finished file work spare c.0 c.1 (sym answers ∙ ap judged q) ∙ c.3 in
      (m, m ∙ (charges.plans_charged file p e).added)

  ends : (r.outcome ≡ Ok tt) ↔ ((c : CheckAnswer) × (check_of file ≡ accept c) × (c.room ≤ length work) × (c.room ≤ length spare))
  ends = (
    (λ q. let j = run-judged file work spare (sym answers ∙ ap judged q) in
        let f = (demand_3 j.0 j.1).ends.0 (ap judged q) in
        let c = judged-check file j.0 j.1 in
        (c.0, c.1, subst (λ (n : ℕ). n ≤ length work) (sym c.2) f.0, subst (λ (n : ℕ). n ≤ length spare) (sym c.2) f.1)),
    λ x. let j = check-judged file x.0 x.1 in
        finished r.outcome ((demand_3 j.0 j.1).ends.1
        (subst (λ (n : ℕ). n ≤ length work) (sym j.2) x.2, subst (λ (n : ℕ). n ≤ length spare) (sym j.2) x.3)),
  )

  pub run-promise : RunPromise file work spare r work' spare'
  run-promise = record {
    answers = answers;
    moved_is = moved_is;
    work_is = work_is;
    spare_is = spare_is;
    refused = kept;
    moves = moves;
    ends = ends;
    demand_3 = demand_3;
  }
