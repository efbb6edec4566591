-- Document 02, Ask 10: the records that the planner makes are taken, their file is accepted, it ends at the goal, and a run of it turns a faithful spread
-- under the start into one under the goal (`planner-promise`); and its steps' records are what the writer takes (`plan-again`). Assumes nothing.
use Prim.Native.Nat.{ℕ, suc, ◌+◌, ◌*◌, ◌≤◌}
use mathlib.Core.Path.{◌≡◌, refl, sym, ap, ap₂, ◌∙◌, subst}
use mathlib.Core.Bool.{Bool, true, false, ◌&&◌}
use mathlib.Core.List.{List, [], ◌∷◌, ◌++◌, map}
use native.Mathlib.Omega.{arith}
use lib.ListN.{length, replicate, length-append}
use lib.Seq.{take-length}
use lib.Dec.{T, leb, leb→le, lit<, lit≤}
use Rattle.rules.specs.Lists.{pick, in_turn, product}
use Rattle.rules.specs.Mesh.{devices}
use Rattle.rules.specs.Sharding.{Sharding, shard_sizes}
use Rattle.rules.specs.Spread.{Faithful, add_words, held_by}
use Rattle.rules.specs.Collectives.{Step, all_slice, all_gather, all_reduce, step_axes, after}
use Rattle.rules.specs.Limits.{most_axes, most_dims, every_kind, most_devices, most_words, most_steps}
use Rattle.rules.specs.Refusals.{accept}
use Rattle.rules.specs.PlanFile.{axes_allowed, rank_allowed, judge_sizes, same, some, all_in, plain, outermost_at, Plan, judge, announced, announced_shape}
use Rattle.rules.specs.Factor.{step_factor, factor_of, factor_after}
use Rattle.rules.specs.Calls.{shards_after, run_of}
use Rattle.laws.specs.Demands.{Words, Demand3, Fits as RoomIn}
use Rattle.laws.proofs.Lists.{T_and, T→true, both-length, of-without}
use Rattle.laws.proofs.Judging.{accept-inj, need-inv, need-true, then-inv, all_in-in, same-eq}
use Rattle.laws.proofs.Accepted.{SizesFacts, sizes-facts}
use Rattle.laws.proofs.Factor.{step-one}
use Rattle.laws.proofs.Whole.{whole_plan}
use Rattle.records.specs.Records.{known, Records, outermost, outermost_from, list_bytes, lists_bytes, edition_of, replicated_bytes, sharding_bytes, steps_bytes, steps_start, file_length, file_of}
use Rattle.records.specs.Writing.{judge_counts, judge_sharding, judge_order, order_of, judge_opening, judge_records}
use Rattle.records.specs.RoundTrip.{Shorts, AllShort, Fits}
use Rattle.records.specs.Forms.{steps_given, records_bytes}
use Rattle.records.specs.Planning.{to_reduce, to_gather, to_slice, if_naming, plan_steps, reachable, plan_of, Reaches, PlannerPromise}
use Rattle.records.proofs.Places.{from_all}
use Rattle.records.proofs.Lists.{is_le}
use Rattle.records.proofs.Written.{file_judged}
use Rattle.records.proofs.Readback.{order-passed}
use Rattle.records.proofs.Accepting.{Judges, sharding-facts, counts-few, given_of, plain_read, Goes, plan-goes, plan-few}
use Rattle.records.proofs.Short.{outermost-short}
use Rattle.records.proofs.Reread.{steps-again}

-- plain steps are all outermost
outermost-plain : (ts : List Step) → outermost (given_of ts) ≡ length ts
unfolding outermost_from
outermost-plain [] = refl
outermost-plain (t ∷ ts) = ap suc (outermost-plain ts)

-- the three steps reduce unreduced axes alone
plan-one : (mesh : List ℕ) (s g : Sharding) → factor_of mesh (plan_steps s g) s ≡ 1
unfolding plan_steps to_reduce
plan-one mesh s g =
    naming (all_reduce (to_reduce s g)) _ s (step-one mesh (all_reduce (to_reduce s g)) s (λ a i. of-without a g.unreduced s.unreduced i))
    (λ x. naming (all_gather (to_gather s g)) _ x refl (λ y. naming (all_slice (to_slice s g)) [] y refl (λ z. refl)))
  where
    naming : (t : Step) (ts : List Step) (x : Sharding) → step_factor mesh t x ≡ 1 → ((y : Sharding) → factor_of mesh ts y ≡ 1) → factor_of mesh (if_naming t ts) x ≡ 1
    naming t ts x e h = go (some (step_axes t))
      where
        go : (b : Bool) → factor_of mesh (pick b (t ∷ ts) ts) x ≡ 1
        go true = ap₂ ◌*◌ e (h (after t x))
        go false = h x

-- a sharding's bytes
sharding-few : (mesh sizes : List ℕ) (e : ℕ) (s : Sharding) → length mesh ≤ most_axes → length s.dims ≤ most_dims → Judges mesh sizes s → length (sharding_bytes e s) ≤ 42
unfolding sharding_bytes replicated_bytes judge_counts
sharding-few mesh sizes e s n r h =
    let u = need-inv 0 (leb (length s.unreduced) (length mesh)) 8 _ tt h.others in
    let v = need-inv 0 (leb (length s.replicated) (length mesh)) 8 _ tt u.1 in
    omega (
      arith,
      length-append (lists_bytes s.dims) (list_bytes s.unreduced ++ replicated_bytes e s.replicated),
      length-append (list_bytes s.unreduced) (replicated_bytes e s.replicated),
      counts-few (length mesh) s.dims n h.counts,
      leb→le (length s.unreduced) (length mesh) u.0,
      picked (leb 2 e) (leb→le (length s.replicated) (length mesh) v.0),
    )
  where
    picked : (b : Bool) → length s.replicated ≤ length mesh → length (pick b (list_bytes s.replicated) []) ≤ 1 + length mesh
    picked true h = omega arith
    picked false h = omega arith

module _ (mesh order sizes : List ℕ) (start goal : Sharding) where
  abbrev steps : List Step
  steps = plan_steps start goal

  abbrev made : Records
  made = record { mesh = mesh; order = order; sizes = sizes; start = start; steps = given_of steps }

  abbrev plan : Plan
  plan = record {
    mesh = mesh;
    order = order_of (devices mesh) order;
    sizes = sizes;
    start = start;
    records = map plain steps;
    steps = steps;
    runs = replicate (length steps) 1;
  }

  -- what an accepted call has judged
  record Judged' : Type 0 where
    axes : T (axes_allowed (length mesh))
    rank : T (rank_allowed (length sizes))
    mesh_is : judge_sizes most_devices 10 11 1 mesh ≡ accept tt
    order_is : judge_order (devices mesh) order ≡ accept tt
    sizes_are : judge_sizes most_words 12 13 1 sizes ≡ accept tt
    start_is : judge_sharding mesh sizes start ≡ accept tt
    goal-is : judge_sharding mesh sizes goal ≡ accept tt
    fewer : T (all_in goal.unreduced start.unreduced)
    kept : start.replicated ≡ goal.replicated

  judged : (r : Records) → plan_of mesh order sizes start goal ≡ accept r → Judged' × (made ≡ r)
  unfolding plan_of reachable
  judged r e =
      let a = need-inv 0 (axes_allowed (length mesh)) 5 _ r e in
      let b = need-inv 0 (rank_allowed (length sizes)) 5 _ r a.1 in
      let m = then-inv (judge_sizes most_devices 10 11 1 mesh) _ r b.1 in
      let o = then-inv (judge_order (devices mesh) order) _ r m.1 in
      let t = then-inv (judge_sizes most_words 12 13 1 sizes) _ r o.1 in
      let s = then-inv (judge_sharding mesh sizes start) _ r t.1 in
      let g = then-inv (judge_sharding mesh sizes goal) _ r s.1 in
      let w = then-inv (reachable start goal) _ r g.1 in
      let u = need-true 0 (all_in goal.unreduced start.unreduced && same start.replicated goal.replicated) 40 w.0.1 in
      let v : T (all_in goal.unreduced start.unreduced) × T (same start.replicated goal.replicated) =
      T_and (all_in goal.unreduced start.unreduced) (same start.replicated goal.replicated) u in (
        record {
          axes = a.0;
          rank = b.0;
          mesh_is = m.0.1;
          order_is = o.0.1;
          sizes_are = t.0.1;
          start_is = s.0.1;
          goal-is = g.0.1;
          fewer = v.0;
          kept = same-eq start.replicated goal.replicated v.1;
        },
        accept-inj w.1,
      )

  module _ (j : Judged') where
    goes : Goes mesh sizes start steps goal
    goes =
        let fm : SizesFacts most_devices 1 mesh = sizes-facts most_devices 10 11 1 mesh (lit< tt) (lit≤ tt) j.mesh_is in
        plan-goes mesh sizes fm.each_pos start goal (sharding-facts mesh sizes start j.start_is) (sharding-facts mesh sizes goal j.goal-is)
        (all_in-in goal.unreduced start.unreduced j.fewer) j.kept

    few-axes : length mesh ≤ most_axes
    few-axes = leb→le (length mesh) most_axes (T_and (leb 1 (length mesh)) (leb (length mesh) most_axes) j.axes).1

    few-dims : length sizes ≤ most_dims
    few-dims = leb→le (length sizes) most_dims (T_and (leb 1 (length sizes)) (leb (length sizes) most_dims) j.rank).1

    reads : outermost_at every_kind mesh sizes (steps_bytes (given_of steps)) 0 (length steps) 1 0 start ≡ accept (plain_read 0 steps)
    reads = goes.accepts (steps_bytes (given_of steps)) 0 1 0 (from_all (steps_bytes (given_of steps))) (omega (arith, plan-few start goal))

    taken : judge_records made ≡ accept plan
    unfolding judge_records judge_opening
    taken =
        let count : outermost (given_of steps) ≡ length steps = outermost-plain steps in
        rw (
          T→true (axes_allowed (length mesh)) j.axes,
          T→true (rank_allowed (length sizes)) j.rank,
          count,
          is_le (length steps) most_steps (omega (arith, plan-few start goal)),
          j.mesh_is,
          j.order_is,
          j.sizes_are,
          j.start_is,
          reads,
        ) refl

    short : AllShort (map plain steps)
    short = outermost-short mesh sizes (steps_bytes (given_of steps)) few-axes every_kind 0 (length steps) 1 0 start (plain_read 0 steps) reads

    given-again : steps_given (length sizes) (records_bytes (map plain steps)) ≡ given_of steps
    given-again = steps-again (length sizes) few-dims (map plain steps) goes.ranked short

    fits : Shorts mesh → Shorts order → Shorts sizes → Fits made
    unfolding file_length steps_start
    fits m o t =
        let hs : Judges mesh sizes start = sharding-facts mesh sizes start j.start_is in
        let ranked : length start.dims ≡ length sizes = sym (both-length _ sizes start.dims hs.is.divides) in
        let all = (order-passed (devices mesh) order j.order_is).0 in
        let fm : SizesFacts most_devices 1 mesh = sizes-facts most_devices 10 11 1 mesh (lit< tt) (lit≤ tt) j.mesh_is in
        let many : length order ≤ most_devices = few-numbers order all fm.few in
        record {
          proper = record { mesh_shorts = m; order_shorts = o; sizes_shorts = t; dims_ranked = ranked; steps_ranked = goes.ranked };
          short = omega (
            arith,
            many,
            sharding-few mesh sizes (edition_of made) start few-axes (omega (arith, ranked, few-dims)) hs,
            goes.short few-axes few-dims,
            few-axes,
            few-dims,
            plan-few start goal,
          );
          order_all = all;
        }
      where
        few-numbers : (l : List ℕ) → (T (some l) → length l ≡ devices mesh) → 1 * product mesh ≤ most_devices → length l ≤ most_devices
        few-numbers [] h p = omega arith
        few-numbers (a ∷ l) h p = omega (arith, h tt)

    ends : announced plan (length plan.steps) ≡ goal
    unfolding announced
    ends = ap (λ (l : List Step). in_turn after l start) (take-length steps) ∙ goes.ends

    one : factor_after plan (length plan.steps) ≡ 1
    unfolding factor_after
    one = ap (λ (l : List Step). factor_of mesh l start) (take-length steps) ∙ plan-one mesh start goal

    arrives : judge (file_of made) ≡ accept plan → (table : List ℕ → ℕ) (work spare : List ℕ) → Words work → RoomIn plan work spare
        → Faithful add_words mesh start (shard_sizes mesh sizes start.dims) table (held_by 0 plan.order mesh (shard_sizes mesh sizes start.dims) work)
        → Faithful add_words mesh goal (shard_sizes mesh sizes goal.dims) table
        (held_by 0 plan.order mesh (shard_sizes mesh sizes goal.dims) (run_of (file_of made) work spare).work)
    unfolding announced announced_shape shards_after
    arrives e table work spare words room spread =
        let d : Demand3 plan work spare (run_of (file_of made) work spare) = whole_plan (file_of made) plan e work spare words in
        let r = d.same_table room table spread one in
        subst (λ (z : Sharding). Faithful add_words mesh z (shard_sizes mesh sizes z.dims) table
        (held_by 0 plan.order mesh (shard_sizes mesh sizes z.dims) (run_of (file_of made) work spare).work)) ends r

-- FROM THE START TO THE GOAL
pub planner-promise : PlannerPromise
planner-promise mesh order sizes m o t start goal r e =
    let j = judged mesh order sizes start goal r e in
    let f : Fits (made mesh order sizes start goal) = fits mesh order sizes start goal j.0 m o t in
    let p : Plan = plan mesh order sizes start goal in
    let a : judge (file_of (made mesh order sizes start goal)) ≡ accept p = file_judged (made mesh order sizes start goal) f ∙ taken mesh order sizes start goal j.0 in (
      p,
      subst (λ (x : Records). Reaches mesh order sizes start goal x p) j.1 (record {
        few = plan-few start goal;
        as_given = (refl, refl, refl, refl);
        taken = taken mesh order sizes start goal j.0;
        accepted = a;
        ends = ends mesh order sizes start goal j.0;
        factor = one mesh order sizes start goal j.0;
        arrives = arrives mesh order sizes start goal j.0 a;
      }),
    )

-- THE RECORDS OF ITS STEPS ARE WHAT THE WRITER TAKES
pub plan-again : (mesh order sizes : List ℕ) (start goal : Sharding) (r : Records) → plan_of mesh order sizes start goal ≡ accept r
    → record {
      mesh = mesh;
      order = order;
      sizes = sizes;
      start = start;
      steps = steps_given (length sizes) (records_bytes (map plain (plan_steps start goal)));
    } ≡ r
plan-again mesh order sizes start goal r e =
    let j = judged mesh order sizes start goal r e in
    (λ i. record { mesh = mesh; order = order; sizes = sizes; start = start; steps = given-again mesh order sizes start goal j.0 i }) ∙ j.1

-- they are the steps of the records that are made
pub plan-steps : (mesh order sizes : List ℕ) (start goal : Sharding) (r : Records) → plan_of mesh order sizes start goal ≡ accept r
    → r.steps ≡ map known (map plain (plan_steps start goal))
plan-steps mesh order sizes start goal r e = ap (λ (x : Records). x.steps) (sym (judged mesh order sizes start goal r e).1)

-- and none of its lists has more axes than places
pub plan-short : (mesh order sizes : List ℕ) (start goal : Sharding) (r : Records) → plan_of mesh order sizes start goal ≡ accept r → AllShort (map plain (plan_steps start goal))
plan-short mesh order sizes start goal r e = short mesh order sizes start goal (judged mesh order sizes start goal r e).0
