-- What an accepted file tells, part by part: its header, its sizes, what stands before its steps (`front-accepted`), and its plan (`accepted`):
-- limits, positive sizes, a sharding at the start, each plain step accepted in turn; the room by one pass. Records that omega reads. Assumes nothing.
use Prim.Native.Nat.{ℕ, zero, suc, ◌+◌, ◌*◌, ◌<◌, ◌≤◌}
use mathlib.Core.Path.{◌≡◌, refl, sym, ap, ◌∙◌, subst}
use mathlib.Core.Logic.{inl, inr, ⊎_elim}
use mathlib.Core.Bool.{Bool, true, false, not, ◌&&◌}
use mathlib.Core.List.{List, [], ◌∷◌}
use native.Mathlib.Nat.{mul-pos, mul_assoc, mul-le-mul}
use native.Mathlib.Omega.{arith}
use lib.ListN.{length, get_or}
use lib.Dec.{T, ltb, leb, eqb, ltb→lt, leb→le, lit<, lit≤}
use Rattle.rules.specs.Lists.{tab, pick, flat, in_turn, product, total, mem, In, Distinct}
use Rattle.rules.specs.Mesh.{devices, Rearrangement}
use Rattle.rules.specs.Sharding.{Sharding, varying, divisible, shard_sizes, IsSharding}
use Rattle.rules.specs.Collectives.{after}
use Rattle.rules.specs.Limits.{present, every_kind, most_axes, most_devices, most_dims, most_words, most_steps, most_run, least_bytes, most_bytes}
use Rattle.rules.specs.Refusals.{accept}
use Rattle.rules.specs.PlanFile.{
  Read,
  u16_at,
  edition,
  edition_known,
  axis_count,
  rank_count,
  step_count,
  mesh_offset,
  tensor_offset,
  sharding_offset,
  steps_offset,
  total_length,
  judge_header,
  judge_header_by,
  judge_sizes,
  sizes_at,
  MeshAndTable,
  carries_order,
  order_at,
  mesh_and_table_at,
  mesh_and_table_at_by,
  carries_replicated,
  sharding_at,
  judge_axis,
  judge_axes,
  judge_start,
  one_meaning,
  outermost_at,
  Front,
  judge_front,
  judge_front_by,
  Plan,
  judge,
  judge_by,
  announced,
  announced_shape,
  largest_shard,
  room,
  StateAnswer,
  steps_run,
  state_of,
}
use Rattle.laws.specs.Demands.{one_pass, largest_on, StepsCounted, RoomInOnePass}
use Rattle.laws.proofs.Orders.{order-read}
use Rattle.laws.proofs.Lists.{T_and, length-tab, not-mem, distinct_append, in-append}
use Rattle.laws.proofs.Judging.{accept-inj, need-inv, need-true, then-inv, bind_inv}
use Rattle.laws.proofs.Turns.{Fine, largest-tab}
use Rattle.laws.proofs.Repeats.{ToldOutermost, outermost-tells}
use Rattle.laws.proofs.Bytes.{order-bytes, sharding-bytes}

-- ---- sizes

pub record SizesFacts (most running : ℕ) (sizes : List ℕ) : Type 0 where
  pub each_pos : (a : ℕ) → 0 < get_or sizes a 1
  pub each_few : (a : ℕ) → get_or sizes a 1 ≤ most
  pub pos : 0 < running * product sizes
  pub few : running * product sizes ≤ most

pub sizes-facts : (most z o running : ℕ) (sizes : List ℕ) → 0 < running → running ≤ most → judge_sizes most z o running sizes ≡ accept tt → SizesFacts most running sizes
unfolding judge_sizes
sizes-facts most z o running [] p l e = record { each_pos = λ a. lit< tt; each_few = λ a. omega arith; pos = omega arith; few = omega arith }
sizes-facts most z o running (n ∷ sizes) p l e =
    let q : T (ltb 0 n) × (_ ≡ accept tt) = need-inv 0 (ltb 0 n) z _ tt e in
    let r : T (leb (running * n) most) × (judge_sizes most z o (running * n) sizes ≡ accept tt) = need-inv 0 (leb (running * n) most) o _ tt q.1 in
    let h : 0 < n = ltb→lt 0 n q.0 in
    let f : SizesFacts most (running * n) sizes = sizes-facts most z o (running * n) sizes (mul-pos p h) (leb→le (running * n) most r.0) r.1 in
    let w : running * n * product sizes ≡ running * (n * product sizes) = mul_assoc running n (product sizes) in
    record {
      each_pos = positive h f.each_pos;
      each_few = small (omega (arith, leb→le (running * n) most r.0, mul-le-mul {n₁ = 1} {m₁ = n} {n₂ = running} {m₂ = n} p (omega arith))) f.each_few;
      pos = subst (λ k. 0 < k) w f.pos;
      few = subst (λ k. k ≤ most) w f.few;
    }
  where
    positive : 0 < n → ((a : ℕ) → 0 < get_or sizes a 1) → (a : ℕ) → 0 < get_or (n ∷ sizes) a 1
    positive h g zero = h
    positive h g (suc a) = g a

    small : n ≤ most → ((a : ℕ) → get_or sizes a 1 ≤ most) → (a : ℕ) → get_or (n ∷ sizes) a 1 ≤ most
    small h g zero = h
    small h g (suc a) = g a

-- ---- the starting sharding

pub record AxesFacts (n : ℕ) (before axes : List ℕ) : Type 0 where
  pub below : (a : ℕ) → In a axes → a < n
  pub once : Distinct axes
  pub off : (a : ℕ) → In a axes → ¬ In a before

pub axes-facts : (n : ℕ) (increasing : Bool) (low : ℕ) (before axes : List ℕ) → judge_axes n increasing low before axes ≡ accept tt → AxesFacts n before axes
unfolding judge_axes
axes-facts n increasing low before [] e = record { below = λ a i. absurd i; once = tt; off = λ a i. absurd i }
axes-facts n increasing low before (b ∷ axes) e =
    let j = then-inv (judge_axis n low before b) _ tt e in
    let p : T (ltb b n) × (_ ≡ accept tt) = need-inv 0 (ltb b n) 14 _ tt j.0.1 in
    let q : T (not (mem b before)) × (_ ≡ accept tt) = need-inv 0 (not (mem b before)) 15 _ tt p.1 in
    let f : AxesFacts n (b ∷ before) axes = axes-facts n increasing (pick increasing (b + 1) 0) (b ∷ before) axes j.1 in
    record {
      below = λ a. ⊎_elim (λ w. subst (λ z. z < n) (sym w) (ltb→lt b n p.0)) (f.below a);
      once = ((λ i. f.off b i (inl refl)), f.once);
      off = λ a i j. ⊎_elim (λ w. not-mem b before q.0 (subst (λ z. In z before) w j)) (λ k. f.off a k (inr j)) i;
    }

pub start-sharding : (mesh sizes : List ℕ) (s : Sharding) → judge_start mesh sizes s ≡ accept tt → IsSharding mesh sizes s
unfolding judge_start
start-sharding mesh sizes s e =
    let d : List ℕ = flat s.dims in
    let p = then-inv (judge_axes (length mesh) false 0 [] d) _ tt e in
    let q = then-inv (judge_axes (length mesh) true 0 d s.unreduced) _ tt p.1 in
    let r = then-inv (judge_axes (length mesh) true 0 (varying s) s.replicated) _ tt q.1 in
    let f : AxesFacts (length mesh) [] d = axes-facts (length mesh) false 0 [] d p.0.1 in
    let g : AxesFacts (length mesh) d s.unreduced = axes-facts (length mesh) true 0 d s.unreduced q.0.1 in
    let h : AxesFacts (length mesh) (varying s) s.replicated = axes-facts (length mesh) true 0 (varying s) s.replicated r.0.1 in
    record {
      of_mesh = λ a i. ⊎_elim (λ j. ⊎_elim (f.below a) (g.below a) (in-append a d s.unreduced j)) (h.below a) (in-append a (varying s) s.replicated i);
      once = distinct_append (varying s) s.replicated (distinct_append d s.unreduced f.once g.once g.off) h.once h.off;
      divides = need-true 0 (divisible mesh sizes s.dims) 17 r.1;
    }

-- ---- the whole file

-- A mesh and a table within their limits.
pub record Within (mesh sizes : List ℕ) : Type 0 where
  pub axes_some : 1 ≤ length mesh
  pub axes_few : length mesh ≤ most_axes
  pub sizes_pos : (a : ℕ) → 0 < get_or mesh a 1
  pub sizes_few : (a : ℕ) → get_or mesh a 1 ≤ most_devices
  pub devices_pos : 0 < product mesh
  pub devices_few : product mesh ≤ most_devices
  pub rank_some : 1 ≤ length sizes
  pub rank_few : length sizes ≤ most_dims
  pub words_pos : 0 < product sizes
  pub words_few : product sizes ≤ most_words

-- What an accepted header tells.
pub record HeaderFacts (file : List ℕ) : Type 0 where
  pub long : least_bytes ≤ length file
  pub short : length file ≤ most_bytes
  pub axes_some : 1 ≤ axis_count file
  pub axes_few : axis_count file ≤ most_axes
  pub rank_some : 1 ≤ rank_count file
  pub rank_few : rank_count file ≤ most_dims
  pub steps_few : step_count file ≤ most_steps

pub header-facts : (file : List ℕ) → judge_header file ≡ accept tt → HeaderFacts file
unfolding judge_header_by
header-facts file e =
    let a = need-inv 0 (leb least_bytes (length file)) 1 _ tt e in
    let b = need-inv 0 (leb (length file) most_bytes) 2 _ tt a.1 in
    let c = need-inv 0 (edition_known present (edition file)) 3 _ tt b.1 in
    let d = need-inv 0 (eqb (total_length file) (length file)) 4 _ tt c.1 in
    let n : T (leb 1 (axis_count file) && leb (axis_count file) most_axes) × (_ ≡ accept tt) = need-inv 0 (leb 1 (axis_count file) && leb (axis_count file) most_axes) 5 _ tt d.1 in
    let r : T (leb 1 (rank_count file) && leb (rank_count file) most_dims) × (_ ≡ accept tt) = need-inv 0 (leb 1 (rank_count file) && leb (rank_count file) most_dims) 5 _ tt n.1 in
    let k : T (leb (step_count file) most_steps) = need-true 0 (leb (step_count file) most_steps) 5 r.1 in
    let x : T (leb 1 (axis_count file)) × T (leb (axis_count file) most_axes) = T_and (leb 1 (axis_count file)) (leb (axis_count file) most_axes) n.0 in
    let y : T (leb 1 (rank_count file)) × T (leb (rank_count file) most_dims) = T_and (leb 1 (rank_count file)) (leb (rank_count file) most_dims) r.0 in
    record {
      long = leb→le least_bytes (length file) a.0;
      short = leb→le (length file) most_bytes b.0;
      axes_some = leb→le 1 (axis_count file) x.0;
      axes_few = leb→le (axis_count file) most_axes x.1;
      rank_some = leb→le 1 (rank_count file) y.0;
      rank_few = leb→le (rank_count file) most_dims y.1;
      steps_few = leb→le (step_count file) most_steps k;
    }

-- What an accepted section of sizes tells: as many as were asked for, within the limit, and within the file.
pub record SectionFacts (most count : ℕ) (file : List ℕ) (at : ℕ) (r : Read (List ℕ)) : Type 0 where
  pub many : length r.value ≡ count
  pub sizes : SizesFacts most 1 r.value
  pub next_is : r.next ≡ at + 2 * count
  pub inside : r.next ≤ length file

pub section-facts : (most z o count offset : ℕ) (file : List ℕ) (at : ℕ) (r : Read (List ℕ)) → 1 ≤ most
    → sizes_at most z o count offset file at ≡ accept r → SectionFacts most count file at r
unfolding sizes_at
section-facts most z o count offset file at r l e =
    let sizes : List ℕ = tab count (λ i. u16_at file (at + 2 * i)) in
    let a = need-inv 0 (eqb offset at) 6 _ r e in
    let b = need-inv 0 (leb (at + 2 * count) (length file)) 7 _ r a.1 in
    let c = then-inv (judge_sizes most z o 1 sizes) _ r b.1 in
    subst (SectionFacts most count file at) {x = record { value = sizes; next = at + 2 * count }} (accept-inj c.1) (record {
      many = length-tab count (λ i. u16_at file (at + 2 * i));
      sizes = sizes-facts most z o 1 sizes (lit< tt) l c.0.1;
      next_is = refl;
      inside = leb→le (at + 2 * count) (length file) b.0;
    })

-- What accepted mesh and tensor sections tell, and where they end.
pub record MeshAndTableFacts (n rank : ℕ) (file : List ℕ) (r : Read MeshAndTable) : Type 0 where
  pub axes_many : length r.value.mesh ≡ n
  pub mesh : SizesFacts most_devices 1 r.value.mesh
  pub rank_many : length r.value.sizes ≡ rank
  pub sizes : SizesFacts most_words 1 r.value.sizes
  pub ordered : Rearrangement (devices r.value.mesh) r.value.order
  pub begins : least_bytes ≤ r.next
  pub inside : r.next ≤ length file

pub mesh-and-table-facts : (carried : Bool) (n rank : ℕ) (file : List ℕ) (r : Read MeshAndTable) → mesh_and_table_at carried n rank file ≡ accept r
    → MeshAndTableFacts n rank file r
unfolding mesh_and_table_at_by
mesh-and-table-facts carried n rank file r e =
    let m = bind_inv (sizes_at most_devices 10 11 n (mesh_offset file) file 18) _ r e in
    let o = bind_inv (order_at carried (devices m.0.value) file m.0.next) _ r m.2 in
    let t = bind_inv (sizes_at most_words 12 13 rank (tensor_offset file) file o.0.next) _ r o.2 in
    let f : SectionFacts most_devices n file 18 m.0 = section-facts most_devices 10 11 n (mesh_offset file) file 18 m.0 (lit≤ tt) m.1 in
    let g : SectionFacts most_words rank file o.0.next t.0 =
    section-facts most_words 12 13 rank (tensor_offset file) file o.0.next t.0 (lit≤ tt) t.1 in
    let b : (m.0.next ≤ o.0.next) × (o.0.next ≤ length file) = order-bytes file carried (devices m.0.value) m.0.next o.0 f.inside o.1 in
    subst (MeshAndTableFacts n rank file) (accept-inj t.2)
    (record {
      axes_many = f.many;
      mesh = f.sizes;
      rank_many = g.many;
      sizes = g.sizes;
      ordered = order-read carried (devices m.0.value) file m.0.next o.0 o.1;
      begins = omega (arith, f.next_is, b.0, g.next_is);
      inside = g.inside;
    })

-- What stands before the steps, where it is accepted.
pub record AcceptedFront (file : List ℕ) (f : Front) : Type 0 where
  pub within : Within f.mesh f.sizes
  pub ordered : Rearrangement (devices f.mesh) f.order
  pub start_is : IsSharding f.mesh f.sizes f.start
  pub steps_few : step_count file ≤ most_steps
  pub begins : least_bytes ≤ f.next
  pub inside : f.next ≤ length file
  pub short : length file ≤ most_bytes

pub front-accepted : (file : List ℕ) (f : Front) → judge_front file ≡ accept f → AcceptedFront file f
unfolding judge_front_by
front-accepted file f e =
    let h0 = then-inv (judge_header file) _ f e in
    let h : HeaderFacts file = header-facts file h0.0.1 in
    let m = bind_inv (mesh_and_table_at (carries_order (edition file)) (axis_count file) (rank_count file) file) _ f h0.1 in
    let s = bind_inv (sharding_at (carries_replicated (edition file)) (axis_count file) (rank_count file) (sharding_offset file) file m.0.next) _ f m.2 in
    let o = need-inv 0 (eqb (steps_offset file) s.0.next) 6 _ f s.2 in
    let j = then-inv (judge_start m.0.value.mesh m.0.value.sizes s.0.value) _ f o.1 in
    let g : MeshAndTableFacts (axis_count file) (rank_count file) file m.0 =
    mesh-and-table-facts (carries_order (edition file)) (axis_count file) (rank_count file) file m.0 m.1 in
    let z = need-inv 0 (one_meaning (edition file) s.0.value.replicated) 18 _ f j.1 in
    let b : (m.0.next ≤ s.0.next) × (s.0.next ≤ length file) =
    sharding-bytes file (carries_replicated (edition file)) (axis_count file) (rank_count file) (sharding_offset file) m.0.next s.0 g.inside s.1 in
    subst (AcceptedFront file) (accept-inj z.1) (record {
      within = record {
        axes_some = omega (arith, g.axes_many);
        axes_few = omega (arith, g.axes_many);
        sizes_pos = g.mesh.each_pos;
        sizes_few = g.mesh.each_few;
        devices_pos = omega (arith, g.mesh.pos);
        devices_few = omega (arith, g.mesh.few);
        rank_some = omega (arith, g.rank_many);
        rank_few = omega (arith, g.rank_many);
        words_pos = omega (arith, g.sizes.pos);
        words_few = omega (arith, g.sizes.few);
      };
      ordered = g.ordered;
      start_is = start-sharding m.0.value.mesh m.0.value.sizes s.0.value j.0.1;
      steps_few = h.steps_few;
      begins = omega (arith, g.begins, b.0);
      inside = b.1;
      short = h.short;
    })

-- What an accepted plan satisfies, of its steps in running order and of one pass through its records.
pub record AcceptedPlan (p : Plan) : Type 0 where
  pub within : Within p.mesh p.sizes
  pub ordered : Rearrangement (devices p.mesh) p.order
  pub start_is : IsSharding p.mesh p.sizes p.start
  pub steps_few : length p.runs ≤ most_steps
  pub fine : Fine p.mesh p.sizes p.start p.steps
  pub run_few : length p.steps ≤ most_run
  pub runs_are : total p.runs ≡ length p.steps
  pub pass_fine : Fine p.mesh p.sizes p.start (one_pass p.records)
  pub pass_ends : in_turn after p.steps p.start ≡ in_turn after (one_pass p.records) p.start
  pub pass_largest : (f : Sharding → ℕ) → largest_on f p.start p.steps ≡ largest_on f p.start (one_pass p.records)

-- THE FACTS OF AN ACCEPTED FILE
accepted-counted : (file : List ℕ) (p : Plan) → judge file ≡ accept p → AcceptedPlan p × (length p.runs ≡ step_count file)
unfolding judge_by
accepted-counted file p e =
    let f = bind_inv (judge_front file) _ p e in
    let a : AcceptedFront file f.0 = front-accepted file f.0 f.1 in
    let ts = bind_inv (outermost_at every_kind f.0.mesh f.0.sizes file 0 (step_count file) 1 f.0.next f.0.start) _ p f.2 in
    let z = need-inv 0 (eqb ts.0.next (length file)) 9 _ p ts.2 in
    let g : ToldOutermost f.0.mesh f.0.sizes file 0 (step_count file) f.0.start ts.0 =
    outermost-tells f.0.mesh f.0.sizes file every_kind 0 (step_count file) 1 f.0.next f.0.start ts.0 (lit≤ tt) ts.1 in
    subst (λ (q : Plan). AcceptedPlan q × (length q.runs ≡ step_count file)) (accept-inj z.1) (
      record {
        within = a.within;
        ordered = a.ordered;
        start_is = a.start_is;
        steps_few = omega (arith, g.many, a.steps_few);
        fine = g.fine;
        run_few = omega (arith, g.few);
        runs_are = g.runs_are;
        pass_fine = g.pass_fine;
        pass_ends = g.same_end;
        pass_largest = g.largest-same;
      },
      g.many,
    )

pub accepted : (file : List ℕ) (p : Plan) → judge file ≡ accept p → AcceptedPlan p
accepted file p e = (accepted-counted file p e).0

pub steps_counted : StepsCounted
steps_counted file p e =
    let a = accepted-counted file p e in
    record { outermost = a.1; all = a.0.runs_are; few = a.0.run_few }

-- the room is D times the largest of the states in running order, and so of one pass
pub room-running : (p : Plan) → room p ≡ devices p.mesh * largest_on (λ s. product (shard_sizes p.mesh p.sizes s.dims)) p.start p.steps
unfolding room largest_shard announced_shape announced
room-running p = ap (λ (n : ℕ). devices p.mesh * n) (largest-tab (λ s. product (shard_sizes p.mesh p.sizes s.dims)) p.steps p.start)

pub room_in_one_pass : RoomInOnePass
room_in_one_pass file p e =
    room-running p
    ∙ ap (λ (n : ℕ). devices p.mesh * n) ((accepted file p e).pass_largest (λ s. product (shard_sizes p.mesh p.sizes s.dims)))

-- the plan of an accepted state
pub state-inv : (file : List ℕ) (k : ℕ) (a : StateAnswer) → state_of file k ≡ accept a
    → (p : Plan) × (judge file ≡ accept p)
    × (record {
      mesh = p.mesh;
      order = p.order;
      sizes = p.sizes;
      sharding = announced p (steps_run p k);
      shard = announced_shape p (steps_run p k);
    }
    ≡ a)
unfolding state_of
state-inv file k a e =
    let p = bind_inv (judge file) _ a e in
    (p.0, p.1, accept-inj (need-inv 0 (leb k (length p.0.runs)) 34 _ a p.2).1)
