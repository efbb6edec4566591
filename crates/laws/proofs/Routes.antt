-- Two routes, one table (document 02, Ask 14). The last state of an accepted plan, from a faithful spread, is a function of what two routes have in common
-- (`last_is`), so they meet (`routes_meet_unreduced`, `routes_meet`); with no unreduced axes it is made of the table's blocks (`table_decides`). A state
-- with equal shards along replicated axes is a spread (`equal_shards_spread`). An all-gather undoes the all-slice of its lists (`gather_undoes_slice`,
-- `there_and_back`). Assumes nothing.
use Prim.Native.Nat.{ℕ, zero, ◌+◌, ◌-◌, ◌*◌, ◌%◌, ◌^◌, ◌<◌, ◌≤◌}
use mathlib.Core.Path.{◌≡◌, refl, sym, ap, ap₂, ◌∙◌, subst}
use mathlib.Core.List.{List, [], ◌∷◌, ◌++◌, map}
use native.Mathlib.Omega.{arith}
use lib.ListN.{length, get_or, take, drop, replicate, length-append, length-replicate}
use lib.Seq.{take_at, drop-drop, length-take-le}
use Rattle.rules.specs.Lists.{each, product, Below}
use Rattle.rules.specs.Mesh.{coords, devices, members}
use Rattle.rules.specs.Sharding.{Sharding, varying, shard_sizes, first_indexes, IsSharding}
use Rattle.rules.specs.Spread.{StateOf, add_words, from, tabulate_by, held_by}
use Rattle.rules.specs.Collectives.{Step, all_slice, all_gather, sliced, gathered, cut_tail, owner, within, after, slice_place, gather_place, single, sources, made, Shards, stepped}
use Rattle.rules.specs.PlanFile.{Plan, announced, announced_shape}
use Rattle.rules.specs.Factor.{scaled, factor_after}
use Rattle.rules.specs.Calls.{shards_after, last_state}
use Rattle.laws.specs.Demands.{Words, Fits, SpreadAt, start_words}
use Rattle.laws.specs.Routes.{last_sharding, end_words, whole_factor, NoneUnreduced, LeaveEqual, RoutesMeet, RoutesMeetUnreduced, TableDecides, EqualShardsSpread, GatherUndoesSlice, ThereAndBack}
use Rattle.laws.proofs.Lists.{in_left, below_length}
use Rattle.laws.proofs.Buffers.{below-coords}
use Rattle.laws.proofs.Orders.{tabulate-same-by, tabulate-held-by, held-front}
use Rattle.laws.proofs.Shapes.{owner-other, below-owner, owner-index}
use Rattle.laws.proofs.Sources.{made-single}
use Rattle.laws.proofs.Factor.{scaled-mod}
use Rattle.laws.proofs.Tables.{Alike, sums_table, sums-spread}
use Rattle.laws.proofs.Steps.{AcceptedStep, Varies, varies, sharding-cut, Sliced, slice-sharding}
use Rattle.laws.proofs.Accepted.{AcceptedPlan, accepted}
use Rattle.laws.proofs.Room.{fine-take, state}
use Rattle.laws.proofs.Next.{in-turn-next, step-accepted}
use Rattle.laws.proofs.Whole.{run_ends, last_shape, last_words, plan-shapes, plan-spreads, last-buffer, last-length, in_order, work-left}
use Rattle.laws.proofs.Apart.{masked, steps-local, steps-word}

-- ---- what two routes have in common

-- the buffer of the last state, of a mesh, an order, sizes, a start, an end, a factor and the words before the first step
abbrev end_of : (mesh order sizes : List ℕ) (start last : Sharding) (c : ℕ) (work : List ℕ) → List ℕ
end_of mesh order sizes start last c work =
    tabulate_by order mesh (shard_sizes mesh sizes last.dims) (λ x i.
    scaled c
    (sums_table mesh start (shard_sizes mesh sizes start.dims) x
    (masked mesh last.unreduced x (held_by 0 order mesh (shard_sizes mesh sizes start.dims) work)))
    (from (first_indexes mesh last.dims (shard_sizes mesh sizes last.dims) x) i))

module _ {p : Plan} (a : AcceptedPlan p) where
  abbrev ran-steps : List Step
  ran-steps = take (length p.steps) p.steps

  -- THE LAST STATE IS MADE OF THESE
  last_is : (work : List ℕ) → Words work → Alike p.mesh p.start (announced_shape p 0) (held_by 0 p.order p.mesh (announced_shape p 0) work)
      → last_state p work ≡ end_of p.mesh p.order p.sizes p.start (last_sharding p) (whole_factor p % 2 ^ 32) work
  unfolding shards_after announced_shape announced held_by factor_after
  last_is work ws alike =
      last-buffer a work
      ∙ tabulate-same-by p.mesh p.order a.ordered (last_shape p) (last_words p work) _ (λ x i bx bi.
      steps-word p.mesh p.sizes a.within.sizes_pos ran-steps p.start a.start_is
      (fine-take p.mesh p.sizes (length p.steps) p.start p.steps a.fine) _ (λ y j by bj. ws _) x bx i bi alike
      ∙ sym (scaled-mod (whole_factor p) _ _))

  -- buffers with one front lead to one state
  last-front : (work work' : List ℕ) → take (start_words p) work ≡ take (start_words p) work' → last_state p work ≡ last_state p work'
  unfolding shards_after announced_shape announced
  last-front work work' e =
      last-buffer a work
      ∙ tabulate-same-by p.mesh p.order a.ordered (last_shape p) (last_words p work) (last_words p work') (λ x i bx bi.
      steps-local p.mesh p.sizes a.within.sizes_pos ran-steps p.start [] (announced_shape p 0) _ _ a.start_is
      (fine-take p.mesh p.sizes (length p.steps) p.start p.steps a.fine) refl (λ b u. absurd u) x bx
      (λ y j by bj g. held-front p.mesh p.order a.ordered (announced_shape p 0) 0 work work' e by bj) i bi)
      ∙ sym (last-buffer a work')

-- ---- two routes

-- a buffer of a state and zeros behind it is decided by the state and the length
zeros-behind : (u v : List ℕ) (m n : ℕ) → u ≡ v → length (u ++ replicate m 0) ≡ length (v ++ replicate n 0) → u ++ replicate m 0 ≡ v ++ replicate n 0
zeros-behind u v m n e l =
    let k : m ≡ n = omega (
      arith,
      ap length e,
      length-append u (replicate m 0),
      length-append v (replicate n 0),
      length-replicate {A = ℕ} m 0,
      length-replicate {A = ℕ} n 0,
      l,
    ) in
    ap₂ (λ (w : List ℕ) (j : ℕ). w ++ replicate j 0) e k

-- runs to one last state leave it in front of zeros
leave-equal : (p q : Plan) (work work' : List ℕ) → (AcceptedPlan p → AcceptedPlan q → last_state p work ≡ last_state q work') → LeaveEqual p q work work'
leave-equal p q work work' meet f g ef eg spare spare' ends ends' =
    let a : AcceptedPlan p = accepted f p ef in
    let b : AcceptedPlan q = accepted g q eg in
    let same : last_state p work ≡ last_state q work' = meet a b in
    let one = work-left a f ef work spare ((run_ends f p ef work spare).0 ends) in
    let two = work-left b g eg work' spare' ((run_ends g q eg work' spare').0 ends') in
    record {
      states = same;
      fronts =
          ap (take (end_words p)) one ∙ take_at (last_state p work) _ (end_words p) (last-length a work) ∙ same
          ∙ sym (ap (take (end_words p)) two ∙ take_at (last_state q work') _ (end_words p) (ap length (sym same) ∙ last-length a work));
      buffers = λ l.
          one
          ∙ zeros-behind (last_state p work) (last_state q work') (length work - length (last_state p work)) (length work' - length (last_state q work')) same
          (sym (ap length one) ∙ l ∙ ap length two)
          ∙ sym two;
    }

-- the mesh, order, sizes and start of a plan
record Front : Type 0 where
  pub mesh : List ℕ
  pub order : List ℕ
  pub sizes : List ℕ
  pub start : Sharding

abbrev front_for : Plan → Front
front_for p = record { mesh = p.mesh; order = p.order; sizes = p.sizes; start = p.start }

abbrev start_shape : Front → List ℕ
start_shape t = shard_sizes t.mesh t.sizes t.start.dims

pub routes_meet_unreduced : RoutesMeetUnreduced
unfolding shards_after announced_shape announced
routes_meet_unreduced p q work work' r s = leave-equal p q work work' (λ a b.
    let same : front_for p ≡ front_for q = λ k. record { mesh = r.one_mesh k; order = r.one_order k; sizes = r.one_size k; start = s.one_start k } in
    let alike : Alike q.mesh q.start (announced_shape q 0) (held_by 0 q.order q.mesh (announced_shape q 0) work) =
    subst (λ (t : Front). Alike t.mesh t.start (start_shape t) (held_by 0 t.order t.mesh (start_shape t) work)) same s.faithful.same in
    let front : take (start_words q) work ≡ take (start_words q) work' =
    subst (λ (t : Front). take (devices t.mesh * product (start_shape t)) work ≡ take (devices t.mesh * product (start_shape t)) work') same s.one_front in
    let between : end_of p.mesh p.order p.sizes p.start (last_sharding p) (whole_factor p % 2 ^ 32) work
    ≡ end_of q.mesh q.order q.sizes q.start (last_sharding q) (whole_factor q % 2 ^ 32) work =
    λ k. end_of (r.one_mesh k) (r.one_order k) (r.one_size k) (s.one_start k) (r.one_end k) (r.one_factor k) work in
    last_is a work s.words s.faithful.same ∙ between ∙ sym (last_is b work s.words alike) ∙ last-front b work work' front)

pub routes_meet : RoutesMeet
routes_meet p q work work' r none s = routes_meet_unreduced p q work work' r s

-- ---- the table decides

-- the buffer of a table's blocks, times a factor
abbrev blocks_of : (mesh order sizes : List ℕ) (last : Sharding) (c : ℕ) (table : List ℕ → ℕ) → List ℕ
blocks_of mesh order sizes last c table =
    tabulate_by order mesh (shard_sizes mesh sizes last.dims)
    (λ x i. scaled c table (from (first_indexes mesh last.dims (shard_sizes mesh sizes last.dims) x) i))

-- where no axis is unreduced, each device has its block
last-blocks : {p : Plan} → AcceptedPlan p → NoneUnreduced p → (work : List ℕ) → Words work → (table : List ℕ → ℕ)
    → SpreadAt p table 0 (shards_after p work 0).words → last_state p work ≡ blocks_of p.mesh p.order p.sizes (last_sharding p) (whole_factor p % 2 ^ 32) table
unfolding announced_shape members add_words
last-blocks {p} a none work ws table F =
    last-buffer a work
    ∙ tabulate-same-by p.mesh p.order a.ordered (last_shape p) (last_words p work) _ (λ x i bx bi.
    sym (ap (λ (U : List ℕ). add_words (map (λ y. last_words p work y i) (members p.mesh U x))) none)
    ∙ (plan-spreads a table work ws F (length p.steps)).sums x i bx bi ∙ sym (scaled-mod (whole_factor p) table _))

pub table_decides : TableDecides
table_decides p q work work' r none ws ws' table F G = leave-equal p q work work' (λ a b.
    let none' : NoneUnreduced q = subst (λ (s : Sharding). s.unreduced ≡ []) r.one_end none in
    let between : blocks_of p.mesh p.order p.sizes (last_sharding p) (whole_factor p % 2 ^ 32) table
    ≡ blocks_of q.mesh q.order q.sizes (last_sharding q) (whole_factor q % 2 ^ 32) table =
    λ k. blocks_of (r.one_mesh k) (r.one_order k) (r.one_size k) (r.one_end k) (r.one_factor k) table in
    last-blocks a none work ws table F ∙ between ∙ sym (last-blocks b none' work' ws' table G))

-- a state with equal shards along replicated axes is a spread of the table of its sums
pub equal_shards_spread : EqualShardsSpread
unfolding announced_shape announced
equal_shards_spread file p e work alike =
    let a : AcceptedPlan p = accepted file p e in
    let v : Varies p.mesh p.sizes p.start = varies p.mesh p.sizes p.start a.start_is in
    let z : List ℕ = coords p.mesh 0 in (
      sums_table p.mesh p.start (announced_shape p 0) z (shards_after p work 0).words,
      sums-spread (sharding-cut p.mesh p.sizes a.within.sizes_pos p.start a.start_is) v.once v.of_mesh
          (below-coords p.mesh 0 a.within.devices_pos) alike,
    )

-- ---- there and back

-- lists that are joined to others and cut off again
cut-joined : (ds Ss : List (List ℕ)) → length ds ≡ length Ss → each cut_tail (each ◌++◌ ds Ss) Ss ≡ ds
cut-joined [] Ss e = refl
cut-joined (d ∷ ds) [] e = absurd (omega arith)
cut-joined (d ∷ ds) (S ∷ Ss) e =
    let n : length (d ++ S) - length S ≡ length d = omega (arith, length-append d S) in
    ap₂ ◌∷◌ (take_at d S (length (d ++ S) - length S) (sym n)) (cut-joined ds Ss (omega arith))

module _ (mesh sizes : List ℕ) (pos : (a : ℕ) → zero < get_or mesh a 1) (Ss : List (List ℕ)) (s : Sharding) (h : IsSharding mesh sizes s)
    (f : AcceptedStep mesh sizes (all_slice Ss) s) where
  abbrev shape : List ℕ
  shape = shard_sizes mesh sizes s.dims

  cuts : Sliced mesh sizes pos Ss s
  cuts = slice-sharding mesh sizes pos Ss s h f.axes f.by_kind

  back-sharding : after (all_gather Ss) (after (all_slice Ss) s) ≡ s
  unfolding after sliced gathered
  back-sharding = λ k. record { dims = cut-joined s.dims Ss cuts.one_each k; unreduced = s.unreduced; replicated = s.replicated }

  -- the word comes from a device that differs from x along the lists alone, and they were replicated
  back-word : (w : StateOf ℕ) → Alike mesh s shape w → (x i : List ℕ) → Below x mesh → Below i shape
      → (stepped add_words mesh (all_gather Ss) (stepped add_words mesh (all_slice Ss) (record { shape = shape; words = w }))).words x i ≡ w x i
  unfolding stepped sources slice_place gather_place add_words
  back-word w alike x i bx bi =
      let new : List ℕ = shard_sizes mesh shape Ss in
      let o : List ℕ = owner mesh Ss new i x in
      made-single add_words (λ n. refl) (gather_place mesh Ss new) (made add_words (single (slice_place mesh Ss shape)) w) x i
      ∙ made-single add_words (λ n. refl) (slice_place mesh Ss shape) w o (within new i)
      ∙ ap (w o) (owner-index mesh x cuts.pieces bi (λ a u. rw (below_length bx) (f.axes a u)) f.by_kind.once)
      ∙ alike o x i (below-owner mesh cuts.pieces bi bx) bx bi
      (λ a u. owner-other mesh Ss new i x a (λ j. f.by_kind.off a j (in_left a (varying s) s.replicated u)))

module _ {p : Plan} (a : AcceptedPlan p) (k : ℕ) (Ss : List (List ℕ)) (rest : List Step) (d : drop k p.steps ≡ all_slice Ss ∷ all_gather Ss ∷ rest) where
  next : drop (k + 1) p.steps ≡ all_gather Ss ∷ rest
  next = sym (drop-drop 1 k p.steps) ∙ ap (drop 1) d

  two : k + 2 ≡ k + 1 + 1
  two = omega arith

  slice-accepted : AcceptedStep p.mesh p.sizes (all_slice Ss) (announced p k)
  unfolding announced
  slice-accepted = step-accepted p.mesh p.sizes k (all_slice Ss) p.steps _ p.start d a.fine

  sharding-back : announced p (k + 2) ≡ announced p k
  unfolding announced
  sharding-back =
      ap (announced p) two ∙ in-turn-next after (k + 1) (all_gather Ss) p.steps rest p.start next
      ∙ ap (after (all_gather Ss)) (in-turn-next after k (all_slice Ss) p.steps _ p.start d)
      ∙ back-sharding p.mesh p.sizes a.within.sizes_pos Ss (announced p k) (state a k).sharding slice-accepted

  words_back : (work : List ℕ) (table : List ℕ → ℕ) → SpreadAt p table k (shards_after p work k).words
      → (x i : List ℕ) → Below x p.mesh → Below i (announced_shape p k) → (shards_after p work (k + 2)).words x i ≡ (shards_after p work k).words x i
  unfolding announced_shape
  words_back work table F x i bx bi =
      ap (λ (v : Shards ℕ). v.words x i)
      (ap (shards_after p work) two ∙ in_order a work (k + 1) (all_gather Ss) rest next
      ∙ ap (stepped add_words p.mesh (all_gather Ss)) (in_order a work k (all_slice Ss) _ d))
      ∙ ap (λ (shape : List ℕ). (stepped add_words p.mesh (all_gather Ss) (stepped add_words p.mesh (all_slice Ss) (record {
        shape = shape;
        words = (shards_after p work k).words;
      }))).words x i) (plan-shapes a work k)
      ∙ back-word p.mesh p.sizes a.within.sizes_pos Ss (announced p k) (state a k).sharding slice-accepted (shards_after p work k).words F.same x i bx bi

  shape-back : announced_shape p (k + 2) ≡ announced_shape p k
  unfolding announced_shape
  shape-back = ap (λ (s : Sharding). shard_sizes p.mesh p.sizes s.dims) sharding-back

pub gather_undoes_slice : GatherUndoesSlice
gather_undoes_slice file p e k Ss rest d work =
    let a : AcceptedPlan p = accepted file p e in
    record {
      sharding = sharding-back a k Ss rest d;
      shape = plan-shapes a work (k + 2) ∙ shape-back a k Ss rest d ∙ sym (plan-shapes a work k);
      words = words_back a k Ss rest d work;
      from_start = λ ws table F. words_back a k Ss rest d work _ (plan-spreads a table work ws F k);
    }

pub there_and_back : ThereAndBack
unfolding announced shards_after
there_and_back file p e Ss only_two work spare ends =
    let a : AcceptedPlan p = accepted file p e in
    let f : Fits p work spare = (run_ends file p e work spare).0 ends in
    let n : length p.steps ≡ 2 = ap length only_two in
    let l : start_words p ≤ length work = omega (arith, (state a 0).fits (omega arith), f.0) in
    let last : (table : List ℕ → ℕ) → SpreadAt p table 0 (shards_after p work 0).words → last_state p work ≡ take (start_words p) work =
    λ table F. last-buffer a work
    ∙ ap₂ (tabulate_by p.order p.mesh) (ap (announced_shape p) n ∙ shape-back a 0 Ss [] only_two) (ap (λ (k : ℕ). (shards_after p work k).words) n)
    ∙ tabulate-same-by p.mesh p.order a.ordered (announced_shape p 0) _ _ (words_back a 0 Ss [] only_two work table F)
    ∙ tabulate-held-by p.mesh p.order a.ordered (announced_shape p 0) 0 work l in
    record {
      sharding = ap (announced p) n ∙ sharding-back a 0 Ss [] only_two;
      words = λ table F.
          ap (take (start_words p)) (work-left a file e work spare f)
          ∙ take_at (last_state p work) _ (start_words p) (ap length (last table F) ∙ length-take-le (start_words p) work l) ∙ last table F;
    }
