-- Demand 3: a plan's whole list of steps (`whole_plan`), from the judgement of its file alone; and that every table has a faithful spread under an
-- accepted plan's start (`spreadable`), in buffers with the plan's room (`startable`), which is limited (`room_limit`); and that no step
-- changes the list of replicated axes (`replicated_stays`). Assumes nothing.
use Prim.Native.Nat.{ℕ, zero, suc, ◌+◌, ◌-◌, ◌*◌, ◌/◌, ◌%◌, ◌<◌, ◌≤◌, ◌^◌}
use mathlib.Core.Path.{◌≡◌, refl, sym, ap, ap₂, ◌∙◌, subst}
use mathlib.Core.Logic.{⊎_elim, ◌↔◌}
use mathlib.Core.Bool.{Bool, true, false}
use mathlib.Core.List.{List, [], ◌∷◌, ◌++◌}
use native.Mathlib.Nat.{mod-lt}
use native.Mathlib.Omega.{arith}
use lib.ListN.{length, get_or, take, drop, replicate, length-append, length-replicate, get_or-eq_default}
use lib.Seq.{take_at, take-append_seam, length-take-le}
use lib.Dec.{T, ltb, leb, ltb→lt, nltb→le, leb→le, le→leb, lit<}
use Rattle.rules.specs.Lists.{each, in_turn, flat, product, In, Below}
use Rattle.rules.specs.Mesh.{coords, devices, plain_order, Rearrangement}
use Rattle.rules.specs.Sharding.{Sharding, varying, shard_sizes, IsSharding}
use Rattle.rules.specs.Spread.{StateOf, Faithful, add_words, tabulate_by, held_by}
use Rattle.rules.specs.Collectives.{
  Step,
  all_slice,
  all_gather,
  all_reduce,
  all_to_all,
  reduce_scatter,
  only,
  cut_tail,
  after,
  shape_after,
  WithoutRemainder,
  sources,
  made,
  Shards,
  stepped,
}
use Rattle.rules.specs.Refusals.{Judged, accept, ◌>>◌, ◌>>=◌, need}
use Rattle.rules.specs.PlanFile.{Plan, judge, judge_by, announced, announced_shape, room}
use Rattle.rules.specs.Factor.{scaled, reduced_axes, step_factor, factor_of, factor_after}
use Rattle.rules.specs.Calls.{shards_after, last_state, runnable, Ran, run_leaves, run_of}
use Rattle.rules.specs.Ledger.{file_of}
use Rattle.laws.specs.Demands.{Words, Fits, SpreadAt, returned, start_words, WholePlan, FactorOne, TimesOne, Spreadable, Startable, RoomLimit, ReplicatedStays}
use Rattle.laws.proofs.Lists.{T?, T→true, in_left, in_right, distinct-split, length-tab, get_or-tab}
use Rattle.laws.proofs.Positions.{pos_of_lt, div-lt}
use Rattle.laws.proofs.Buffers.{below-coords}
use Rattle.laws.proofs.Orders.{by_order, held-tabulate-by, tabulate-held-by, length-tabulate-by}
use Rattle.laws.proofs.Sources.{WordsIn, step_words}
use Rattle.laws.proofs.Factor.{scaled-scaled, scaled-one, table-words, unscaled, step-one}
use Rattle.laws.proofs.Spreads.{faithful-cong, slice-faithful, gather-faithful, all-to-all-faithful, reduce-scaled, scatter-faithful, spread-exists}
use Rattle.laws.proofs.Judging.{never}
use Rattle.laws.proofs.Steps.{
  AcceptedStep,
  ToAll,
  Gathered,
  Sliced,
  flat-only,
  Varies,
  varies,
  sharding-cut,
  shape-length,
  slice-sharding,
  gather-sharding,
  to-all-sharding,
  scatter-sharding,
  after-sharding,
  after-shape,
}
use Rattle.laws.proofs.Turns.{Fine, steps-shape}
use Rattle.laws.proofs.Accepted.{AcceptedPlan, accepted}
use Rattle.laws.proofs.Room.{fine-take, state, room_few}
use Rattle.laws.proofs.Next.{step-ready, in-turn-next, next-divides}

-- ---- one accepted step

module _ (mesh sizes : List ℕ) (pos : (a : ℕ) → zero < get_or mesh a 1) where
  abbrev shape_of : Sharding → List ℕ
  shape_of s = shard_sizes mesh sizes s.dims

  -- what an accepted step that reduces no replicated axis makes of a faithful spread is one of the same table, which is words
  kept : (t : Step) (s : Sharding) (table : List ℕ → ℕ) (w : StateOf ℕ) → IsSharding mesh sizes s → AcceptedStep mesh sizes t s
      → ((a : ℕ) → In a (reduced_axes t) → In a s.unreduced) → WordsIn mesh (shape_of s) w
      → Faithful add_words mesh (after t s) (shape_after mesh t (shape_of s)) table (made add_words (sources mesh t (shape_of s)) w)
      → Faithful add_words mesh (after t s) (shape_after mesh t (shape_of s)) (scaled (step_factor mesh t s) table) (made add_words (sources mesh t (shape_of s)) w)
  kept t s table w h f owed ws F =
      subst (λ (c : ℕ). Faithful add_words mesh (after t s) (shape_after mesh t (shape_of s)) (scaled c table) (made add_words (sources mesh t (shape_of s)) w))
      (sym (step-one mesh t s owed)) (scaled-one (step_words mesh t (shape_of s) w (step-ready mesh sizes pos t s h f) ws) F)

  -- an accepted step makes a faithful spread of the table times its factor, under the sharding after it
  step-spread : (t : Step) (s : Sharding) (table : List ℕ → ℕ) (w : StateOf ℕ) → IsSharding mesh sizes s → AcceptedStep mesh sizes t s
      → WordsIn mesh (shape_of s) w → Faithful add_words mesh s (shape_of s) table w
      → Faithful add_words mesh (after t s) (shape_after mesh t (shape_of s)) (scaled (step_factor mesh t s) table) (made add_words (sources mesh t (shape_of s)) w)
  unfolding after sources add_words
  step-spread (all_slice Ss) s table w h f ws F =
      let k : Sliced mesh sizes pos Ss s = slice-sharding mesh sizes pos Ss s h f.axes f.by_kind in
      kept (all_slice Ss) s table w h f (λ a i. absurd i) ws
      (slice-faithful (λ a. refl) Ss k.one_each k.pieces (λ a i j. f.by_kind.off a i (in_left a (varying s) s.replicated (in_right a (flat s.dims) s.unreduced j))) F)
  step-spread (all_gather Gs) s table w h f ws F =
      let k : Gathered mesh sizes pos Gs s = gather-sharding mesh sizes pos Gs s h f.by_kind in
      kept (all_gather Gs) s table w h f (λ a i. absurd i) ws
      (gather-faithful (λ a. refl) Gs k.one_each k.joined k.wholes (varies mesh sizes s h).once (varies mesh sizes s h).of_mesh F)
  step-spread (all_reduce L) s table w h f ws F =
      reduce-scaled L f.by_kind.once (distinct-split (flat s.dims) s.unreduced (varies mesh sizes s h).once).1 f.by_kind.off ws F
  step-spread (all_to_all source target L) s table w h f ws F =
      let k : ToAll mesh sizes pos source target L s = to-all-sharding mesh sizes pos source target L s h f.axes f.by_kind in
      let n : length (shape_of s) ≡ length s.dims = shape-length mesh sizes pos s h in
      let off : (a : ℕ) → In a L → ¬ In a s.unreduced =
      λ a i j. (distinct-split (flat s.dims) s.unreduced (varies mesh sizes s h).once).2 a
      (k.first.cut_off a (subst (In a) (sym (flat-only (length s.dims) source L f.by_kind.source-lt)) i)) j in
      kept (all_to_all source target L) s table w h f (λ a i. absurd i) ws
      (all-to-all-faithful (λ a. refl) source target L (sym n)
      (subst (λ (r : ℕ). each ◌++◌ (each cut_tail s.dims (only r source L)) (only r source L) ≡ s.dims) (sym n) k.first.joined)
      (step-ready mesh sizes pos (all_to_all source target L) s h f) off (varies mesh sizes s h).once (varies mesh sizes s h).of_mesh F)
  step-spread (reduce_scatter Ss) s table w h f ws F =
      kept (reduce_scatter Ss) s table w h f f.by_kind.unreduced ws
      (scatter-faithful Ss (scatter-sharding mesh sizes pos Ss s h f).one_each (step-ready mesh sizes pos (reduce_scatter Ss) s h f) f.axes
      (varies mesh sizes s h).once f.by_kind.unreduced ws F)

  -- ---- steps in turn

  -- a faithful spread of words stays one, of the table times the steps' factor
  pub steps-spread : (ts : List Step) (s : Sharding) (table : List ℕ → ℕ) (v : Shards ℕ) → IsSharding mesh sizes s → Fine mesh sizes s ts
      → v.shape ≡ shape_of s → WordsIn mesh (shape_of s) v.words → Faithful add_words mesh s (shape_of s) table v.words
      → Faithful add_words mesh (in_turn after ts s) (shape_of (in_turn after ts s)) (scaled (factor_of mesh ts s) table) (in_turn (stepped add_words mesh) ts v).words
  unfolding stepped
  steps-spread [] s table v h f e ws F = scaled-one ws F
  steps-spread (t ∷ ts) s table v h f e ws F =
      let c : ℕ = step_factor mesh t s in
      let g : shape_after mesh t (shape_of s) ≡ shape_of (after t s) = after-shape mesh sizes pos t s h f.0 in
      let new : StateOf ℕ = made add_words (sources mesh t (shape_of s)) v.words in
      let same : new ≡ made add_words (sources mesh t v.shape) v.words = ap (λ (z : List ℕ). made add_words (sources mesh t z) v.words) (sym e) in
      let words : WordsIn mesh (shape_of (after t s)) new = subst (λ (z : List ℕ). WordsIn mesh z new) g (step_words mesh t (shape_of s) v.words (step-ready mesh sizes pos t s h f.0) ws) in
      let spread : Faithful add_words mesh (after t s) (shape_of (after t s)) (scaled c table) new =
      subst (λ (z : List ℕ). Faithful add_words mesh (after t s) z (scaled c table) new) g (step-spread t s table v.words h f.0 ws F) in
      subst (λ (T : List ℕ → ℕ). Faithful add_words mesh (in_turn after ts (after t s)) (shape_of (in_turn after ts (after t s))) T
      (in_turn (stepped add_words mesh) ts (stepped add_words mesh t v)).words) (scaled-scaled (factor_of mesh ts (after t s)) c table)
      (steps-spread ts (after t s) (scaled c table) (stepped add_words mesh t v) (after-sharding mesh sizes pos t s h f.0) f.1 (ap (shape_after mesh t) e ∙ g)
      (subst (WordsIn mesh (shape_of (after t s))) same words) (subst (Faithful add_words mesh (after t s) (shape_of (after t s)) (scaled c table)) same spread))

-- ---- the run of an accepted file

module _ (file : List ℕ) (p : Plan) (e : judge file ≡ accept p) (work spare : List ℕ) where
  -- what is left to judge, by the tests of the two buffers
  abbrev pub judged : Bool → Bool → Judged Plan
  judged b c = do
    need b 30
    need c 31
    accept p

  pub run_is : run_of file work spare ≡ run_leaves (judged (leb (room p) (length work)) (leb (room p) (length spare))) work spare
  unfolding run_of runnable
  run_is = ap (λ (j : Judged Plan). run_leaves (◌>>=◌ j (λ q. do
    need (leb (room q) (length work)) 30
    need (leb (room q) (length spare)) 31
    accept q)) work spare) e

  ended : (b c : Bool) → (run_leaves (judged b c) work spare).outcome ≡ accept tt → T b × T c
  ended true true h = (tt, tt)
  ended true false h = absurd (never h)
  ended false c h = absurd (never h)

  stopped : (b c : Bool) → ¬ (T b × T c) → ((run_leaves (judged b c) work spare).work ≡ work) × ((run_leaves (judged b c) work spare).spare ≡ spare)
  stopped true true n = absurd (n (tt, tt))
  stopped true false n = (refl, refl)
  stopped false c n = (refl, refl)

  -- a run whose buffers have the room leaves the last state
  pub run_fits : Fits p work spare → run_of file work spare ≡ run_leaves (accept p) work spare
  run_fits (f, g) =
      run_is ∙ ap₂ (λ (b c : Bool). run_leaves (judged b c) work spare) (T→true (leb (room p) (length work)) (le→leb (room p) (length work) f))
      (T→true (leb (room p) (length spare)) (le→leb (room p) (length spare) g))

  pub run_ends : ((run_of file work spare).outcome ≡ accept tt) ↔ Fits p work spare
  run_ends = (
    (λ h. let t : T (leb (room p) (length work)) × T (leb (room p) (length spare)) =
        ended (leb (room p) (length work)) (leb (room p) (length spare)) (sym (ap (λ (r : Ran). r.outcome) run_is) ∙ h) in
        (leb→le (room p) (length work) t.0, leb→le (room p) (length spare) t.1)),
    λ f. ap (λ (r : Ran). r.outcome) (run_fits f),
  )

  run-stops : ¬ Fits p work spare → ((run_of file work spare).work ≡ work) × ((run_of file work spare).spare ≡ spare)
  run-stops n =
      let s = stopped (leb (room p) (length work)) (leb (room p) (length spare)) (λ t. n (leb→le (room p) (length work) t.0, leb→le (room p) (length spare) t.1)) in
      (ap (λ (r : Ran). r.work) run_is ∙ s.0, ap (λ (r : Ran). r.spare) run_is ∙ s.1)

-- ---- demand 3

-- the shape and the words of the last state
abbrev pub last_shape : Plan → List ℕ
last_shape p = announced_shape p (length p.steps)

abbrev pub last_words : Plan → List ℕ → StateOf ℕ
last_words p work = (shards_after p work (length p.steps)).words

module _ {p : Plan} (a : AcceptedPlan p) where
  pub plan-shapes : (work : List ℕ) (k : ℕ) → (shards_after p work k).shape ≡ announced_shape p k
  unfolding shards_after announced_shape announced
  plan-shapes work k =
      steps-shape p.mesh p.sizes a.within.sizes_pos add_words (take k p.steps) p.start _ a.start_is
      (fine-take p.mesh p.sizes k p.start p.steps a.fine) refl

  pub plan-spreads : (table : List ℕ → ℕ) (work : List ℕ) → Words work → SpreadAt p table 0 (shards_after p work 0).words
      → (k : ℕ) → SpreadAt p (scaled (factor_after p k) table) k (shards_after p work k).words
  unfolding shards_after announced_shape announced held_by factor_after
  plan-spreads table work ws F k =
      steps-spread p.mesh p.sizes a.within.sizes_pos (take k p.steps) p.start table _ a.start_is
      (fine-take p.mesh p.sizes k p.start p.steps a.fine) refl (λ x i bx bi. ws _) F

  -- where every axis that an all-reduce names was unreduced just before its step; those of a reduce-scatter always were
  plan-factor-one : (k : ℕ)
      → ((j : ℕ) (L : List ℕ) (rest : List Step) → j < k → drop j p.steps ≡ all_reduce L ∷ rest → (b : ℕ) → In b L → In b (announced p j).unreduced)
      → factor_after p k ≡ 1
  unfolding factor_after announced
  plan-factor-one k h = go k p.steps p.start a.fine h
    where
      owed : (t : Step) (s : Sharding) → AcceptedStep p.mesh p.sizes t s → ((L : List ℕ) → t ≡ all_reduce L → (b : ℕ) → In b L → In b s.unreduced)
          → (b : ℕ) → In b (reduced_axes t) → In b s.unreduced
      owed (all_slice Ss) s f h b i = absurd i
      owed (all_gather Gs) s f h b i = absurd i
      owed (all_reduce L) s f h b i = h L refl b i
      owed (all_to_all source target L) s f h b i = absurd i
      owed (reduce_scatter Ss) s f h b i = f.by_kind.unreduced b i

      go : (k : ℕ) (ts : List Step) (s : Sharding) → Fine p.mesh p.sizes s ts
          → ((j : ℕ) (L : List ℕ) (rest : List Step) → j < k → drop j ts ≡ all_reduce L ∷ rest → (b : ℕ) → In b L → In b (in_turn after (take j ts) s).unreduced)
          → factor_of p.mesh (take k ts) s ≡ 1
      go zero ts s f h = refl
      go (suc k) [] s f h = refl
      go (suc k) (t ∷ ts) s f h =
          ap₂ ◌*◌ (step-one p.mesh t s (owed t s f.0 (λ L e. h 0 L ts (omega arith) (ap (λ (z : Step). z ∷ ts) e))))
          (go k ts (after t s) f.1 (λ j L rest l e. h (suc j) L rest (omega arith) e))

  -- 1 times a table that has a faithful spread is that table
  plan-times-one : (table : List ℕ → ℕ) (work : List ℕ) → Words work → SpreadAt p table 0 (shards_after p work 0).words
      → (k : ℕ) (w : StateOf ℕ) → SpreadAt p (scaled 1 table) k w → SpreadAt p table k w
  unfolding shards_after announced_shape announced held_by
  plan-times-one table work ws F k w G =
      let pos : (b : ℕ) → zero < get_or p.mesh b 1 = a.within.sizes_pos in
      let v : Varies p.mesh p.sizes p.start = varies p.mesh p.sizes p.start a.start_is in
      let dims : List ℕ = flat p.start.dims in
      unscaled (sharding-cut p.mesh p.sizes pos (announced p k) (state a k).sharding)
      (table-words (λ x i bx bi. ws _) F (sharding-cut p.mesh p.sizes pos p.start a.start_is) (distinct-split dims p.start.unreduced v.once).0
      (λ b i. v.of_mesh b (in_left b dims p.start.unreduced i)) (coords p.mesh 0) (below-coords p.mesh 0 a.within.devices_pos)) G

  -- the buffer of the last state: its shape is the one announced last
  pub last-buffer : (work : List ℕ) → last_state p work ≡ tabulate_by p.order p.mesh (last_shape p) (last_words p work)
  unfolding last_state
  last-buffer work = ap (λ (shape : List ℕ). tabulate_by p.order p.mesh shape (last_words p work)) (plan-shapes work (length p.steps))

  pub last-length : (work : List ℕ) → length (last_state p work) ≡ devices p.mesh * product (last_shape p)
  last-length work = ap length (last-buffer work) ∙ length-tabulate-by p.mesh p.order a.ordered (last_shape p) (last_words p work)

  -- with no steps it is that of the words given
  last-given : p.steps ≡ [] → (work : List ℕ) → room p ≤ length work → last_state p work ≡ take (start_words p) work
  unfolding last_state shards_after
  last-given none work f =
      ap (λ (ts : List Step). tabulate_by p.order p.mesh (go ts).shape (go ts).words) (ap (λ (ts : List Step). take (length ts) ts) none)
      ∙ tabulate-held-by p.mesh p.order a.ordered (announced_shape p 0) 0 work (omega (arith, (state a 0).fits (omega arith), f))
    where
      go : List Step → Shards ℕ
      go ts = in_turn (stepped add_words p.mesh) ts (record { shape = announced_shape p 0; words = held_by 0 p.order p.mesh (announced_shape p 0) work })

  module _ (work : List ℕ) where
    begins : shards_after p work 0 ≡ record { shape = announced_shape p 0; words = held_by 0 p.order p.mesh (announced_shape p 0) work }
    unfolding shards_after
    begins = refl

    pub in_order : (k : ℕ) (t : Step) (rest : List Step) → drop k p.steps ≡ t ∷ rest
        → shards_after p work (k + 1) ≡ stepped add_words p.mesh t (shards_after p work k)
    unfolding shards_after
    in_order k t rest d = in-turn-next (stepped add_words p.mesh) k t p.steps rest _ d

  -- what work begins with at the return
  module _ (file : List ℕ) (e : judge file ≡ accept p) (work spare : List ℕ) (f : Fits p work spare) where
    abbrev ran : Ran
    ran = run_of file work spare

    abbrev rest : List ℕ
    rest = replicate (length work - length (last_state p work)) 0

    pub work-left : ran.work ≡ last_state p work ++ rest
    work-left = ap (λ (r : Ran). r.work) (run_fits file p e work spare f)

    leaves : take (length (last_state p work)) ran.work ≡ last_state p work
    leaves = ap (take (length (last_state p work))) work-left ∙ take-append_seam (last_state p work) rest

    holds : (x i : List ℕ) → Below x p.mesh → Below i (last_shape p) → returned p ran x i ≡ last_words p work x i
    holds x i bx bi =
        ap (λ (b : List ℕ). held_by 0 p.order p.mesh (last_shape p) b x i) (work-left ∙ ap (λ (b : List ℕ). b ++ rest) (last-buffer work))
        ∙ held-tabulate-by p.mesh p.order a.ordered (last_shape p) 0 (last_words p work) rest bx bi

    stays : p.steps ≡ [] → take (start_words p) ran.work ≡ take (start_words p) work
    stays none =
        let l : start_words p ≤ length work = omega (arith, (state a 0).fits (omega arith), f.0) in
        let g : last_state p work ≡ take (start_words p) work = last-given none work f.0 in
        ap (take (start_words p)) work-left ∙ take_at (last_state p work) rest (start_words p) (ap length g ∙ length-take-le (start_words p) work l) ∙ g

-- THE CLAIM OVER A WHOLE PLAN
pub whole_plan : WholePlan
whole_plan file p e work spare words =
    let a : AcceptedPlan p = accepted file p e in
    record {
      ends = run_ends file p e work spare;
      stops = run-stops file p e work spare;
      shardings = λ k h. (state a k).sharding;
      starts = begins a work;
      in_order = in_order a work;
      divides = λ k t rest d. subst (WithoutRemainder p.mesh t) (sym (plan-shapes a work k)) (next-divides a k t rest d);
      shapes = λ k h. plan-shapes a work k;
      leaves = leaves a file e work spare;
      holds = holds a file e work spare;
      stays = λ none f. stays a file e work spare f none;
      spreads = λ table F k h. plan-spreads a table work words F k;
      returns = λ f table F.
          faithful-cong (λ x i bx bi. sym (holds a file e work spare f x i bx bi)) (plan-spreads a table work words F (length p.steps));
      same_table = λ f table F one.
          plan-times-one a table work words F (length p.steps) (returned p (run_of file work spare))
          (faithful-cong (λ x i bx bi. sym (holds a file e work spare f x i bx bi))
          (subst (λ (c : ℕ). SpreadAt p (scaled c table) (length p.steps) (last_words p work)) one (plan-spreads a table work words F (length p.steps))));
    }

pub factor_one : FactorOne
factor_one file p e = plan-factor-one (accepted file p e)

pub times_one : TimesOne
times_one file p e table work = plan-times-one (accepted file p e) table work

-- ---- there is a spread

-- zeros behind a buffer read as what is not there
get_or-zeros : (l : List ℕ) (n j : ℕ) → get_or (l ++ replicate n 0) j 0 ≡ get_or l j 0
get_or-zeros [] zero j = refl
get_or-zeros [] (suc n) zero = refl
get_or-zeros [] (suc n) (suc j) = get_or-zeros [] n j
get_or-zeros (w ∷ l) n zero = refl
get_or-zeros (w ∷ l) n (suc j) = get_or-zeros l n j

-- the buffer of a state of words holds words
tabulate-words : (order mesh : List ℕ) → Rearrangement (devices mesh) order → (shape : List ℕ) (w : StateOf ℕ) → WordsIn mesh shape w
    → Words (tabulate_by order mesh shape w)
unfolding tabulate_by
tabulate-words order mesh r shape w ws j = ⊎_elim
    (λ t. let l : j < devices mesh * product shape = ltb→lt j (devices mesh * product shape) t in
    subst (λ z. z < 2 ^ 32) (sym (get_or-tab (devices mesh * product shape) j _ 0 l))
    (ws _ _ ((by_order mesh order r).below (j / product shape) (div-lt (devices mesh) (product shape) l)) (below-coords shape (j % product shape) (mod-lt j (pos_of_lt (devices mesh) (product shape) l)))))
    (λ t. subst (λ z. z < 2 ^ 32) (sym (get_or-eq_default (tabulate_by order mesh shape w) 0 (subst (λ z. z ≤ j) (sym (length-tab (devices mesh * product shape) _)) (nltb→le j (devices mesh * product shape) t)))) (lit< tt))
    (T? (ltb j (devices mesh * product shape)))

-- Every table of words has a faithful spread under an accepted plan's start, in a buffer of any length that holds it.
pub spreadable : Spreadable
unfolding shards_after announced
spreadable file p e table words len l =
    let a : AcceptedPlan p = accepted file p e in
    let shape : List ℕ = announced_shape p 0 in
    let s : Sharding = p.start in
    let v : Varies p.mesh p.sizes s = varies p.mesh p.sizes s a.start_is in
    let w : (w : StateOf ℕ) × WordsIn p.mesh shape w × Faithful add_words p.mesh s shape table w =
    spread-exists p.mesh s shape table v.once (λ b i. v.of_mesh b (in_right b (flat s.dims) s.unreduced i)) (λ x i bx bi. words _) in
    let front : List ℕ = tabulate_by p.order p.mesh shape w.0 in
    let rest : List ℕ = replicate (len - start_words p) 0 in (
      front ++ rest,
      length-append front rest ∙ omega (arith, length-tabulate-by p.mesh p.order a.ordered shape w.0, length-replicate {A = ℕ} (len - start_words p) 0),
      λ j. subst (λ z. z < 2 ^ 32) (sym (get_or-zeros front (len - start_words p) j)) (tabulate-words p.order p.mesh a.ordered shape w.0 w.1 j),
      faithful-cong (λ x i bx bi. sym (held-tabulate-by p.mesh p.order a.ordered shape 0 w.0 rest bx bi)) w.2,
    )

-- and so in buffers with the plan's room
pub startable : Startable
startable file p e table words =
    let w = spreadable file p e table words (room p) ((state (accepted file p e) 0).fits (omega arith)) in
    (w.0, replicate (room p) 0, (omega (arith, w.1), omega (arith, length-replicate {A = ℕ} (room p) 0)), w.2, w.3)

-- "Room is at most 67,108,864 words"
pub room_limit : RoomLimit
room_limit file p e = room_few (accepted file p e)

-- 1,024 devices with all 65,536 words each have that room
room-reached : (p : Plan) × (judge (file_of (1024 ∷ []) (256 ∷ 256 ∷ []) ([] ∷ [] ∷ [] ∷ []) []) ≡ accept p) × (room p ≡ 67_108_864)
unfolding file_of judge_by room
room-reached = (
  record {
    mesh = 1024 ∷ [];
    order = plain_order 1024;
    sizes = 256 ∷ 256 ∷ [];
    start = record { dims = [] ∷ [] ∷ []; unreduced = []; replicated = [] };
    records = [];
    steps = [];
    runs = [];
  },
  refl,
  refl,
)

-- ---- the replicated list

-- each kind of step leaves it
kept_by : (t : Step) (s : Sharding) → (after t s).replicated ≡ s.replicated
unfolding after
kept_by (all_slice Ss) s = refl
kept_by (all_gather Gs) s = refl
kept_by (all_reduce L) s = refl
kept_by (all_to_all source target L) s = refl
kept_by (reduce_scatter Ss) s = refl

pub replicated_stays : ReplicatedStays
unfolding announced
replicated_stays p k = go (take k p.steps) p.start
  where
    go : (ts : List Step) (s : Sharding) → (in_turn after ts s).replicated ≡ s.replicated
    go [] s = refl
    go (t ∷ ts) s = go ts (after t s) ∙ kept_by t s
