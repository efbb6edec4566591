-- Every refusal of the four calls has a listed number; its step number is 0 outside a file's steps, and that of one of them inside
-- (`refusal_numbers`). Assumes nothing.
use Prim.Native.Nat.{ℕ, zero, suc, ◌+◌, ◌*◌, ◌≤◌}
use mathlib.Core.Path.{◌≡◌, refl, sym, subst}
use mathlib.Core.Logic.{inl, inr, ⊎_elim}
use mathlib.Core.Bool.{Bool, true, false, not}
use mathlib.Core.List.{List, [], ◌∷◌, ◌++◌}
use native.Mathlib.Omega.{arith}
use lib.ListN.{length, get_or}
use lib.Dec.{T, ltb, leb, eqb, ltb→lt, le→leb, lit≤}
use Rattle.rules.specs.Lists.{tab, both, flat, pick, mem, In}
use Rattle.rules.specs.Mesh.{devices}
use Rattle.rules.specs.Sharding.{Sharding, varying, named, divisible, shard_sizes}
use Rattle.rules.specs.Collectives.{Step, all_slice, all_gather, all_reduce, all_to_all, reduce_scatter, step_axes, reduced, only}
use Rattle.rules.specs.Limits.{present, every_kind, most_devices, most_words, most_steps, most_run, most_depth, least_bytes, most_bytes}
use Rattle.rules.specs.Refusals.{Judged, accept, refuse, ◌>>=◌, ◌>>◌, need, need_at}
use Rattle.rules.specs.PlanFile.{
  u16_at,
  edition,
  edition_known,
  axis_count,
  rank_count,
  step_count,
  mesh_offset,
  tensor_offset,
  sharding_offset,
  steps_offset,
  total_length,
  axes_allowed,
  rank_allowed,
  judge_header,
  judge_header_by,
  judge_sizes,
  sizes_at,
  order_allowed,
  carries_order,
  order_at,
  mesh_and_table_at,
  mesh_and_table_at_by,
  list_read_at,
  lists_at,
  carries_replicated,
  replicated_at,
  sharding_at,
  judge_axis,
  judge_axes,
  judge_start,
  one_meaning,
  kind_of,
  lists_of,
  step_at,
  some,
  all_below,
  fresh,
  is_tail,
  increasing_from,
  none_in,
  all_in,
  two_dims,
  gather_off,
  slice_on,
  judge_kind,
  judge_named,
  judge_step,
  JudgesStep,
  JudgesSteps,
  steps_at,
  plain_at,
  positive_at,
  same_sharding,
  repeat_at,
  is_repeat,
  item_with,
  too_deep,
  item_at,
  outermost_at,
  judge_front,
  judge_front_by,
  Plan,
  judge,
  judge_by,
  room,
  state_of,
  Kind,
  AllSlice,
  AllGather,
  AllReduce,
  AllToAll,
  ReduceScatter,
  Unknown,
}
use Rattle.rules.specs.Calls.{check_of, place_of, groups_by, groups_of, groups_ordered_of, runnable, run_leaves, run_of}
use Rattle.laws.specs.Demands.{file_numbers, step_numbers, Numbered, RefusalNumbers}
use Rattle.laws.proofs.Lists.{mem-in, in_mem}
use Rattle.laws.proofs.Judging.{never}
use Rattle.laws.proofs.Repeats.{positive-inv}
use Rattle.laws.proofs.Bytes.{Takes, Taking, item-takes}
use Rattle.laws.proofs.Accepted.{front-accepted}

refusal-inj : {A : Type 0} {n k m j : ℕ} → ◌≡◌ {A = Judged A} (refuse n k) (refuse m j) → (n ≡ m) × (k ≡ j)
refusal-inj e = (cc, cc)

module _ (P : ℕ → ℕ → Type 0) where
  -- P of the number and the step of every refusal
  abbrev Refuses : {A : Type 0} → Judged A → Type 0
  Refuses m = (n k : ℕ) → m ≡ refuse n k → P n k

  -- ---- tests in order

  accepts : {A : Type 0} (a : A) → Refuses (accept a)
  accepts a n k e = absurd (never (sym e))

  refuses : {A : Type 0} (n k : ℕ) → P n k → Refuses {A = A} (refuse n k)
  refuses n k h m j e = let (p, q) = refusal-inj e in subst (λ (i : ℕ). P i j) p (subst (P n) q h)

  bind : {A B : Type 0} (m : Judged A) (f : A → Judged B) → Refuses m → ((a : A) → Refuses (f a)) → Refuses (◌>>=◌ m f)
  bind (accept a) f h g = g a
  bind (refuse n k) f h g = refuses n k (h n k refl)

  next : {A B : Type 0} (m : Judged A) (l : Judged B) → Refuses m → Refuses l → Refuses (◌>>◌ m l)
  next (accept a) l h g = g
  next (refuse n k) l h g = refuses n k (h n k refl)

  test : (k : ℕ) (b : Bool) (n : ℕ) → P n k → Refuses (need_at k b n)
  test k true n h = accepts tt
  test k false n h = refuses n k h

  passes : (k : ℕ) (b : Bool) (n : ℕ) → T b → Refuses (need_at k b n)
  passes k true n t = accepts tt
  passes k false n t = absurd t

  -- what follows knows what was accepted, and that a test was passed
  bind-told : {A B : Type 0} (m : Judged A) (f : A → Judged B) → Refuses m → ((a : A) → m ≡ accept a → Refuses (f a)) → Refuses (◌>>=◌ m f)
  bind-told (accept a) f h g = g a refl
  bind-told (refuse n k) f h g = refuses n k (h n k refl)

  tests-told : {A : Type 0} (k : ℕ) (b : Bool) (n : ℕ) (m : Judged A) → P n k → (T b → Refuses m) → Refuses (◌>>◌ (need_at k b n) m)
  tests-told k true n m h g = g tt
  tests-told k false n m h g = refuses n k h

  -- a test, and then the rest
  tests : {A : Type 0} (k : ℕ) (b : Bool) (n : ℕ) (m : Judged A) → P n k → Refuses m → Refuses (◌>>◌ (need_at k b n) m)
  tests k b n m h g = next (need_at k b n) m (test k b n h) g

  -- ---- sizes, and axes in turn

  sizes-refuse : (most z o running : ℕ) (sizes : List ℕ) → P z 0 → P o 0 → Refuses (judge_sizes most z o running sizes)
  unfolding judge_sizes
  sizes-refuse most z o running [] hz ho = accepts tt
  sizes-refuse most z o running (n ∷ sizes) hz ho =
      tests 0 (ltb 0 n) z _ hz (tests 0 (leb (running * n) most) o _ ho (sizes-refuse most z o (running * n) sizes hz ho))

  -- 16 is of an increasing list only
  abbrev Sixteen : Bool → ℕ → Type 0
  Sixteen true low = P 16 0
  Sixteen false low = low ≡ 0

  low-test : (increasing : Bool) (low a : ℕ) → Sixteen increasing low → Refuses (need (leb low a) 16)
  low-test true low a h = test 0 (leb low a) 16 h
  low-test false low a h = passes 0 (leb low a) 16 (le→leb low a (omega (arith, h)))

  low-next : (increasing : Bool) (low a : ℕ) → Sixteen increasing low → Sixteen increasing (pick increasing (a + 1) 0)
  low-next true low a h = h
  low-next false low a h = refl

  axes-refuse : (n : ℕ) (increasing : Bool) (low : ℕ) (before axes : List ℕ) → P 14 0 → P 15 0 → Sixteen increasing low
      → Refuses (judge_axes n increasing low before axes)
  unfolding judge_axes
  axes-refuse n increasing low before [] f g h = accepts tt
  axes-refuse n increasing low before (a ∷ axes) f g h =
      next (judge_axis n low before a) _ (tests 0 (ltb a n) 14 _ f (tests 0 (not (mem a before)) 15 _ g (low-test increasing low a h)))
      (axes-refuse n increasing (pick increasing (a + 1) 0) (a ∷ before) axes f g (low-next increasing low a h))

  -- ---- a file

  module _ (out : (n : ℕ) → T (mem n file_numbers) → P n 0) where
    header-refuses : (file : List ℕ) → Refuses (judge_header file)
    unfolding judge_header_by mem
    header-refuses file =
        tests 0 (leb least_bytes (length file)) 1 _ (out 1 tt)
        (tests 0 (leb (length file) most_bytes) 2 _ (out 2 tt)
        (tests 0 (edition_known present (edition file)) 3 _ (out 3 tt)
        (tests 0 (eqb (total_length file) (length file)) 4 _ (out 4 tt)
        (tests 0 (axes_allowed (axis_count file)) 5 _ (out 5 tt)
        (tests 0 (rank_allowed (rank_count file)) 5 _ (out 5 tt) (test 0 (leb (step_count file) most_steps) 5 (out 5 tt)))))))

    section-refuses : (most z o count offset : ℕ) (file : List ℕ) (at : ℕ) → P z 0 → P o 0 → Refuses (sizes_at most z o count offset file at)
    unfolding sizes_at mem
    section-refuses most z o count offset file at hz ho =
        tests 0 (eqb offset at) 6 _ (out 6 tt)
        (tests 0 (leb (at + 2 * count) (length file)) 7 _ (out 7 tt)
        (next _ _ (sizes-refuse most z o 1 (tab count (λ i. u16_at file (at + 2 * i))) hz ho) (accepts _)))

    order-refuses : (carried : Bool) (n : ℕ) (file : List ℕ) (at : ℕ) → Refuses (order_at carried n file at)
    unfolding order_at mem
    order-refuses true n file at =
        tests 0 (leb (at + 2 * n) (length file)) 7 _ (out 7 tt)
        (tests 0 (order_allowed n (tab n (λ i. u16_at file (at + 2 * i)))) 19 _ (out 19 tt) (accepts _))
    order-refuses false n file at = accepts _

    sections-refuse : (carried : Bool) (n rank : ℕ) (file : List ℕ) → Refuses (mesh_and_table_at carried n rank file)
    unfolding mesh_and_table_at_by mem
    sections-refuse carried n rank file =
        bind _ _ (section-refuses most_devices 10 11 n (mesh_offset file) file 18 (out 10 tt) (out 11 tt))
        (λ m. bind _ _ (order-refuses carried (devices m.value) file m.next)
        (λ o. bind _ _ (section-refuses most_words 12 13 rank (tensor_offset file) file o.next (out 12 tt) (out 13 tt)) (λ t. accepts _)))

    list-refuses : (n : ℕ) (file : List ℕ) (at : ℕ) → Refuses (list_read_at n file at)
    unfolding list_read_at mem
    list-refuses n file at =
        tests 0 (ltb at (length file)) 7 _ (out 7 tt)
        (tests 0 (leb (get_or file at 0) n) 8 _ (out 8 tt) (tests 0 (leb (at + 1 + get_or file at 0) (length file)) 7 _ (out 7 tt) (accepts _)))

    lists-refuse : (n rank : ℕ) (file : List ℕ) (at : ℕ) → Refuses (lists_at n rank file at)
    unfolding lists_at
    lists-refuse n zero file at = accepts _
    lists-refuse n (suc rank) file at =
        bind _ _ (list-refuses n file at)
        (λ l. bind _ _ (lists-refuse n rank file l.next) (λ ls. accepts _))

    replicated-refuses : (carried : Bool) (n : ℕ) (file : List ℕ) (at : ℕ) → Refuses (replicated_at carried n file at)
    unfolding replicated_at
    replicated-refuses true n file at = list-refuses n file at
    replicated-refuses false n file at = accepts _

    sharding-refuses : (carried : Bool) (n rank offset : ℕ) (file : List ℕ) (at : ℕ) → Refuses (sharding_at carried n rank offset file at)
    unfolding sharding_at mem
    sharding-refuses carried n rank offset file at =
        tests 0 (eqb offset at) 6 _ (out 6 tt)
        (bind _ _ (lists-refuse n rank file at)
        (λ ds. bind _ _ (list-refuses n file ds.next)
        (λ u. bind _ _ (replicated-refuses carried n file u.next) (λ v. accepts _))))

    start-refuses : (mesh sizes : List ℕ) (s : Sharding) → Refuses (judge_start mesh sizes s)
    unfolding judge_start mem
    start-refuses mesh sizes s =
        next _ _ (axes-refuse (length mesh) false 0 [] (flat s.dims) (out 14 tt) (out 15 tt) refl)
        (next _ _ (axes-refuse (length mesh) true 0 (flat s.dims) s.unreduced (out 14 tt) (out 15 tt) (out 16 tt))
        (next _ _ (axes-refuse (length mesh) true 0 (varying s) s.replicated (out 14 tt) (out 15 tt) (out 16 tt))
        (test 0 (divisible mesh sizes s.dims) 17 (out 17 tt))))

    front-refuses : (file : List ℕ) → Refuses (judge_front file)
    unfolding judge_front_by mem
    front-refuses file =
        next _ _ (header-refuses file)
        (bind _ _ (sections-refuse (carries_order (edition file)) (axis_count file) (rank_count file) file)
        (λ m. bind _ _ (sharding-refuses (carries_replicated (edition file)) (axis_count file) (rank_count file) (sharding_offset file) file m.next)
        (λ s. tests 0 (eqb (steps_offset file) s.next) 6 _ (out 6 tt)
        (next _ _ (start-refuses m.value.mesh m.value.sizes s.value)
        (tests 0 (one_meaning (edition file) s.value.replicated) 18 _ (out 18 tt) (accepts _))))))

    -- ---- its steps

    module _ (k : ℕ) (inside : (n : ℕ) → T (mem n step_numbers) → P n k) where
      kind-read : (n rank : ℕ) (file : List ℕ) (at : ℕ) (kind : Kind) → Refuses (lists_of n rank k file at kind)
      unfolding lists_of mem
      kind-read n rank file at AllSlice = bind _ _ (lists-refuse n rank file at) (λ ls. accepts _)
      kind-read n rank file at AllGather = bind _ _ (lists-refuse n rank file at) (λ ls. accepts _)
      kind-read n rank file at AllReduce = bind _ _ (list-refuses n file at) (λ l. accepts _)
      kind-read n rank file at AllToAll =
          tests 0 (leb (at + 2) (length file)) 7 _ (out 7 tt) (bind _ _ (list-refuses n file (at + 2)) (λ l. accepts _))
      kind-read n rank file at ReduceScatter = bind _ _ (lists-refuse n rank file at) (λ ls. accepts _)
      kind-read n rank file at Unknown = refuses 20 k (inside 20 tt)

      step-read : (n rank : ℕ) (file : List ℕ) (at : ℕ) → Refuses (step_at n rank k file at)
      unfolding step_at mem
      step-read n rank file at = tests 0 (ltb at (length file)) 7 _ (out 7 tt) (kind-read n rank file (at + 1) (kind_of (get_or file at 0)))

      gather-refuses : (Gs : List (List ℕ)) (s : Sharding) → Refuses (gather_off k Gs s)
      unfolding gather_off mem
      gather-refuses Gs s = tests k (both is_tail s.dims Gs) 24 _ (inside 24 tt) (accepts _)

      slice-refuses : (mesh sizes : List ℕ) (Ss : List (List ℕ)) (s : Sharding) → Refuses (slice_on mesh sizes k Ss s)
      unfolding slice_on mem
      slice-refuses mesh sizes Ss s = tests k (divisible mesh (shard_sizes mesh sizes s.dims) Ss) 25 _ (inside 25 tt) (accepts _)

      kind-judged : (mesh sizes : List ℕ) (t : Step) (s : Sharding) → Refuses (judge_kind mesh sizes k t s)
      unfolding judge_kind mem
      kind-judged mesh sizes (all_slice Ss) s = tests k (fresh (named s) (flat Ss)) 23 _ (inside 23 tt) (slice-refuses mesh sizes Ss s)
      kind-judged mesh sizes (all_gather Gs) s = gather-refuses Gs s
      kind-judged mesh sizes (all_reduce L) s =
          tests k (increasing_from 0 L) 26 _ (inside 26 tt) (tests k (none_in L (flat s.dims ++ s.replicated)) 27 _ (inside 27 tt) (accepts _))
      kind-judged mesh sizes (all_to_all source target L) s =
          tests k (two_dims (length s.dims) source target) 28 _ (inside 28 tt)
          (bind _ _ (gather-refuses (only (length s.dims) source L) s) (λ g. slice-refuses mesh sizes (only (length s.dims) target L) g))
      kind-judged mesh sizes (reduce_scatter Ss) s =
          tests k (fresh [] (flat Ss)) 23 _ (inside 23 tt)
          (tests k (all_in (flat Ss) s.unreduced) 27 _ (inside 27 tt) (slice-refuses mesh sizes Ss (reduced (flat Ss) s)))

      step-judged : (mesh sizes : List ℕ) (t : Step) (s : Sharding) → Refuses (judge_step mesh sizes k t s)
      unfolding judge_step mem
      step-judged mesh sizes t s =
          next (judge_named (length mesh) k (step_axes t)) _
          (tests k (some (step_axes t)) 21 _ (inside 21 tt) (test k (all_below (length mesh) (step_axes t)) 22 (inside 22 tt)))
          (kind-judged mesh sizes t s)

    -- a number inside the steps is one of a kind byte of the file
    module _ (mesh sizes file : List ℕ) (inside : (n k : ℕ) → T (mem n step_numbers) → 1 ≤ k → k ≤ length file → P n k) where
      abbrev Numbers : JudgesStep → Type 0
      Numbers one = (k at : ℕ) (s : Sharding) → 1 ≤ k → k ≤ at → Refuses (one k at s)

      plain-refuses : Numbers (plain_at mesh sizes file)
      unfolding plain_at step_at mem
      plain-refuses k at s l h = go (ltb at (length file)) refl
        where
          go : (b : Bool) → ltb at (length file) ≡ b → Refuses (plain_at mesh sizes file k at s)
          go true q =
              let here : (n : ℕ) → T (mem n step_numbers) → P n k = λ n i. inside n k i l (omega (arith, ltb→lt at (length file) (subst T (sym q) tt))) in
              bind _ _ (step-read k here (length mesh) (length sizes) file at)
              (λ r. bind _ _ (step-judged k here mesh sizes r.value s) (λ after. accepts _))
          go false q = rw q (refuses 7 0 (out 7 tt))

      steps-refuse : (one : JudgesStep) → Taking mesh sizes file one → Numbers one → (count : ℕ) → Numbers (steps_at one count)
      unfolding steps_at
      steps-refuse one b g zero k at s l h = accepts _
      steps-refuse one b g (suc count) k at s l h =
          bind-told _ _ (g k at s l h)
          (λ t e. bind _ _ (steps-refuse one b g count (k + length t.records) t.next t.sharding (omega arith) (omega (arith, (b k at s t e).bytes)))
          (λ ts. accepts _))

      positive-refuses : (k at : ℕ) → 1 ≤ k → k ≤ at → Refuses (positive_at k file at)
      unfolding positive_at mem
      positive-refuses k at l h =
          tests-told 0 (ltb at (length file)) 7 _ (out 7 tt)
          (λ t. tests k (ltb 0 (get_or file at 0)) 44 _ (inside 44 k tt l (omega (arith, ltb→lt at (length file) t))) (accepts _))

      -- what judges the inner steps of a repeat is asked only where its two bytes are there
      repeat-refuses : (inner : JudgesSteps) (k at : ℕ) (s : Sharding) → 1 ≤ k → k ≤ at
          → (k ≤ length file → (count : ℕ) → Refuses (inner count (k + 1) (at + 1 + 2) s)) → Refuses (repeat_at inner file k (at + 1) s)
      unfolding repeat_at mem
      repeat-refuses inner k at s l h g =
          bind-told _ _ (positive-refuses k (at + 1) l (omega arith))
          (λ count e.
          let m : k ≤ length file = omega (arith, (positive-inv mesh sizes file k (at + 1) count e).0) in
          bind _ _ (positive-refuses k (at + 1 + 1) l (omega arith))
          (λ number. bind _ _ (g m number)
          (λ block. tests k (same_sharding block.sharding s) 41 _ (inside 41 k tt l m)
          (tests k (leb (count * length block.steps) most_run) 43 _ (inside 43 k tt l m) (accepts _)))))

      by-refuses : (b : Bool) (inner : JudgesSteps) (k at : ℕ) (s : Sharding) → 1 ≤ k → k ≤ at
          → (k ≤ length file → (count : ℕ) → Refuses (inner count (k + 1) (at + 1 + 2) s)) → Refuses (item_with b inner mesh sizes file k at s)
      unfolding item_with
      by-refuses false inner k at s l h g = plain-refuses k at s l h
      by-refuses true inner k at s l h g = repeat-refuses inner k at s l h g

      -- the present reader knows every kind byte
      item-refuses : (depth : ℕ) → Numbers (item_at every_kind mesh sizes file depth)
      unfolding item_at mem
      item-refuses zero k at s l h = by-refuses (is_repeat file at) (too_deep k) k at s l h (λ m count. refuses 42 k (inside 42 k tt l m))
      item-refuses (suc depth) k at s l h =
          by-refuses (is_repeat file at) (steps_at (item_at every_kind mesh sizes file depth)) k at s l h
          (λ m count. steps-refuse (item_at every_kind mesh sizes file depth) (item-takes mesh sizes file every_kind depth) (item-refuses depth) count (k + 1) (at + 1 + 2) s
          (omega arith) (omega arith))

      outermost-refuses : (ran count : ℕ) (k at : ℕ) (s : Sharding) → 1 ≤ k → k ≤ at → Refuses (outermost_at every_kind mesh sizes file ran count k at s)
      unfolding outermost_at mem
      outermost-refuses ran zero k at s l h = accepts _
      outermost-refuses ran (suc count) k at s l h =
          bind-told _ _ (item-refuses most_depth k at s l h)
          (λ t e.
          let b : Takes mesh sizes file at t = item-takes mesh sizes file every_kind most_depth k at s t e in
          tests k (leb (ran + length t.steps) most_run) 43 _ (inside 43 k tt l (omega (arith, b.bytes, b.inside)))
          (bind _ _
          (outermost-refuses (ran + length t.steps) count (k + length t.records) t.next t.sharding (omega arith) (omega (arith, b.bytes)))
          (λ ts. accepts _)))

-- ---- the calls

-- a number outside the steps
listed : (numbers : List ℕ) (steps n : ℕ) → T (mem n numbers) → Numbered numbers steps n 0
listed numbers steps n t = inl (mem-in n numbers t, refl)

-- the refusals of a file are numbered, among other numbers of a call too
judge-refuses : (numbers : List ℕ) → ((n : ℕ) → In n file_numbers → In n numbers) → (file : List ℕ) → Refuses (Numbered numbers (length file)) (judge file)
unfolding judge_by mem
judge-refuses numbers all file =
    let P : ℕ → ℕ → Type 0 = Numbered numbers (length file) in
    let out : (n : ℕ) → T (mem n file_numbers) → P n 0 = λ n t. inl (all n (mem-in n file_numbers t), refl) in
    let inside : (n k : ℕ) → T (mem n step_numbers) → 1 ≤ k → k ≤ length file → P n k = λ n k t l h. inr (mem-in n step_numbers t, l, h) in
    bind-told P _ _ (front-refuses P out file)
    (λ f e. bind P _ _
    (outermost-refuses P out f.mesh f.sizes file inside 0 (step_count file) 1 f.next f.start (lit≤ tt)
    (omega (arith, (front-accepted file f e).begins)))
    (λ ts. tests P 0 (eqb ts.next (length file)) 9 _ (out 9 tt) (accepts P _)))

-- of a file with one kind byte: 29 is no number, 7 is of no step, 24 is of that step alone
unnumbered :
    (¬ Numbered file_numbers 1 29 0) × (¬ Numbered file_numbers 1 7 1) × (¬ Numbered file_numbers 1 24 0) × (¬ Numbered file_numbers 1 24 2)
unfolding mem
unnumbered = (
  ⊎_elim (λ h. in_mem 29 file_numbers h.0) (λ h. in_mem 29 step_numbers h.0),
  ⊎_elim (λ h. omega (arith, h.1)) (λ h. in_mem 7 step_numbers h.0),
  ⊎_elim (λ h. in_mem 24 file_numbers h.0) (λ h. omega (arith, h.1)),
  ⊎_elim (λ h. in_mem 24 file_numbers h.0) (λ h. omega (arith, h.2)),
)

-- what a run answers is refused where it may not run
run-refuses : (P : ℕ → ℕ → Type 0) (work spare : List ℕ) (j : Judged Plan) → Refuses P j → Refuses P (run_leaves j work spare).outcome
run-refuses P work spare (accept p) h = accepts P tt
run-refuses P work spare (refuse n k) h = refuses P n k (h n k refl)

-- both group listings
groups-refuse : (P : ℕ → ℕ → Type 0) → P 5 0 → P 10 0 → P 11 0 → P 14 0 → P 15 0 → P 33 0
    → (ordered : Judged (Unit {0})) (mesh axes out : List ℕ) → Refuses P ordered → Refuses P (groups_by ordered mesh axes out)
unfolding groups_by
groups-refuse P p5 p10 p11 p14 p15 p33 ordered mesh axes out o =
    tests P 0 (axes_allowed (length mesh)) 5 _ p5
    (next P _ _ (sizes-refuse P most_devices 10 11 1 mesh p10 p11)
    (next P _ _ o
    (next P _ _ (axes-refuse P (length mesh) false 0 [] axes p14 p15 refl)
    (tests P 0 (leb (devices mesh) (length out)) 33 _ p33 (accepts P _)))))

pub refusal_numbers : RefusalNumbers
unfolding check_of state_of place_of groups_of groups_ordered_of run_of runnable mem
refusal_numbers = record {
  check = λ file. bind (Numbered file_numbers (length file)) _ _ (judge-refuses file_numbers (λ n i. i) file) (λ p. accepts _ _);
  place = λ file state device.
      let numbers : List ℕ = 32 ∷ 34 ∷ file_numbers in
      let steps : ℕ = length file in
      let P : ℕ → ℕ → Type 0 = Numbered numbers steps in
      bind P (state_of file state) _
      (bind P _ _ (judge-refuses numbers (λ n i. inr (inr i)) file)
      (λ p. tests P 0 (leb state (length p.runs)) 34 _ (listed numbers steps 34 tt) (accepts P _)))
      (λ s. tests P 0 (ltb device (devices s.mesh)) 32 _ (listed numbers steps 32 tt) (accepts P _));
  groups = λ mesh axes out.
      let numbers : List ℕ = 5 ∷ 10 ∷ 11 ∷ 14 ∷ 15 ∷ 33 ∷ [] in
      let own : (n : ℕ) → T (mem n numbers) → Numbered numbers 0 n 0 = listed numbers 0 in
      groups-refuse (Numbered numbers 0) (own 5 tt) (own 10 tt) (own 11 tt) (own 14 tt) (own 15 tt) (own 33 tt) _ mesh axes out (accepts _ tt);
  groups_ordered = λ mesh order axes out.
      let numbers : List ℕ = 5 ∷ 10 ∷ 11 ∷ 19 ∷ 14 ∷ 15 ∷ 33 ∷ [] in
      let P : ℕ → ℕ → Type 0 = Numbered numbers 0 in
      let own : (n : ℕ) → T (mem n numbers) → P n 0 = listed numbers 0 in
      groups-refuse P (own 5 tt) (own 10 tt) (own 11 tt) (own 14 tt) (own 15 tt) (own 33 tt) _ mesh axes out
      (test P 0 (order_allowed (devices mesh) order) 19 (own 19 tt));
  run = λ file work spare.
      let numbers : List ℕ = 30 ∷ 31 ∷ file_numbers in
      let steps : ℕ = length file in
      let P : ℕ → ℕ → Type 0 = Numbered numbers steps in
      run-refuses P work spare (runnable file work spare) (bind P _ _ (judge-refuses numbers (λ n i. inr (inr i)) file)
      (λ p. tests P 0 (leb (room p) (length work)) 30 _ (listed numbers steps 30 tt)
      (tests P 0 (leb (room p) (length spare)) 31 _ (listed numbers steps 31 tt) (accepts P _))));
}
