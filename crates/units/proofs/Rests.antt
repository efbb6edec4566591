-- What the rest of a file is judged by, whatever comes next in it (`rest_of`): the rules' own tests from there on. A unit is read, what follows it is a phase,
-- and the rest goes on from that phase (`mesh-on`, `number-on`, `table_on`, `start-on`, `steps_on`). Assumes nothing.
use Prim.Native.Nat.{ℕ, zero, suc, ◌+◌, ◌-◌, ◌*◌, ◌≤◌, ◌<◌, max}
use mathlib.Core.Path.{◌≡◌, refl, sym, ap, ap₂, ◌∙◌}
use mathlib.Core.Logic.{◌⊎◌, inl, inr}
use mathlib.Core.Bool.{Bool, true, false, not}
use mathlib.Core.List.{List, [], ◌∷◌}
use native.Mathlib.Omega.{arith}
use lib.ListN.{length, replicate}
use native.Mathlib.Decide.{dec_lt}
use borrow.Author.Tests.{lt-ltb, le-ltb, le-leb, lt-leb}
use lib.Dec.{T, T_not, leb, ltb, eqb, lit≤}
use Rattle.rules.specs.Lists.{tab, in_turn, flat}
use Rattle.rules.specs.Mesh.{devices}
use Rattle.rules.specs.Limits.{most_devices, most_words, most_run, every_kind}
use Rattle.rules.specs.Sharding.{Sharding}
use Rattle.rules.specs.Collectives.{Step, after}
use Rattle.rules.specs.Refusals.{Judged, accept, refuse, ◌>>=◌, ◌>>◌, need, need_at}
use Rattle.rules.specs.PlanFile.{Read, u16_at, edition, axis_count, rank_count, step_count, tensor_offset, sharding_offset, steps_offset, sizes_at, carries_order, order_allowed, order_at, carries_replicated, sharding_at, step_at, judge_step}
use Rattle.rules.specs.PlanFile.{plain, repeat, StepsRead, steps_at, plain_at, positive_at, same_sharding, is_repeat, item_at, outermost_at}
use Rattle.rules.specs.Calls.{CheckAnswer}
use Rattle.laws.specs.Demands.{largest_on}
use Rattle.laws.proofs.Lists.{n_t→false, T?, length-tab, tab-cong}
use Rattle.laws.proofs.Judging.{bind_assoc}
use Rattle.laws.proofs.Accepted.{section-facts}
use Rattle.laws.proofs.Steps.{facts}
use Rattle.laws.proofs.Turns.{length-times, largest-times}
use Rattle.laws.proofs.Repeats.{sharding-eq, steps-tell, item-tells}
use Rattle.reader.specs.Reading.{numbers_of}
use Rattle.reader.specs.declared.Header.{Header}
use Rattle.opening.specs.Opening.{judge_opening}
use Rattle.blocks.specs.Blocks.{Head, not_too_deep, head_at, shard_words}
use Rattle.blocks.proofs.Items.{ended, by-head, item-repeat, item-plain}
use Rattle.blocks.proofs.Heads.{HeadFacts, head-facts}
use Rattle.units.specs.Units.{
  Frame,
  Standing,
  Numbers,
  Phase,
  in_header,
  in_mesh,
  in_the_order,
  in_table,
  in_the_start,
  in_steps,
  at_end,
  stopped,
  counted,
  no_numbers,
  outermost,
  to_table,
  mesh_then,
  order_then,
  after_mesh,
  after_number,
  past_table,
  after_start,
  after_step,
  after_plain,
  after_head,
  depth_in,
}
use Rattle.units.proofs.Parts.{number_at, read_head, Item, opens, takes, item_of, item_read}
use Rattle.units.proofs.Orders.{tab-first, ordered, ordered-is}
use Rattle.units.proofs.Steps.{bind-same, passes, outer_rest, steps_rest, so_far, close_rest, item_done, first}

-- `read_head` is `head_at`, and where the next byte is
pub head_read : (depth k : ℕ) (f : List ℕ) (at : ℕ) → read_head depth k f at ≡ ◌>>=◌ (head_at depth k f at) (λ h. accept (record { value = h; next = at + 2 }))
unfolding head_at
head_read depth k f at = go (positive_at k f at)
  where
    number : (d c : ℕ) (b : Judged ℕ)
        → ◌>>=◌ (◌>>=◌ {B = Read ℕ} b (λ n. accept (record { value = n; next = at + 1 + 1 })))
        (λ (n : Read ℕ). ◌>>◌ {B = Read Head} (not_too_deep d k) (accept (record { value = record { count = c; number = n.value }; next = n.next })))
        ≡ ◌>>=◌ (◌>>=◌ b (λ n. ◌>>◌ {B = Head} (not_too_deep d k) (accept (record { count = c; number = n })))) (λ (h : Head). accept (record { value = h; next = at + 2 }))
    number d c (refuse x y) = refl
    number zero c (accept n) = refl
    number (suc d) c (accept n) =
        let z : at + 1 + 1 ≡ at + 2 = omega arith in ap (λ (m : ℕ). accept (record { value = record { count = c; number = n }; next = m })) z

    go : (a : Judged ℕ)
        → ◌>>=◌ (◌>>=◌ {B = Read ℕ} a (λ c. accept (record { value = c; next = at + 1 }))) (λ (c : Read ℕ).
        ◌>>=◌ (◌>>=◌ {B = Read ℕ} (positive_at k f c.next) (λ n. accept (record { value = n; next = c.next + 1 })))
        (λ (n : Read ℕ). ◌>>◌ {B = Read Head} (not_too_deep depth k) (accept (record { value = record { count = c.value; number = n.value }; next = n.next }))))
        ≡ ◌>>=◌ (◌>>=◌ a (λ c. ◌>>=◌ (positive_at k f (at + 1)) (λ n. ◌>>◌ {B = Head} (not_too_deep depth k) (accept (record { count = c; number = n })))))
        (λ (h : Head). accept (record { value = h; next = at + 2 }))
    go (refuse x y) = refl
    go (accept c) = number depth c (positive_at k f (at + 1))

-- what follows an item
abbrev pub after_item : (mesh sizes : List ℕ) → Standing → Item → Judged Phase
after_item mesh sizes q (opens a) = after_head mesh sizes q a
after_item mesh sizes q (takes t) = after_plain mesh sizes q t

module _ (h : Header) (file : List ℕ) where
  abbrev pub steps_from : (mesh sizes : List ℕ) → Sharding → ℕ → Judged CheckAnswer
  steps_from mesh sizes s at = do
    need (eqb h.steps_at at) 6
    judge_opening h.edition mesh sizes s
    steps_rest h.steps file mesh sizes [] (accept tt) h.steps 1 0 (shard_words mesh sizes s) at s

  abbrev pub start_rest : (mesh sizes : List ℕ) → ℕ → Judged CheckAnswer
  start_rest mesh sizes at = do
    s ← sharding_at (carries_replicated h.edition) h.axes h.rank at file at
    steps_from mesh sizes s.value s.next

  abbrev pub start_from : (mesh sizes : List ℕ) → ℕ → Judged CheckAnswer
  start_from mesh sizes at = do
    need (eqb h.sharding_at at) 6
    start_rest mesh sizes at

  abbrev pub table_rest : (mesh : List ℕ) → ℕ → Judged CheckAnswer
  table_rest mesh at = do
    t ← sizes_at most_words 12 13 h.rank at file at
    start_from mesh t.value t.next

  abbrev pub table_from : (mesh : List ℕ) → ℕ → Judged CheckAnswer
  table_from mesh at = do
    need (eqb h.table_at at) 6
    table_rest mesh at

  abbrev pub order_rest : (mesh : List ℕ) → Numbers → ℕ → Judged CheckAnswer
  order_rest mesh t at = do
    need (leb (at + 2 * (devices mesh - t.count)) (length file)) 7
    need (ordered (devices mesh) t (tab (devices mesh - t.count) (λ i. u16_at file (at + 2 * i)))) 19
    table_from mesh (at + 2 * (devices mesh - t.count))

  abbrev pub order_rest_from : (mesh : List ℕ) → ℕ → Judged CheckAnswer
  order_rest_from mesh at = do
    o ← order_at (carries_order h.edition) (devices mesh) file at
    table_from mesh o.next

  abbrev pub mesh_rest : ℕ → Judged CheckAnswer
  mesh_rest at = do
    m ← sizes_at most_devices 10 11 h.axes at file at
    order_rest_from m.value m.next

  -- the rest of the file, from the unit on that begins at a byte
  abbrev pub rest_of : Phase → ℕ → Judged CheckAnswer
  rest_of in_header at = refuse 7 0
  rest_of in_mesh at = mesh_rest at
  rest_of (in_the_order mesh t) at = order_rest mesh t at
  rest_of (in_table mesh) at = table_rest mesh at
  rest_of (in_the_start mesh sizes) at = start_rest mesh sizes at
  rest_of (in_steps mesh sizes q) at =
      steps_rest h.steps file mesh sizes q.frames (accept tt) (suc q.behind) q.number q.ran q.largest at q.sharding
  rest_of (at_end mesh sizes largest s) at = passes h.steps file mesh sizes largest at s
  rest_of (stopped a k) at = refuse a k

  -- ---- steps

  module _ (mesh sizes : List ℕ) where
    abbrev words : Sharding → ℕ
    words = shard_words mesh sizes

    outermost-on : (left ran number largest at : ℕ) (s : Sharding) → words s ≤ largest
        → rest_of (outermost mesh sizes left ran number largest s) at
        ≡ outer_rest h.steps file mesh sizes left number ran largest at s
    unfolding outermost_at
    outermost-on zero ran number largest at s l =
        let z : largest ≡ max largest (words s) = omega (arith, l) in
        ap (λ (m : ℕ). passes h.steps file mesh sizes m at s) z
    outermost-on (suc behind) ran number largest at s l = refl

    -- a step is done
    pub step-done : (fs : List Frame) (k left ran number largest at : ℕ) (s : Sharding) → words s ≤ largest
        → ◌>>=◌ (after_step mesh sizes number largest s fs k left ran) (λ (p : Phase). rest_of p at)
        ≡ steps_rest h.steps file mesh sizes fs (so_far h.steps file mesh sizes k ran) left number ran largest at s
    unfolding after_step steps_at
    step-done [] k left ran number largest at s l = go (leb ran most_run)
      where
        go : (b : Bool) → ◌>>=◌ (◌>>◌ (need_at k b 43) (accept (outermost mesh sizes left ran number largest s))) (λ (p : Phase). rest_of p at)
            ≡ ◌>>◌ (need_at k b 43) (outer_rest h.steps file mesh sizes left number ran largest at s)
        go true = outermost-on left ran number largest at s l
        go false = refl
    step-done (f ∷ fs) k (suc behind) ran number largest at s l = refl
    step-done (f ∷ fs) k zero ran number largest at s l =
        go (same_sharding s f.sharding) (leb (f.count * ran) most_run) (after_step mesh sizes number largest s fs f.number f.behind (f.ran + f.count * ran)) (step-done fs f.number f.behind (f.ran + f.count * ran) number largest at s l)
        ∙ (λ i. ◌>>◌ (need_at f.number (same_sharding s f.sharding) 41) (◌>>◌ (need_at f.number (leb (f.count * r i) most_run) 43)
        (steps_rest h.steps file mesh sizes fs (so_far h.steps file mesh sizes f.number (f.ran + f.count * r i)) f.behind (n i) (f.ran + f.count * r i) (m i) at s)))
      where
        r : ran ≡ ran + 0
        r = omega arith

        n : number ≡ number + 0
        n = omega arith

        m : largest ≡ max largest (words s)
        m = omega (arith, l)

        go : (a b : Bool) (j : Judged Phase) {c : Judged CheckAnswer} → ◌>>=◌ j (λ (p : Phase). rest_of p at) ≡ c
            → ◌>>=◌ (◌>>◌ (need_at f.number a 41) (◌>>◌ (need_at f.number b 43) j)) (λ (p : Phase). rest_of p at)
            ≡ ◌>>◌ (need_at f.number a 41) (◌>>◌ (need_at f.number b 43) c)
        go true true j e = e
        go true false j e = refl
        go false b j e = refl

    module _ (q : Standing) (counts : words q.sharding ≤ q.largest) where
      abbrev done : StepsRead → Judged CheckAnswer
      done w = item_done h.steps file mesh sizes q.frames q.behind q.number q.ran q.largest q.sharding w

      -- a plain step
      plain-on : (t : Step) (at : ℕ) → ◌>>=◌ (after_plain mesh sizes q t) (λ (p : Phase). rest_of p at)
          ≡ ◌>>=◌ (judge_step mesh sizes q.number t q.sharding) (λ (s : Sharding). done (record { records = plain t ∷ []; steps = t ∷ []; sharding = s; next = at }))
      unfolding after_plain
      plain-on t at =
          bind_assoc (judge_step mesh sizes q.number t q.sharding) _ _
          ∙ bind-same (judge_step mesh sizes q.number t q.sharding) _ _ (λ s e.
          step-done q.frames q.number q.behind (q.ran + 1) (q.number + 1) (max q.largest (words s)) at s (omega arith)
          ∙ ap (λ (m : ℕ). steps_rest h.steps file mesh sizes q.frames (so_far h.steps file mesh sizes q.number (q.ran + 1)) q.behind (q.number + 1) (q.ran + 1) m at s)
          (most s (facts mesh sizes q.number t q.sharding s e).1))
        where
          most : (s : Sharding) → after t q.sharding ≡ s → max q.largest (words s) ≡ max q.largest (max (words q.sharding) (words (after t q.sharding)))
          most s e = ap (λ (z : Sharding). max q.largest (words z)) (sym e) ∙ omega (arith, counts)

      -- a block is opened
      block_on : (a : Head) (at : ℕ) → 0 < a.count → 0 < a.number → ◌>>=◌ (after_head mesh sizes q a) (λ (p : Phase). rest_of p (at + 2))
          ≡ ◌>>=◌ (◌>>=◌ (steps_at (item_at every_kind mesh sizes file (depth_in q.frames - 1)) a.number (q.number + 1) (at + 2) q.sharding)
          (ended mesh sizes file (depth_in q.frames) q.number at q.sharding a.count a.number)) done
      block_on a at c n =
          (λ i. ◌>>=◌ (steps_at (item_at every_kind mesh sizes file (d i)) (m i) (q.number + 1) (at + 2) q.sharding) shut)
          ∙ bind-same (steps_at (item_at every_kind mesh sizes file (depth_in q.frames - 1)) a.number (q.number + 1) (at + 2) q.sharding) _ _ (λ w e.
          go w (steps-tell mesh sizes file (item_at every_kind mesh sizes file (depth_in q.frames - 1)) (item-tells mesh sizes file every_kind (depth_in q.frames - 1))
          a.number (q.number + 1) (at + 2) q.sharding w e).ends (T? (same_sharding w.sharding q.sharding)))
          ∙ sym (bind_assoc (steps_at (item_at every_kind mesh sizes file (depth_in q.frames - 1)) a.number (q.number + 1) (at + 2) q.sharding) _ _)
        where
          frame : Frame
          frame = record { number = q.number; count = a.count; behind = q.behind; ran = q.ran; sharding = q.sharding }

          d : depth_in (frame ∷ q.frames) ≡ depth_in q.frames - 1
          d = omega arith

          m : suc (a.number - 1) ≡ a.number
          m = omega arith

          shut : StepsRead → Judged CheckAnswer
          shut w =
              close_rest h.steps file mesh sizes frame q.frames (q.number + 1 + length w.records) (0 + length w.steps)
              (max q.largest (largest_on words q.sharding w.steps)) w.next w.sharding

          close : (w : StepsRead) → (b : Bool) → (ran number all largest : ℕ) → Judged CheckAnswer
          close w b ran number all largest =
              ◌>>◌ (need_at q.number b 41) (◌>>◌ (need_at q.number (leb (a.count * ran) most_run) 43)
              (steps_rest h.steps file mesh sizes q.frames (so_far h.steps file mesh sizes q.number (q.ran + all)) q.behind number (q.ran + all) largest w.next w.sharding))

          rounds : StepsRead → StepsRead
          rounds w = record {
            records = repeat a.count a.number ∷ w.records;
            steps = flat (replicate a.count w.steps);
            sharding = w.sharding;
            next = w.next;
          }

          flatten : (w : StepsRead) (b c : Bool)
              → ◌>>=◌ (◌>>◌ (need_at q.number b 41) (◌>>◌ (need_at q.number c 43) (accept (rounds w)))) done
              ≡ ◌>>◌ (need_at q.number b 41) (◌>>◌ (need_at q.number c 43) (done (rounds w)))
          flatten w true true = refl
          flatten w true false = refl
          flatten w false c = refl

          go : (w : StepsRead) → in_turn after w.steps q.sharding ≡ w.sharding → T (same_sharding w.sharding q.sharding) ⊎ T (not (same_sharding w.sharding q.sharding))
              → shut w ≡ ◌>>=◌ (ended mesh sizes file (depth_in q.frames) q.number at q.sharding a.count a.number w) done
          go w e (inl t) =
              let back : in_turn after w.steps q.sharding ≡ q.sharding = e ∙ sharding-eq w.sharding q.sharding t in
              let r : 0 + length w.steps ≡ length w.steps = omega arith in
              let k : q.number + 1 + length w.records ≡ q.number + suc (length w.records) = omega arith in
              let l : a.count * (0 + length w.steps) ≡ length (flat (replicate a.count w.steps)) =
              ap (λ (x : ℕ). a.count * x) r ∙ sym (length-times a.count w.steps) in
              let g : max q.largest (largest_on words q.sharding w.steps) ≡ max q.largest (largest_on words q.sharding (flat (replicate a.count w.steps))) =
              ap (max q.largest) (sym (largest-times words a.count w.steps q.sharding c back)) in
              (λ i. close w (same_sharding w.sharding q.sharding) (r i) (k i) (l i) (g i))
              ∙ sym (flatten w (same_sharding w.sharding q.sharding) (leb (a.count * length w.steps) most_run))
          go w e (inr t) =
              let f : same_sharding w.sharding q.sharding ≡ false = n_t→false (same_sharding w.sharding q.sharding) (T_not (same_sharding w.sharding q.sharding) t) in
              rw f refl

      abbrev onward : Read Item → Judged CheckAnswer
      onward r = ◌>>=◌ (after_item mesh sizes q r.value) (λ (p : Phase). rest_of p r.next)

      -- A STEP OR THE HEAD OF A REPEAT, AND THE REST
      pub steps_on : (at : ℕ) → rest_of (in_steps mesh sizes q) at
          ≡ ◌>>=◌ (item_read (depth_in q.frames) (length mesh) (length sizes) q.number file at) onward
      unfolding plain_at
      steps_on at = first h.steps file mesh sizes q.frames q.behind q.number q.ran q.largest at q.sharding ∙ go (is_repeat file at) refl
        where
          item : Judged StepsRead
          item = item_at every_kind mesh sizes file (depth_in q.frames) q.number at q.sharding

          plainly : (t : Judged (Read Step))
              → ◌>>=◌ (◌>>=◌ t (λ (t : Read Step). ◌>>=◌ (judge_step mesh sizes q.number t.value q.sharding) (λ (s : Sharding).
              accept (record { records = plain t.value ∷ []; steps = t.value ∷ []; sharding = s; next = t.next })))) done
              ≡ ◌>>=◌ (◌>>=◌ t (λ (t : Read Step). accept (record { value = takes t.value; next = t.next }))) onward
          plainly (accept t) = bind_assoc (judge_step mesh sizes q.number t.value q.sharding) _ _ ∙ sym (plain-on t.value t.next)
          plainly (refuse a k) = refl

          headed : (a : Judged Head) → head_at (depth_in q.frames) q.number file (at + 1) ≡ a
              → ◌>>=◌ (◌>>=◌ a (λ (a : Head). ◌>>=◌ (steps_at (item_at every_kind mesh sizes file (depth_in q.frames - 1)) a.number (q.number + 1) (at + 1 + 2) q.sharding)
              (ended mesh sizes file (depth_in q.frames) q.number (at + 1) q.sharding a.count a.number))) done
              ≡ ◌>>=◌ (◌>>=◌ (◌>>=◌ a (λ (a : Head). accept (record { value = a; next = at + 1 + 2 }))) (λ (a : Read Head). accept (record { value = opens a.value; next = a.next }))) onward
          headed (accept a) e =
              let f : HeadFacts (depth_in q.frames) file (at + 1) a.count a.number = head-facts (depth_in q.frames) q.number file (at + 1) e in
              sym (block_on a (at + 1) f.count_some f.number_some)
          headed (refuse a k) e = refl

          go : (b : Bool) → is_repeat file at ≡ b
              → ◌>>=◌ item done ≡ ◌>>=◌ (item_of (depth_in q.frames) (length mesh) (length sizes) q.number b file at) onward
          go true e =
              ap (λ (j : Judged StepsRead). ◌>>=◌ j done)
              (item-repeat mesh sizes file (depth_in q.frames) q.number at q.sharding e ∙ by-head mesh sizes file (depth_in q.frames) q.number (at + 1) q.sharding)
              ∙ headed (head_at (depth_in q.frames) q.number file (at + 1)) refl
              ∙ ap (λ (j : Judged (Read Head)). ◌>>=◌ (◌>>=◌ j (λ (a : Read Head). accept (record { value = opens a.value; next = a.next }))) onward)
              (sym (head_read (depth_in q.frames) q.number file (at + 1)))
          go false e =
              ap (λ (j : Judged StepsRead). ◌>>=◌ j done) (item-plain mesh sizes file (depth_in q.frames) q.number at q.sharding e)
              ∙ plainly (step_at (length mesh) (length sizes) q.number file at)

-- ---- what stands before the steps

-- a test that fails or passes stands before both
pub after-need : {A B : Type 0} (b : Bool) (n : ℕ) (j : Judged A) (f : A → Judged B) → ◌>>=◌ (◌>>◌ (need b n) j) f ≡ ◌>>◌ (need b n) (◌>>=◌ j f)
after-need true n j f = refl
after-need false n j f = refl

module _ (head file : List ℕ) where
  abbrev h : Header
  h = numbers_of head

  abbrev rest : ℕ → Phase → Judged CheckAnswer
  rest at p = rest_of h file p at

  -- THE STARTING SHARDING, AND THE REST
  pub start-on : (mesh sizes : List ℕ) (at : ℕ) → rest_of h file (in_the_start mesh sizes) at
      ≡ ◌>>=◌ (sharding_at (carries_replicated (edition head)) (axis_count head) (rank_count head) at file at)
      (λ r. ◌>>=◌ (after_start head r.next mesh sizes r.value) (rest r.next))
  unfolding after_start
  start-on mesh sizes at = bind-same (sharding_at (carries_replicated (edition head)) (axis_count head) (rank_count head) at file at) _ _ (λ r e.
      sym (after-need (eqb (steps_offset head) r.next) 6 _ _
      ∙ ap (◌>>◌ (need (eqb (steps_offset head) r.next) 6)) (go r.value r.next (judge_opening (edition head) mesh sizes r.value))))
    where
      go : (s : Sharding) (end : ℕ) (j : Judged (Unit {0}))
          → ◌>>=◌ (◌>>◌ j (accept (outermost mesh sizes (step_count head) 0 1 (shard_words mesh sizes s) s))) (rest end)
          ≡ ◌>>◌ j (outer_rest (step_count head) file mesh sizes (step_count head) 1 0 (shard_words mesh sizes s) end s)
      go s end (accept t) = outermost-on h file mesh sizes (step_count head) 0 1 (shard_words mesh sizes s) end s (omega arith)
      go s end (refuse a k) = refl

  -- THE SIZES OF THE TABLE, AND THE REST
  pub table_on : (mesh : List ℕ) (at : ℕ) → rest_of h file (in_table mesh) at
      ≡ ◌>>=◌ (sizes_at most_words 12 13 (rank_count head) at file at) (λ r. ◌>>=◌ (past_table head r.next mesh r.value) (rest r.next))
  unfolding past_table
  table_on mesh at = bind-same (sizes_at most_words 12 13 (rank_count head) at file at) _ _ (λ r e.
      sym (after-need (eqb (sharding_offset head) r.next) 6 (accept (in_the_start mesh r.value)) (rest r.next)))

  table-from : (mesh : List ℕ) (at : ℕ) → ◌>>=◌ (to_table head at mesh) (rest at) ≡ table_from h file mesh at
  table-from mesh at = after-need (eqb (tensor_offset head) at) 6 (accept (in_table mesh)) (rest at)

  -- A NUMBER OF THE ORDER, AND THE REST
  pub number-on : (mesh : List ℕ) (t : Numbers) (at : ℕ) → t.count < devices mesh → rest_of h file (in_the_order mesh t) at
      ≡ ◌>>=◌ (number_at file at) (λ r. ◌>>=◌ (after_number head r.next mesh t r.value) (rest r.next))
  unfolding after_number
  number-on mesh t at l = ap (λ (k : ℕ). left k (tab k numbers)) whole ∙ go (dec_lt (length file) (at + 2)) (devices mesh - t.count - 1) whole
      ∙ sym (after-need (leb (at + 2) (length file)) 7 (accept (record { value = u16_at file at; next = at + 2 })) _)
    where
      numbers : ℕ → ℕ
      numbers i = u16_at file (at + 2 * i)

      whole : devices mesh - t.count ≡ suc (devices mesh - t.count - 1)
      whole = omega arith

      left : ℕ → List ℕ → Judged CheckAnswer
      left k l = ◌>>◌ (need (leb (at + 2 * k) (length file)) 7) (◌>>◌ (need (ordered (devices mesh) t l) 19) (table_from h file mesh (at + 2 * k)))

      then : Judged CheckAnswer
      then = ◌>>=◌ (order_then (ltb (t.count + 1) (devices mesh)) head (at + 2) mesh (counted (devices mesh) t (u16_at file at))) (rest (at + 2))

      go : Dec (length file < at + 2) → (m : ℕ) → devices mesh - t.count ≡ suc m → left (suc m) (tab (suc m) numbers) ≡ ◌>>◌ (need (leb (at + 2) (length file)) 7) then
      go (yes s) m e = rw (lt-leb (at + 2 * suc m) (length file) (omega arith), lt-leb (at + 2) (length file) s) refl
      go (no s) zero e =
          let z : at + 0 ≡ at = omega arith in
          let last : ltb (t.count + 1) (devices mesh) ≡ false = le-ltb (t.count + 1) (devices mesh) (omega (arith, e)) in
          let turn : then ≡ ◌>>◌ (need (ordered (devices mesh) t (u16_at file at ∷ [])) 19) (table_from h file mesh (at + 2)) =
          ap (λ (b : Bool). ◌>>=◌ (order_then b head (at + 2) mesh (counted (devices mesh) t (u16_at file at))) (rest (at + 2))) last
          ∙ after-need (ordered (devices mesh) t (u16_at file at ∷ [])) 19 (to_table head (at + 2) mesh) (rest (at + 2))
          ∙ ap (◌>>◌ (need (ordered (devices mesh) t (u16_at file at ∷ [])) 19)) (table-from mesh (at + 2)) in
          ap (◌>>◌ (need (leb (at + 2) (length file)) 7))
          (ap (λ (k : ℕ). ◌>>◌ (need (ordered (devices mesh) t (u16_at file k ∷ [])) 19) (table_from h file mesh (at + 2))) z ∙ sym turn)
      go (no s) (suc m) e =
          let z : at + 2 * 0 ≡ at = omega arith in
          let more : ltb (t.count + 1) (devices mesh) ≡ true = lt-ltb (t.count + 1) (devices mesh) (omega (arith, e)) in
          let left_over : suc m ≡ devices mesh - (t.count + 1) = omega (arith, e) in
          let end : at + 2 * suc (suc m) ≡ at + 2 + 2 * (devices mesh - (t.count + 1)) = omega (arith, e) in
          let o : ordered (devices mesh) t (tab (suc (suc m)) numbers)
          ≡ ordered (devices mesh) (counted (devices mesh) t (u16_at file at)) (tab (devices mesh - (t.count + 1)) (λ i. u16_at file (at + 2 + 2 * i))) =
          ap (ordered (devices mesh) t) (tab-first (suc m) numbers)
          ∙ ap₂ (λ (k : ℕ) (l : List ℕ). ordered (devices mesh) (counted (devices mesh) t (u16_at file k)) l) z
          (tab-cong (suc m) (λ i. numbers (suc i)) (λ i. u16_at file (at + 2 + 2 * i)) (λ i b. let k : at + 2 * suc i ≡ at + 2 + 2 * i = omega arith in ap (u16_at file) k)
          ∙ ap (λ (k : ℕ). tab k (λ i. u16_at file (at + 2 + 2 * i))) left_over) in
          (λ i. ◌>>◌ (need (leb (end i) (length file)) 7) (◌>>◌ (need (o i) 19) (table_from h file mesh (end i))))
          ∙ sym (ap (λ (b : Bool). ◌>>◌ (need b 7) then) (le-leb (at + 2) (length file) (omega (arith, s)))
          ∙ ap (λ (b : Bool). ◌>>=◌ (order_then b head (at + 2) mesh (counted (devices mesh) t (u16_at file at))) (rest (at + 2))) more)

  -- THE SIZES OF THE MESH, AND THE REST
  pub mesh-on : (at : ℕ) → rest_of h file in_mesh at
      ≡ ◌>>=◌ (sizes_at most_devices 10 11 (axis_count head) at file at) (λ r. ◌>>=◌ (after_mesh head r.next r.value) (rest r.next))
  unfolding after_mesh order_at
  mesh-on at = bind-same (sizes_at most_devices 10 11 (axis_count head) at file at) _ _ (λ r e.
      go (carries_order (edition head)) r.value r.next
      (omega (arith, (section-facts most_devices 10 11 (axis_count head) at file at r (lit≤ tt) e).sizes.few)))
    where
      go : (carried : Bool) (mesh : List ℕ) (end : ℕ) → devices mesh ≤ most_devices
          → ◌>>=◌ (order_at carried (devices mesh) file end) (λ (o : Read (List ℕ)). table_from h file mesh o.next)
          ≡ ◌>>=◌ (mesh_then carried head end mesh) (rest end)
      go false mesh end few = sym (table-from mesh end)
      go true mesh end few =
          let d : devices mesh ≡ devices mesh - 0 = omega arith in
          let f : ℕ → ℕ = λ i. u16_at file (end + 2 * i) in
          let o : order_allowed (devices mesh) (tab (devices mesh) f) ≡ ordered (devices mesh) no_numbers (tab (devices mesh - 0) f) =
          sym (ordered-is (devices mesh) (tab (devices mesh) f) few (length-tab (devices mesh) f)) ∙ ap (λ (m : ℕ). ordered (devices mesh) no_numbers (tab m f)) d in
          after-need (leb (end + 2 * devices mesh) (length file)) 7 _ _
          ∙ ap (◌>>◌ (need (leb (end + 2 * devices mesh) (length file)) 7)) (after-need (order_allowed (devices mesh) (tab (devices mesh) f)) 19 _ _)
          ∙ (λ i. ◌>>◌ (need (leb (end + 2 * d i) (length file)) 7) (◌>>◌ (need (o i) 19) (table_from h file mesh (end + 2 * d i))))
