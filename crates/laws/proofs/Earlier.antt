-- Steps as a reader reads them that knows fewer kinds: 20 at the first step of a kind that it does not know, inside blocks too, and all else as the
-- reader reads them that knows more (`outermost-meets`, `outermost-keeps`). Assumes nothing.
use Prim.Native.Nat.{ℕ, zero, suc, ◌+◌, ◌*◌}
use mathlib.Core.Path.{◌≡◌, refl, sym, ap, ◌∙◌, subst}
use mathlib.Core.Bool.{Bool, true, false}
use mathlib.Core.List.{List, [], ◌∷◌, ◌++◌}
use native.Mathlib.Omega.{arith}
use lib.ListN.{length, get_or, replicate}
use lib.Dec.{T, ltb, leb, eqb, eqb→eq}
use Rattle.rules.specs.Lists.{pick, flat}
use Rattle.rules.specs.Sharding.{Sharding}
use Rattle.rules.specs.Collectives.{Step}
use Rattle.rules.specs.Limits.{most_run, most_depth}
use Rattle.rules.specs.Refusals.{Judged, accept, refuse, ◌>>=◌, ◌>>◌, need_at}
use Rattle.rules.specs.PlanFile.{
  Read,
  list_read_at,
  lists_at,
  kind_of,
  lists_of,
  step_at,
  judge_step,
  Record,
  plain,
  repeat,
  kind_byte,
  StepsRead,
  JudgesStep,
  JudgesSteps,
  steps_at,
  plain_at,
  positive_at,
  same_sharding,
  repeat_at,
  is_repeat,
  item_with,
  too_deep,
  item_at,
  Outermost,
  outermost_at,
  AllSlice,
  AllGather,
  AllReduce,
  AllToAll,
  ReduceScatter,
  Unknown,
}
use Rattle.laws.specs.Readers.{kinds_known}
use Rattle.laws.proofs.Lists.{T→true}
use Rattle.laws.proofs.Judging.{never, accept-inj, need-inv, bind_inv, then-assoc}

-- tests, and then what follows
then-bind : {A B : Type 0} (t : Judged (Unit {0})) (a : A) (f : A → Judged B) → ◌>>=◌ (◌>>◌ t (accept a)) f ≡ ◌>>◌ t (f a)
then-bind (accept x) a f = refl
then-bind (refuse n k) a f = refl

past : {A : Type 0} (k : ℕ) (b : Bool) (n : ℕ) {m : Judged A} → T b → ◌>>◌ (need_at k b n) m ≡ m
past {A = A} k false n {m = m} t = elim t [ ]
past k true n t = refl

bind-at : {A B : Type 0} {m : Judged A} {a : A} (f : A → Judged B) → m ≡ accept a → ◌>>=◌ m f ≡ f a
bind-at {A} f e = ap (λ (j : Judged A). ◌>>=◌ j f) e

-- ---- the kind byte that a step is read from

module _ (n rank k : ℕ) (file : List ℕ) (at b : ℕ) (t : Read Step) where
  -- it is one of five
  by_byte : (c1 c2 c3 c4 c5 : Bool) → eqb b 1 ≡ c1 → eqb b 2 ≡ c2 → eqb b 3 ≡ c3 → eqb b 4 ≡ c4 → eqb b 5 ≡ c5
      → lists_of n rank k file at (pick c1 AllSlice (pick c2 AllGather (pick c3 AllReduce (pick c4 AllToAll (pick c5 ReduceScatter Unknown))))) ≡ accept t
      → kind_byte (plain t.value) ≡ b
  unfolding lists_of
  by_byte true c2 c3 c4 c5 e1 e2 e3 e4 e5 e =
      let a = bind_inv (lists_at n rank file at) _ t e in
      sym (ap (λ (r : Read Step). kind_byte (plain r.value)) (accept-inj a.2)) ∙ sym (eqb→eq b 1 (subst T (sym e1) tt))
  by_byte false true c3 c4 c5 e1 e2 e3 e4 e5 e =
      let a = bind_inv (lists_at n rank file at) _ t e in
      sym (ap (λ (r : Read Step). kind_byte (plain r.value)) (accept-inj a.2)) ∙ sym (eqb→eq b 2 (subst T (sym e2) tt))
  by_byte false false true c4 c5 e1 e2 e3 e4 e5 e =
      let a = bind_inv (list_read_at n file at) _ t e in
      sym (ap (λ (r : Read Step). kind_byte (plain r.value)) (accept-inj a.2)) ∙ sym (eqb→eq b 3 (subst T (sym e3) tt))
  by_byte false false false true c5 e1 e2 e3 e4 e5 e =
      let q = need-inv 0 (leb (at + 2) (length file)) 7 _ t e in
      let a = bind_inv (list_read_at n file (at + 2)) _ t q.1 in
      sym (ap (λ (r : Read Step). kind_byte (plain r.value)) (accept-inj a.2)) ∙ sym (eqb→eq b 4 (subst T (sym e4) tt))
  by_byte false false false false true e1 e2 e3 e4 e5 e =
      let a = bind_inv (lists_at n rank file at) _ t e in
      sym (ap (λ (r : Read Step). kind_byte (plain r.value)) (accept-inj a.2)) ∙ sym (eqb→eq b 5 (subst T (sym e5) tt))
  by_byte false false false false false e1 e2 e3 e4 e5 e = absurd (never e)

  kind-is : lists_of n rank k file at (kind_of b) ≡ accept t → kind_byte (plain t.value) ≡ b
  kind-is e = by_byte (eqb b 1) (eqb b 2) (eqb b 3) (eqb b 4) (eqb b 5) refl refl refl refl refl e

module _ (mesh sizes file : List ℕ) where
  -- the record of what stands at a kind byte, and those inside it
  pub record Begins (at : ℕ) (w : StepsRead) : Type 0 where
    pub first : Record
    pub rest : List Record
    pub records-are : w.records ≡ first ∷ rest
    pub kind-byte : kind_byte first ≡ get_or file at 0

  plain-begins : (k at : ℕ) (s : Sharding) (w : StepsRead) → plain_at mesh sizes file k at s ≡ accept w
      → (t : Step) × (w.records ≡ plain t ∷ []) × (kind_byte (plain t) ≡ get_or file at 0)
  unfolding plain_at step_at
  plain-begins k at s w e =
      let p = bind_inv (step_at (length mesh) (length sizes) k file at) _ w e in
      let q = bind_inv (judge_step mesh sizes k p.0.value s) _ w p.2 in
      let r = need-inv 0 (ltb at (length file)) 7 _ p.0 p.1 in (
        p.0.value,
        ap (λ (z : StepsRead). z.records) (sym (accept-inj q.2)),
        kind-is (length mesh) (length sizes) k file (at + 1) (get_or file at 0) p.0 r.1,
      )

  abbrev joins : StepsRead → StepsRead → StepsRead
  joins t ts = record {
    records = t.records ++ ts.records;
    steps = t.steps ++ ts.steps;
    sharding = ts.sharding;
    next = ts.next;
  }

  abbrev whole : StepsRead → Outermost → Outermost
  whole t ts = record {
    records = t.records ++ ts.records;
    steps = t.steps ++ ts.steps;
    runs = length t.steps ∷ ts.runs;
    next = ts.next;
  }

  -- what follows a repeat's count, its number and its block
  abbrev after_block : (k : ℕ) → Sharding → (count number : ℕ) → StepsRead → Judged StepsRead
  after_block k s count number block = do
    need_at k (same_sharding block.sharding s) 41
    need_at k (leb (count * length block.steps) most_run) 43
    accept (record {
      records = repeat count number ∷ block.records;
      steps = flat (replicate count block.steps);
      sharding = block.sharding;
      next = block.next;
    })

  abbrev after_number : JudgesSteps → (k at : ℕ) → Sharding → (count number : ℕ) → Judged StepsRead
  after_number inner k at s count number = ◌>>=◌ (inner number (k + 1) (at + 1 + 2) s) (after_block k s count number)

  abbrev after_count : JudgesSteps → (k at : ℕ) → Sharding → (count : ℕ) → Judged StepsRead
  after_count inner k at s count = ◌>>=◌ (positive_at k file (at + 1 + 1)) (after_number inner k at s count)

  -- ---- 20 at the first step of a kind that is not known

  module _ (known known' : ℕ → Bool) where
    kinds-append : (k : ℕ) (l m : List Record) → kinds_known known k (l ++ m) ≡ ◌>>◌ (kinds_known known k l) (kinds_known known (k + length l) m)
    kinds-append k [] m = let z : k ≡ k + 0 = omega arith in ap (λ (j : ℕ). kinds_known known j m) z
    kinds-append k (t ∷ l) m =
        let z : k + 1 + length l ≡ k + suc (length l) = omega arith in
        ap (◌>>◌ (need_at k (known (kind_byte t)) 20))
        (kinds-append (k + 1) l m ∙ ap (λ (j : ℕ). ◌>>◌ (kinds_known known (k + 1) l) (kinds_known known j m)) z)
        ∙ sym (then-assoc (need_at k (known (kind_byte t)) 20) (kinds_known known (k + 1) l) (kinds_known known (k + length (t ∷ l)) m))

    -- the one judgement is the other, but for 20
    abbrev Meets : (one two : JudgesStep) → Type 0
    Meets one two =
        (k at : ℕ) (s : Sharding) (w : StepsRead) → two k at s ≡ accept w → one k at s ≡ ◌>>◌ (kinds_known known k w.records) (accept w)

    -- the tests of two rows of records, one after the other
    rows-meet : {A : Type 0} (k : ℕ) (l m : List Record) (a : A)
        → ◌>>◌ (kinds_known known k l) (◌>>◌ (kinds_known known (k + length l) m) (accept a)) ≡ ◌>>◌ (kinds_known known k (l ++ m)) (accept a)
    rows-meet k l m a =
        sym (then-assoc (kinds_known known k l) (kinds_known known (k + length l) m) (accept a))
        ∙ ap (λ (j : Judged (Unit {0})). ◌>>◌ j (accept a)) (sym (kinds-append k l m))

    steps-meet : (one two : JudgesStep) → Meets one two → (count : ℕ) → Meets (steps_at one count) (steps_at two count)
    unfolding steps_at
    steps-meet one two g zero k at s w e = ap (λ (z : StepsRead). ◌>>◌ (kinds_known known k z.records) (accept z)) (accept-inj e)
    steps-meet one two g (suc count) k at s w e =
        let t = bind_inv (two k at s) _ w e in
        let u = bind_inv (steps_at two count (k + length t.0.records) t.0.next t.0.sharding) _ w t.2 in
        rw (g k at s t.0 t.1)
        (then-bind (kinds_known known k t.0.records) t.0 _
        ∙ ap (◌>>◌ (kinds_known known k t.0.records))
        (ap (λ (j : Judged StepsRead). ◌>>=◌ j (λ ts. accept (joins t.0 ts)))
        (steps-meet one two g count (k + length t.0.records) t.0.next t.0.sharding u.0 u.1)
        ∙ then-bind (kinds_known known (k + length t.0.records) u.0.records) u.0 (λ ts. accept (joins t.0 ts)))
        ∙ rows-meet k t.0.records u.0.records (joins t.0 u.0)
        ∙ ap (λ (z : StepsRead). ◌>>◌ (kinds_known known k z.records) (accept z)) (accept-inj u.2))

    -- a step or a repeat behind its own kind byte: the tests of what stands inside it
    abbrev Inside : (one : JudgesStep) → (k at : ℕ) → Sharding → StepsRead → Type 0
    Inside one k at s w = (b : Begins at w) × (one k at s ≡ ◌>>◌ (kinds_known known (k + 1) b.rest) (accept w))

    by-meets : (c : Bool) (inner inner' : JudgesSteps) → ((count : ℕ) → Meets (inner count) (inner' count)) → (k at : ℕ) (s : Sharding) (w : StepsRead)
        → is_repeat file at ≡ c → item_with c inner' mesh sizes file k at s ≡ accept w → Inside (item_with c inner mesh sizes file) k at s w
    unfolding item_with repeat_at
    by-meets false inner inner' g k at s w q e =
        let p = plain-begins k at s w e in
        (record { first = plain p.0; rest = []; records-are = p.1; kind-byte = p.2 }, e)
    by-meets true inner inner' g k at s w q e =
        let c = bind_inv (positive_at k file (at + 1)) (after_count inner' k at s) w e in
        let n = bind_inv (positive_at k file (at + 1 + 1)) (after_number inner' k at s c.0) w c.2 in
        let b = bind_inv (inner' n.0 (k + 1) (at + 1 + 2) s) (after_block k s c.0 n.0) w n.2 in
        let x = need-inv k (same_sharding b.0.sharding s) 41 _ w b.2 in
        let y = need-inv k (leb (c.0 * length b.0.steps) most_run) 43 _ w x.1 in
        let nine : get_or file at 0 ≡ 9 = eqb→eq (get_or file at 0) 9 (subst T (sym q) tt) in (
          record {
            first = repeat c.0 n.0;
            rest = b.0.records;
            records-are = ap (λ (z : StepsRead). z.records) (sym (accept-inj y.1));
            kind-byte = sym nine;
          },
          bind-at (after_count inner k at s) c.1 ∙ bind-at (after_number inner k at s c.0) n.1
              ∙ ap (λ (j : Judged StepsRead). ◌>>=◌ j (after_block k s c.0 n.0)) (g n.0 (k + 1) (at + 1 + 2) s b.0 b.1)
              ∙ then-bind (kinds_known known (k + 1) b.0.records) b.0 (after_block k s c.0 n.0)
              ∙ ap (◌>>◌ (kinds_known known (k + 1) b.0.records)) b.2,
        )

    -- and with the test of that byte
    with_byte : (one : JudgesStep) (k at : ℕ) (s : Sharding) (w : StepsRead) → Inside one k at s w
        → ◌>>◌ (need_at k (known (get_or file at 0)) 20) (one k at s) ≡ ◌>>◌ (kinds_known known k w.records) (accept w)
    with_byte one k at s w (b, e) =
        ap (◌>>◌ (need_at k (known (get_or file at 0)) 20)) e
        ∙ sym (then-assoc (need_at k (known (get_or file at 0)) 20) (kinds_known known (k + 1) b.rest) (accept w))
        ∙ ap (λ (j : ℕ). ◌>>◌ (◌>>◌ (need_at k (known j) 20) (kinds_known known (k + 1) b.rest)) (accept w)) (sym b.kind-byte)
        ∙ ap (λ (l : List Record). ◌>>◌ (kinds_known known k l) (accept w)) (sym b.records-are)

    item-meets : (depth : ℕ) → Meets (item_at known mesh sizes file depth) (item_at known' mesh sizes file depth)
    unfolding item_at
    item-meets zero k at s w e =
        let x = need-inv k (known' (get_or file at 0)) 20 _ w e in
        with_byte (item_with (is_repeat file at) (too_deep k) mesh sizes file) k at s w
        (by-meets (is_repeat file at) (too_deep k) (too_deep k) (λ count k' at' s' w' e'. absurd (never e')) k at s w refl x.1)
    item-meets (suc depth) k at s w e =
        let x = need-inv k (known' (get_or file at 0)) 20 _ w e in
        with_byte (item_with (is_repeat file at) (steps_at (item_at known mesh sizes file depth)) mesh sizes file) k at s w
        (by-meets (is_repeat file at) (steps_at (item_at known mesh sizes file depth)) (steps_at (item_at known' mesh sizes file depth))
        (steps-meet (item_at known mesh sizes file depth) (item_at known' mesh sizes file depth) (item-meets depth)) k at s w refl x.1)

    pub outermost-meets : (ran count k at : ℕ) (s : Sharding) (w : Outermost) → outermost_at known' mesh sizes file ran count k at s ≡ accept w
        → outermost_at known mesh sizes file ran count k at s ≡ ◌>>◌ (kinds_known known k w.records) (accept w)
    unfolding outermost_at
    outermost-meets ran zero k at s w e = ap (λ (z : Outermost). ◌>>◌ (kinds_known known k z.records) (accept z)) (accept-inj e)
    outermost-meets ran (suc count) k at s w e =
        let t = bind_inv (item_at known' mesh sizes file most_depth k at s) _ w e in
        let x = need-inv k (leb (ran + length t.0.steps) most_run) 43 _ w t.2 in
        let u = bind_inv (outermost_at known' mesh sizes file (ran + length t.0.steps) count (k + length t.0.records) t.0.next t.0.sharding) _ w x.1 in
        let ih = outermost-meets (ran + length t.0.steps) count (k + length t.0.records) t.0.next t.0.sharding u.0 u.1 in
        rw (item-meets most_depth k at s t.0 t.1)
        (then-bind (kinds_known known k t.0.records) t.0 _
        ∙ ap (◌>>◌ (kinds_known known k t.0.records))
        (past k (leb (ran + length t.0.steps) most_run) 43 x.0 ∙ ap (λ (j : Judged Outermost). ◌>>=◌ j (λ ts. accept (whole t.0 ts))) ih
        ∙ then-bind (kinds_known known (k + length t.0.records) u.0.records) u.0 (λ ts. accept (whole t.0 ts)))
        ∙ rows-meet k t.0.records u.0.records (whole t.0 u.0)
        ∙ ap (λ (z : Outermost). ◌>>◌ (kinds_known known k z.records) (accept z)) (accept-inj u.2))

  -- ---- what is read with fewer kinds is read with more

  module _ (known known' : ℕ → Bool) (few : (b : ℕ) → T (known b) → T (known' b)) where
    abbrev Keeps : (one two : JudgesStep) → Type 0
    Keeps one two = (k at : ℕ) (s : Sharding) (w : StepsRead) → one k at s ≡ accept w → two k at s ≡ accept w

    steps-keep : (one two : JudgesStep) → Keeps one two → (count : ℕ) → Keeps (steps_at one count) (steps_at two count)
    unfolding steps_at
    steps-keep one two g zero k at s w e = e
    steps-keep one two g (suc count) k at s w e =
        let t = bind_inv (one k at s) _ w e in
        let u = bind_inv (steps_at one count (k + length t.0.records) t.0.next t.0.sharding) _ w t.2 in
        rw (g k at s t.0 t.1, steps-keep one two g count (k + length t.0.records) t.0.next t.0.sharding u.0 u.1) u.2

    by-keeps : (c : Bool) (inner inner' : JudgesSteps) → ((count : ℕ) → Keeps (inner count) (inner' count))
        → Keeps (item_with c inner mesh sizes file) (item_with c inner' mesh sizes file)
    unfolding item_with repeat_at
    by-keeps false inner inner' g k at s w e = e
    by-keeps true inner inner' g k at s w e =
        let c = bind_inv (positive_at k file (at + 1)) (after_count inner k at s) w e in
        let n = bind_inv (positive_at k file (at + 1 + 1)) (after_number inner k at s c.0) w c.2 in
        let b = bind_inv (inner n.0 (k + 1) (at + 1 + 2) s) (after_block k s c.0 n.0) w n.2 in
        bind-at (after_count inner' k at s) c.1 ∙ bind-at (after_number inner' k at s c.0) n.1
        ∙ bind-at (after_block k s c.0 n.0) (g n.0 (k + 1) (at + 1 + 2) s b.0 b.1) ∙ b.2

    -- a kind byte that is known to the one
    passes : {A : Type 0} (k b : ℕ) (m m' : Judged A) (a : A) → (m ≡ accept a → m' ≡ accept a) → ◌>>◌ (need_at k (known b) 20) m ≡ accept a
        → ◌>>◌ (need_at k (known' b) 20) m' ≡ accept a
    passes k b m m' a g e =
        let x = need-inv k (known b) 20 m a e in
        rw (T→true (known' b) (few b x.0)) (g x.1)

    item-keeps : (depth : ℕ) → Keeps (item_at known mesh sizes file depth) (item_at known' mesh sizes file depth)
    unfolding item_at
    item-keeps zero k at s w e =
        passes k (get_or file at 0) _ _ w (by-keeps (is_repeat file at) (too_deep k) (too_deep k) (λ count k' at' s' w' e'. e') k at s w) e
    item-keeps (suc depth) k at s w e =
        passes k (get_or file at 0) _ _ w
        (by-keeps (is_repeat file at) (steps_at (item_at known mesh sizes file depth)) (steps_at (item_at known' mesh sizes file depth))
        (steps-keep (item_at known mesh sizes file depth) (item_at known' mesh sizes file depth) (item-keeps depth)) k at s w) e

    pub outermost-keeps : (ran count k at : ℕ) (s : Sharding) (w : Outermost) → outermost_at known mesh sizes file ran count k at s ≡ accept w
        → outermost_at known' mesh sizes file ran count k at s ≡ accept w
    unfolding outermost_at
    outermost-keeps ran zero k at s w e = e
    outermost-keeps ran (suc count) k at s w e =
        let t = bind_inv (item_at known mesh sizes file most_depth k at s) _ w e in
        let x = need-inv k (leb (ran + length t.0.steps) most_run) 43 _ w t.2 in
        let u = bind_inv (outermost_at known mesh sizes file (ran + length t.0.steps) count (k + length t.0.records) t.0.next t.0.sharding) _ w x.1 in
        let ih = outermost-keeps (ran + length t.0.steps) count (k + length t.0.records) t.0.next t.0.sharding u.0 u.1 in
        rw (item-keeps most_depth k at s t.0 t.1, T→true (leb (ran + length t.0.steps) most_run) x.0, ih) u.2
