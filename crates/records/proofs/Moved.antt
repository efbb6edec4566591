-- Steps that stand in a file from a place on are read and judged as they are by themselves, each place so much further on (`outermost-moved`). Assumes
-- nothing.
use Prim.Native.Nat.{ℕ, zero, suc, ◌+◌}
use mathlib.Core.Path.{◌≡◌, refl, sym, ap, ◌∙◌}
use mathlib.Core.Bool.{Bool, true, false}
use mathlib.Core.List.{List}
use native.Mathlib.Omega.{arith}
use lib.ListN.{length, get_or, drop}
use lib.Dec.{T, ltb, leb, eqb, ltb→lt, lt→ltb, leb→le, le→leb}
use Rattle.rules.specs.Sharding.{Sharding}
use Rattle.rules.specs.Limits.{most_run, most_depth}
use Rattle.rules.specs.Refusals.{Judged, accept, refuse, ◌>>=◌, ◌>>◌, need_at}
use Rattle.rules.specs.PlanFile.{Read, list_read_at, lists_at, kind_of, lists_of, step_at, judge_step, StepsRead, JudgesStep, JudgesSteps, steps_at, plain_at, positive_at, repeat_at, is_repeat, item_with, too_deep, item_at, Outermost, outermost_at, Kind, AllSlice, AllGather, AllReduce, AllToAll, ReduceScatter, Unknown}
use Rattle.records.proofs.Places.{From, from-length, from_at, from-drop}

-- ---- a judgement of another value

abbrev pub judged_by : {A B : Type 0} → (A → B) → Judged A → Judged B
judged_by f (accept a) = accept (f a)
judged_by f (refuse n k) = refuse n k

pub by-then : {A B C : Type 0} (f : B → C) (t : Judged A) (m : Judged B) → judged_by f (◌>>◌ t m) ≡ ◌>>◌ t (judged_by f m)
by-then f (accept a) m = refl
by-then f (refuse n k) m = refl

pub by-bind : {A B C : Type 0} (f : B → C) (m : Judged A) (g : A → Judged B) → judged_by f (◌>>=◌ m g) ≡ ◌>>=◌ m (λ a. judged_by f (g a))
by-bind f (accept a) g = refl
by-bind f (refuse n k) g = refl

pub bind-by : {A B C : Type 0} (f : A → B) (m : Judged A) (g : B → Judged C) → ◌>>=◌ (judged_by f m) g ≡ ◌>>=◌ m (λ a. g (f a))
bind-by f (accept a) g = refl
bind-by f (refuse n k) g = refl

-- what follows is the same where it is the same for every value
pub bind-same : {A B : Type 0} (m : Judged A) (f g : A → Judged B) → ((a : A) → f a ≡ g a) → ◌>>=◌ m f ≡ ◌>>=◌ m g
bind-same (accept a) f g h = h a
bind-same (refuse n k) f g h = refl

then_same : {A B : Type 0} (t : Judged A) {m l : Judged B} → m ≡ l → ◌>>◌ t m ≡ ◌>>◌ t l
then_same t e = ap (◌>>◌ t) e

same_test : (a b : Bool) → (T a → T b) → (T b → T a) → a ≡ b
same_test true true f g = refl
same_test false false f g = refl
same_test true false f g = absurd (f tt)
same_test false true f g = absurd (g tt)

-- ---- places further on

abbrev further : {A : Type 0} → ℕ → Read A → Read A
further d r = record { value = r.value; next = d + r.next }

abbrev pub steps_further : ℕ → StepsRead → StepsRead
steps_further d w = record { records = w.records; steps = w.steps; sharding = w.sharding; next = d + w.next }

abbrev pub outermost_further : ℕ → Outermost → Outermost
outermost_further d o = record { records = o.records; steps = o.steps; runs = o.runs; next = d + o.next }

module _ (d : ℕ) (file tail : List ℕ) (from : From d file tail) where
  lt-moved : (i : ℕ) → ltb (d + i) (length file) ≡ ltb i (length tail)
  lt-moved i =
      same_test (ltb (d + i) (length file)) (ltb i (length tail))
      (λ t. lt→ltb i (length tail) (omega (arith, ltb→lt (d + i) (length file) t, from-length d file tail from)))
      (λ t. lt→ltb (d + i) (length file) (omega (arith, ltb→lt i (length tail) t, from-length d file tail from)))

  le-moved : (i : ℕ) → leb (d + i) (length file) ≡ leb i (length tail)
  le-moved i =
      same_test (leb (d + i) (length file)) (leb i (length tail))
      (λ t. le→leb i (length tail) (omega (arith, leb→le (d + i) (length file) t, from-length d file tail from)))
      (λ t. le→leb (d + i) (length file) (omega (arith, leb→le i (length tail) t, from-length d file tail from)))

  byte : (i : ℕ) → get_or file (d + i) 0 ≡ get_or tail i 0
  byte i = from_at d file tail from i

  -- ---- lists

  module _ (n : ℕ) where
    list-moved : (i : ℕ) → list_read_at n file (d + i) ≡ judged_by (further d) (list_read_at n tail i)
    unfolding list_read_at
    list-moved i =
        let b : ℕ = get_or tail i 0 in
        let next : d + i + 1 + b ≡ d + (i + 1 + b) = omega arith in
        let behind : d + i + 1 ≡ d + (i + 1) = omega arith in
        let axes : drop (d + (i + 1)) file ≡ drop (i + 1) tail = from-drop d file tail from (i + 1) in
        rw (lt-moved i, byte i, next, le-moved (i + 1 + b), behind, axes) (simp by-then)

    lists-moved : (rank i : ℕ) → lists_at n rank file (d + i) ≡ judged_by (further d) (lists_at n rank tail i)
    unfolding lists_at
    lists-moved zero i = refl
    lists-moved (suc rank) i =
        rw (list-moved i, bind-by)
        (bind-same (list_read_at n tail i) _ _ (λ l. rw (lists-moved rank l.next, bind-by, by-bind) refl) ∙ sym (by-bind (further d) (list_read_at n tail i) _))

    -- ---- steps

    kind-moved : (rank k i : ℕ) (kind : Kind) → lists_of n rank k file (d + i) kind ≡ judged_by (further d) (lists_of n rank k tail i kind)
    unfolding lists_of
    kind-moved rank k i AllSlice = rw (lists-moved rank i, bind-by, by-bind) refl
    kind-moved rank k i AllGather = rw (lists-moved rank i, bind-by, by-bind) refl
    kind-moved rank k i AllReduce = rw (list-moved i, bind-by, by-bind) refl
    kind-moved rank k i AllToAll =
        let two : d + i + 2 ≡ d + (i + 2) = omega arith in
        let one : d + i + 1 ≡ d + (i + 1) = omega arith in
        rw (two, le-moved (i + 2), list-moved (i + 2), bind-by, by-then, by-bind, byte i, one, byte (i + 1)) refl
    kind-moved rank k i ReduceScatter = rw (lists-moved rank i, bind-by, by-bind) refl
    kind-moved rank k i Unknown = refl

    step-moved : (rank k i : ℕ) → step_at n rank k file (d + i) ≡ judged_by (further d) (step_at n rank k tail i)
    unfolding step_at
    step-moved rank k i =
        let one : d + i + 1 ≡ d + (i + 1) = omega arith in
        rw (lt-moved i, byte i, one, kind-moved rank k (i + 1) (kind_of (get_or tail i 0)), by-then) refl

  positive-moved : (k i : ℕ) → positive_at k file (d + i) ≡ positive_at k tail i
  unfolding positive_at
  positive-moved k i = rw (lt-moved i, byte i) refl

  -- two judgements of steps, of the file and of the tail alone
  abbrev Moved : (one other : JudgesStep) → Type 0
  Moved one other = (k i : ℕ) (s : Sharding) → one k (d + i) s ≡ judged_by (steps_further d) (other k i s)

  steps-moved : (one other : JudgesStep) → Moved one other → (count : ℕ) → Moved (steps_at one count) (steps_at other count)
  unfolding steps_at
  steps-moved one other h zero k i s = refl
  steps-moved one other h (suc count) k i s =
      rw (h k i s, bind-by)
      (bind-same (other k i s) _ _ (λ t. rw (steps-moved one other h count (k + length t.records) t.next t.sharding, bind-by, by-bind) refl)
      ∙ sym (by-bind (steps_further d) (other k i s) _))

  module _ (mesh sizes : List ℕ) where
    plain_moved : Moved (plain_at mesh sizes file) (plain_at mesh sizes tail)
    unfolding plain_at
    plain_moved k i s =
        rw (step-moved (length mesh) (length sizes) k i, bind-by)
        (bind-same (step_at (length mesh) (length sizes) k tail i) _ _ (λ t. sym (by-bind (steps_further d) (judge_step mesh sizes k t.value s) _))
        ∙ sym (by-bind (steps_further d) (step_at (length mesh) (length sizes) k tail i) _))

    repeat-moved : (inner other : JudgesSteps) → ((count : ℕ) → Moved (inner count) (other count)) → Moved (repeat_at inner file) (repeat_at other tail)
    unfolding repeat_at
    repeat-moved inner other h k i s =
        let one : d + i + 1 ≡ d + (i + 1) = omega arith in
        let two : d + i + 2 ≡ d + (i + 2) = omega arith in
        rw (positive-moved k i, one, positive-moved k (i + 1), two)
        (bind-same (positive_at k tail i) _ _ (λ count.
        bind-same (positive_at k tail (i + 1)) _ _ (λ number.
        rw (h number (k + 1) (i + 2) s, bind-by)
        (bind-same (other number (k + 1) (i + 2) s) _ _ (λ block. simp by-then refl)
        ∙ sym (by-bind (steps_further d) (other number (k + 1) (i + 2) s) _)))
        ∙ sym (by-bind (steps_further d) (positive_at k tail (i + 1)) _))
        ∙ sym (by-bind (steps_further d) (positive_at k tail i) _))

    by-moved : (b : Bool) (inner other : JudgesSteps) → ((count : ℕ) → Moved (inner count) (other count))
        → Moved (item_with b inner mesh sizes file) (item_with b other mesh sizes tail)
    unfolding item_with
    by-moved false inner other h k i s = plain_moved k i s
    by-moved true inner other h k i s =
        let one : d + i + 1 ≡ d + (i + 1) = omega arith in
        ap (λ (at : ℕ). repeat_at inner file k at s) one ∙ repeat-moved inner other h k (i + 1) s

    item-moved : (known : ℕ → Bool) (depth : ℕ) → Moved (item_at known mesh sizes file depth) (item_at known mesh sizes tail depth)
    unfolding item_at
    item-moved known zero k i s =
        ap (λ (b : ℕ). ◌>>◌ (need_at k (known b) 20) (item_with (eqb b 9) (too_deep k) mesh sizes file k (d + i) s)) (byte i)
        ∙ ap (◌>>◌ (need_at k (known (get_or tail i 0)) 20)) (by-moved (is_repeat tail i) (too_deep k) (too_deep k) (λ count k' i' s'. refl) k i s)
        ∙ sym (by-then (steps_further d) (need_at k (known (get_or tail i 0)) 20) _)
    item-moved known (suc depth) k i s =
        ap (λ (b : ℕ). ◌>>◌ (need_at k (known b) 20) (item_with (eqb b 9) (steps_at (item_at known mesh sizes file depth)) mesh sizes file k (d + i) s)) (byte i)
        ∙ ap (◌>>◌ (need_at k (known (get_or tail i 0)) 20))
        (by-moved (is_repeat tail i) (steps_at (item_at known mesh sizes file depth)) (steps_at (item_at known mesh sizes tail depth))
        (steps-moved (item_at known mesh sizes file depth) (item_at known mesh sizes tail depth) (item-moved known depth)) k i s)
        ∙ sym (by-then (steps_further d) (need_at k (known (get_or tail i 0)) 20) _)

    -- THE STEPS BY THEMSELVES
    pub outermost-moved : (known : ℕ → Bool) (ran count k i : ℕ) (s : Sharding)
        → outermost_at known mesh sizes file ran count k (d + i) s ≡ judged_by (outermost_further d) (outermost_at known mesh sizes tail ran count k i s)
    unfolding outermost_at
    outermost-moved known ran zero k i s = refl
    outermost-moved known ran (suc count) k i s =
        rw (item-moved known most_depth k i s, bind-by)
        (bind-same (item_at known mesh sizes tail most_depth k i s) _ _ (λ t.
        then_same (need_at k (leb (ran + length t.steps) most_run) 43)
        (rw (outermost-moved known (ran + length t.steps) count (k + length t.records) t.next t.sharding, bind-by, by-bind) refl)
        ∙ sym (by-then (outermost_further d) (need_at k (leb (ran + length t.steps) most_run) 43) _))
        ∙ sym (by-bind (outermost_further d) (item_at known mesh sizes tail most_depth k i s) _))
