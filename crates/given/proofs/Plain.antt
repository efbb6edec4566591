-- A record by itself: what it gives, repeat or plain step, and a plain one judged (`form-stops`, `step-stops`, `plain-is`). Assumes nothing.
use Prim.Native.Nat.{ℕ, ◌+◌, ◌*◌, ◌≤◌, ◌<◌}
use mathlib.Core.Path.{◌≡◌, refl, sym, ap, ◌∙◌, subst}
use mathlib.Core.Bool.{Bool, true, false}
use mathlib.Core.List.{List, [], ◌∷◌}
use native.Mathlib.Omega.{arith}
use native.Mathlib.Decide.{dec_lt}
use borrow.Author.Tests.{lt-ltb, le-ltb}
use lib.ListN.{length, get_or, drop}
use lib.Dec.{T, ltb, eqb, ltb→lt}
use Rattle.std.specs.Prelude.{Option, Some, None}
use Rattle.rules.specs.Lists.{pick}
use Rattle.rules.specs.Limits.{most_axes, most_dims}
use Rattle.rules.specs.Refusals.{Judged, accept, refuse, ◌>>=◌, ◌>>◌}
use Rattle.rules.specs.Sharding.{Sharding}
use Rattle.rules.specs.Collectives as rules
use Rattle.rules.specs.PlanFile.{plain, repeat, StepsRead, judge_step, plain_at, is_repeat}
use Rattle.types.specs.Types.{step_of}
use Rattle.types.specs.declared.Step.{Step}
use Rattle.types.specs.declared.Step.TheVariants.{AllSlice, AllGather, AllReduce, AllToAll, ReduceScatter}
use Rattle.types.specs.Answers.{refused_with}
use Rattle.types.specs.declared.Refusal.{Refusal}
use Rattle.laws.proofs.Lists.{T_and}
use Rattle.records.specs.Records.{Given, known, steps_bytes}
use Rattle.records.specs.Writing.{judge_counts, step_numbered}
use Rattle.records.specs.Forms.{list_given, record_bytes, record_count, step_record, step_given, given_kind, given_at, steps_given}
use Rattle.records.specs.RoundTrip.{Ranked, AllRanked}
use Rattle.records.proofs.Lists.{step_lists}
use Rattle.records.proofs.Records.{read_none, read_plain, read-unknown}
use Rattle.records.proofs.Numbers.{of-any, numbered-on, numbered-stops, renumbered, step-renumbered}
use Rattle.given.specs.Given.{lists_in, judge_form, repeat_here, place_of, summarized}
use Rattle.given.proofs.Counts.{list-fits, lists-fit, counts-inv}
use Rattle.given.proofs.Ends.{ranked-drop}
use Rattle.encode.proofs.Counting.{record-here, record-none}
use Rattle.encode.proofs.Accepted.{given-ranked}

-- ---- the refusal of a record

pub at-record : {A : Type 0} (x : Refusal) (n k : ℕ) → refused_with {A = Unit {0}} x ≡ step_numbered (refuse n k) → step_numbered {A = A} (refuse n k) ≡ refused_with x
at-record x n k e = numbered-stops {A = Unit {0}} (refuse n k) (refuse n k) (λ m i q. of-any q) (sym e)

-- ---- what a record gives

module _ (steps : List ℕ) (i : ℕ) where
  pub past_all : record_count steps ≤ i → false ≡ repeat_here steps i
  past_all h = rw (le-ltb i (record_count steps) h) refl

  pub by_kind : i < record_count steps → eqb (get_or steps (record_bytes * i) 0) 9 ≡ repeat_here steps i
  by_kind h = rw (lt-ltb i (record_count steps) h) refl

  pub repeat-inside : repeat_here steps i ≡ true → i < record_count steps
  repeat-inside e =
      let t : T (repeat_here steps i) = subst T (sym e) tt in
      ltb→lt i (record_count steps) (T_and (ltb i (record_count steps)) (eqb (get_or steps (record_bytes * i) 0) 9) t).0

  pub gives-repeat : (rank : ℕ) → repeat_here steps i ≡ true
      → drop i (steps_given rank steps)
      ≡ known (repeat (get_or steps (record_bytes * i + 1) 0) (get_or steps (record_bytes * i + 2) 0)) ∷ drop (i + 1) (steps_given rank steps)
  unfolding given_at
  gives-repeat rank e =
      let h = repeat-inside e in
      record-here rank steps i h
      ∙ ap (λ (b : Bool). pick b (known (repeat (get_or steps (record_bytes * i + 1) 0) (get_or steps (record_bytes * i + 2) 0)))
      (given_kind rank (step_record steps (record_bytes * i))) ∷ drop (i + 1) (steps_given rank steps)) (by_kind h ∙ e)

  pub gives-plain : (rank : ℕ) → i < record_count steps → repeat_here steps i ≡ false
      → drop i (steps_given rank steps)
      ≡ given_kind rank (step_record steps (record_bytes * i)) ∷ drop (i + 1) (steps_given rank steps)
  unfolding given_at
  gives-plain rank h e =
      record-here rank steps i h
      ∙ ap (λ (b : Bool). pick b (known (repeat (get_or steps (record_bytes * i + 1) 0) (get_or steps (record_bytes * i + 2) 0)))
      (given_kind rank (step_record steps (record_bytes * i))) ∷ drop (i + 1) (steps_given rank steps)) (by_kind h ∙ e)

-- ---- a plain step

-- one that passes 8 is the step of its places
step_fits : (n rank : ℕ) (t : Step) → n ≤ most_axes → judge_counts n (lists_in (step_given rank t)) ≡ accept tt → step_given rank t ≡ step_of rank t
step_fits n rank (AllSlice lists) h e = ap rules.all_slice (lists-fit n rank lists h e)
step_fits n rank (AllGather lists) h e = ap rules.all_gather (lists-fit n rank lists h e)
step_fits n rank (AllReduce list) h e = let p = counts-inv n (list_given list) [] e in ap rules.all_reduce (list-fits list (omega (arith, p.0)))
step_fits n rank (AllToAll source target list) h e =
    let p = counts-inv n (list_given list) [] e in ap (rules.all_to_all source.0 target.0) (list-fits list (omega (arith, p.0)))
step_fits n rank (ReduceScatter lists) h e = ap rules.reduce_scatter (lists-fit n rank lists h e)

-- a record that passes 20 and 8 has a step that passes 8
pub form-passed : (n k rank : ℕ) {t : Option Step} {u : Step} → Some u ≡ t → accept tt ≡ step_numbered (judge_form n k (given_kind rank t))
    → judge_counts n (lists_in (step_given rank u)) ≡ accept tt
form-passed n k rank e q = numbered-on _ (ap (λ (t : Option Step). step_numbered (judge_form n k (given_kind rank t))) e ∙ sym q)

same-lists : (t : rules.Step) → step_lists t ≡ lists_in t
same-lists (rules.all_slice Ss) = refl
same-lists (rules.all_gather Gs) = refl
same-lists (rules.all_reduce L) = refl
same-lists (rules.all_to_all source target L) = refl
same-lists (rules.reduce_scatter Ss) = refl

module _ (mesh sizes : List ℕ) (rank : ℕ) (rank_is : length sizes ≡ rank) (few : rank ≤ most_dims) (steps : List ℕ) (i : ℕ) where
  abbrev gs : List Given
  gs = steps_given rank steps

  pub is-ranked : AllRanked (length sizes) gs
  is-ranked = subst (λ (r : ℕ). AllRanked r gs) (sym rank_is) (given-ranked rank few steps)

  ranked-here : (g : Given) (rest : List Given) → drop i gs ≡ g ∷ rest → Ranked (length sizes) g
  ranked-here g rest d = (subst (AllRanked (length sizes)) d (ranked-drop (length sizes) gs i is-ranked)).0

  -- past the last record
  pub past-last : (s : Sharding) → record_count steps ≤ i → summarized i (plain_at mesh sizes (steps_bytes gs) (i + 1) (place_of gs i) s) ≡ refuse 7 0
  past-last s h = ap (summarized i) ((read_none mesh sizes gs i (record-none rank steps i h)).1 (i + 1) s)

  -- where no repeat is given none is read
  pub no-repeat : repeat_here steps i ≡ false → is_repeat (steps_bytes gs) (place_of gs i) ≡ false
  no-repeat e = go (dec_lt i (record_count steps))
    where
      of-given : (t : Option Step) (rest : List Given) → drop i gs ≡ given_kind rank t ∷ rest → is_repeat (steps_bytes gs) (place_of gs i) ≡ false
      of-given (Some t) rest d = (read_plain mesh sizes gs i (step_given rank t) rest d (ranked-here (known (plain (step_given rank t))) rest d)).0
      of-given None rest d = (read-unknown mesh sizes gs i rest d).0

      go : Dec (i < record_count steps) → is_repeat (steps_bytes gs) (place_of gs i) ≡ false
      go (yes h) = of-given (step_record steps (record_bytes * i)) (drop (i + 1) gs) (gives-plain steps i rank h e)
      go (no h) = (read_none mesh sizes gs i (record-none rank steps i (omega (arith, h)))).0

  module _ (h : i < record_count steps) (e : repeat_here steps i ≡ false) (s : Sharding) where
    gives : {t : Option Step} → t ≡ step_record steps (record_bytes * i) → drop i gs ≡ given_kind rank t ∷ drop (i + 1) gs
    gives t-is = gives-plain steps i rank h e ∙ ap (λ (t : Option Step). given_kind rank t ∷ drop (i + 1) gs) (sym t-is)

    -- of a kind that there is not
    pub unknown-stops : None ≡ step_record steps (record_bytes * i) → summarized i (plain_at mesh sizes (steps_bytes gs) (i + 1) (place_of gs i) s) ≡ refuse 20 (i + 1)
    unknown-stops t-is = ap (summarized i) ((read-unknown mesh sizes gs i (drop (i + 1) gs) (gives t-is)).1 (i + 1) s)

    module _ (n : ℕ) (n_is : length mesh ≡ n) (n-few : n ≤ most_axes) {u : Step} (u-is : Some u ≡ step_record steps (record_bytes * i)) where
      abbrev t : rules.Step
      t = step_given rank u

      abbrev left : Sharding → StepsRead
      left after = record { records = plain t ∷ []; steps = t ∷ []; sharding = after; next = place_of gs (i + 1) }

      in_parts : plain_at mesh sizes (steps_bytes gs) (i + 1) (place_of gs i) s
          ≡ ◌>>◌ (judge_counts n (lists_in t)) (◌>>=◌ (judge_step mesh sizes (i + 1) t s) (λ after. accept (left after)))
      in_parts =
          (read_plain mesh sizes gs i t (drop (i + 1) gs) (gives u-is) (ranked-here (known (plain t)) (drop (i + 1) gs) (gives u-is))).1 (i + 1) s
          ∙ (λ z. ◌>>◌ (judge_counts (n_is z) (same-lists t z)) (◌>>=◌ (judge_step mesh sizes (i + 1) t s) (λ after. accept (left after))))

      module _ (q : judge_counts n (lists_in t) ≡ accept tt) where
        -- judged under no number
        as-numbered : {j : Judged Sharding} → judge_step mesh sizes 0 (step_of rank u) s ≡ j → judge_step mesh sizes (i + 1) t s ≡ renumbered (i + 1) j
        as-numbered o =
            ap (λ (z : rules.Step). judge_step mesh sizes (i + 1) z s) (step_fits n rank u n-few q) ∙ step-renumbered mesh sizes (i + 1) (step_of rank u) s
            ∙ ap (renumbered (i + 1)) o

        pub step-stops : {a b : ℕ} → judge_step mesh sizes 0 (step_of rank u) s ≡ refuse a b
            → summarized i (plain_at mesh sizes (steps_bytes gs) (i + 1) (place_of gs i) s) ≡ refuse a (i + 1)
        step-stops o = rw (in_parts, q, as-numbered o) refl

        pub plain-is : {r : Sharding} → judge_step mesh sizes 0 (step_of rank u) s ≡ accept r
            → summarized i (plain_at mesh sizes (steps_bytes gs) (i + 1) (place_of gs i) s)
            ≡ accept (record { value = record { runs = 1; sharding = r }; next = i + 1 })
        plain-is o = rw (in_parts, q, as-numbered o) refl

    -- what is judged before the step
    pub form-stops : (n : ℕ) → length mesh ≡ n → n ≤ most_axes → (t : Option Step) → t ≡ step_record steps (record_bytes * i) → {a b : ℕ}
        → judge_form n (i + 1) (given_kind rank t) ≡ refuse a b → summarized i (plain_at mesh sizes (steps_bytes gs) (i + 1) (place_of gs i) s) ≡ refuse a b
    form-stops n n_is n-few None t-is q = unknown-stops t-is ∙ of-any q
    form-stops n n_is n-few (Some u) t-is {a} {b} q =
        let r : judge_counts n (lists_in (step_given rank u)) ≡ refuse a b = q in
        rw (in_parts n n_is n-few t-is, r) refl
