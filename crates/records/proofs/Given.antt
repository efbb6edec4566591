-- Steps read from the bytes of records are these records, all of them where as many outermost ones are read as there are (`all-given`). Assumes nothing.
use Prim.Native.Nat.{ℕ, zero, suc, ◌+◌, ◌<◌}
use mathlib.Core.Path.{◌≡◌, refl, sym, ap, ap₂, ◌∙◌, subst}
use mathlib.Core.Bool.{Bool, true, false}
use mathlib.Core.List.{List, [], ◌∷◌, ◌++◌, map, append_assoc, append-nil}
use native.Mathlib.Omega.{arith}
use lib.ListN.{length, get_or}
use lib.Dec.{T, ltb, leb, ltb→lt, eqb→eq}
use Rattle.rules.specs.Sharding.{Sharding}
use Rattle.rules.specs.Collectives.{Step, all_slice, all_gather, all_reduce, all_to_all, reduce_scatter}
use Rattle.rules.specs.Limits.{most_run, most_depth}
use Rattle.rules.specs.Refusals.{accept}
use Rattle.rules.specs.PlanFile.{Read, kind_of, lists_of, step_at, judge_step, Record, plain, repeat, kind_byte, StepsRead, JudgesStep, JudgesSteps, steps_at, plain_at, repeat_at, is_repeat, item_with, too_deep, item_at, Outermost, outermost_at, Unknown}
use Rattle.laws.proofs.Judging.{never, accept-inj, need-inv, then-inv, bind_inv}
use Rattle.laws.proofs.Repeats.{IsRepeat, repeat-inv, positive-inv, read_by, outermost-steps}
use Rattle.records.specs.Records.{Given, known, unknown, outermost_from, outermost, step_bytes, given_bytes, steps_bytes}
use Rattle.records.specs.Writing.{judge_counts}
use Rattle.records.specs.RoundTrip.{AllRanked}
use Rattle.records.proofs.Places.{From, from-length, from_next, from_byte, from_second, from-rest, from_at}
use Rattle.records.proofs.Lists.{read, step_lists, step_from}

-- the first byte of a plain step is the kind of one
pub kind-first : (t : Step) → (rest : List ℕ) × (step_bytes t ≡ kind_byte (plain t) ∷ rest) × (kind_byte (plain t) < 9)
unfolding step_bytes
kind-first (all_slice Ss) = (_, refl, omega arith)
kind-first (all_gather Gs) = (_, refl, omega arith)
kind-first (all_reduce L) = (_, refl, omega arith)
kind-first (all_to_all source target L) = (_, refl, omega arith)
kind-first (reduce_scatter Ss) = (_, refl, omega arith)

pub known-append : (l m : List Record) → map known (l ++ m) ≡ map known l ++ map known m
known-append [] m = refl
known-append (a ∷ l) m = ap (λ (z : List Given). known a ∷ z) (known-append l m)

module _ (mesh sizes file : List ℕ) where
  -- the records from here on begin with those that were read
  pub record GivenBy (gs : List Given) (records : List Record) (next : ℕ) : Type 0 where
    pub rest : List Given
    pub all : gs ≡ map known records ++ rest
    pub from : From next file (steps_bytes rest)
    pub ranked : AllRanked (length sizes) rest

  abbrev Reads : JudgesStep → Type 0
  Reads one = (k at : ℕ) (s : Sharding) (w : StepsRead) (gs : List Given) → AllRanked (length sizes) gs → From at file (steps_bytes gs) → one k at s ≡ accept w
      → GivenBy gs w.records w.next

  -- ---- a plain step

  -- nothing stands there: 7
  nothing_read : (k at : ℕ) (t : Read Step) → From at file [] → step_at (length mesh) (length sizes) k file at ≡ accept t → ⊥
  unfolding step_at
  nothing_read k at t f e =
      let q = need-inv 0 (ltb at (length file)) 7 _ t e in
      omega (arith, ltb→lt at (length file) q.0, from-length at file [] f)

  -- another kind: 20
  other-read : (k at : ℕ) (t : Read Step) → kind_of (get_or file at 0) ≡ Unknown → step_at (length mesh) (length sizes) k file at ≡ accept t → ⊥
  unfolding step_at lists_of
  other-read k at t h e =
      let q = need-inv 0 (ltb at (length file)) 7 _ t e in
      never (sym (ap (lists_of (length mesh) (length sizes) k file (at + 1)) h) ∙ q.1)

  step_given : (k at : ℕ) (t : Read Step) (gs : List Given) → AllRanked (length sizes) gs → From at file (steps_bytes gs)
      → step_at (length mesh) (length sizes) k file at ≡ accept t → GivenBy gs (plain t.value ∷ []) t.next
  unfolding steps_bytes given_bytes
  step_given k at t [] r f e = absurd (nothing_read k at t f e)
  step_given k at t (known (plain u) ∷ gs) r f e =
      let h = step_from (length mesh) (length sizes) k file at u (steps_bytes gs) r.0 f in
      let c = then-inv (judge_counts (length mesh) (step_lists u)) (accept (read u (at + length (step_bytes u)))) t (sym h ∙ e) in
      let z : read u (at + length (step_bytes u)) ≡ t = accept-inj c.1 in
      record {
        rest = gs;
        all = ap (λ (x : Read Step). known (plain x.value) ∷ gs) z;
        from = subst (λ (x : Read Step). From x.next file (steps_bytes gs)) z (from_next at file (step_bytes u) (steps_bytes gs) f);
        ranked = r.1;
      }
  step_given k at t (known (repeat count number) ∷ gs) r f e =
      let b : get_or file at 0 ≡ 9 = from_byte at file 9 (count ∷ number ∷ steps_bytes gs) f in
      absurd (other-read k at t (ap kind_of b) e)
  step_given k at t (unknown ∷ gs) r f e =
      let b : get_or file at 0 ≡ 0 = from_byte at file 0 (steps_bytes gs) f in
      absurd (other-read k at t (ap kind_of b) e)

  plain-given : Reads (plain_at mesh sizes file)
  unfolding plain_at
  plain-given k at s w gs r f e =
      let p = bind_inv (step_at (length mesh) (length sizes) k file at) _ w e in
      let q = bind_inv (judge_step mesh sizes k p.0.value s) _ w p.2 in
      subst (λ (z : StepsRead). GivenBy gs z.records z.next) (accept-inj q.2) (step_given k at p.0 gs r f p.1)

  -- ---- steps one after the other

  after_both : (gs : List Given) (l m : List Record) (at next : ℕ) (g : GivenBy gs l at) → GivenBy g.rest m next → GivenBy gs (l ++ m) next
  after_both gs l m at next g h = record {
    rest = h.rest;
    all = g.all ∙ ap (λ (x : List Given). map known l ++ x) h.all ∙ sym (append_assoc (map known l) (map known m) h.rest)
        ∙ ap (λ (x : List Given). x ++ h.rest) (sym (known-append l m));
    from = h.from;
    ranked = h.ranked;
  }

  steps-given : (one : JudgesStep) → Reads one → (count : ℕ) → Reads (steps_at one count)
  unfolding steps_at
  steps-given one h zero k at s w gs r f e =
      subst (λ (z : StepsRead). GivenBy gs z.records z.next) (accept-inj e) (record { rest = gs; all = refl; from = f; ranked = r })
  steps-given one h (suc count) k at s w gs r f e =
      let t = bind_inv (one k at s) _ w e in
      let u = bind_inv (steps_at one count (k + length t.0.records) t.0.next t.0.sharding) _ w t.2 in
      let a : GivenBy gs t.0.records t.0.next = h k at s t.0 gs r f t.1 in
      let b : GivenBy a.rest u.0.records u.0.next =
      steps-given one h count (k + length t.0.records) t.0.next t.0.sharding u.0 a.rest a.ranked a.from u.1 in
      subst (λ (z : StepsRead). GivenBy gs z.records z.next) (accept-inj u.2) (after_both gs t.0.records u.0.records t.0.next u.0.next a b)

  -- ---- a repeat

  -- no other record begins with its kind byte
  no_plain : (at : ℕ) (t : Step) (rest : List ℕ) → From at file (step_bytes t ++ rest) → get_or file at 0 ≡ 9 → ⊥
  no_plain at t rest f e =
      let h = kind-first t in
      let b : get_or file at 0 ≡ kind_byte (plain t) = from_byte at file (kind_byte (plain t)) (h.0 ++ rest) (subst (λ (l : List ℕ). From at file (l ++ rest)) h.1 f) in
      omega (arith, h.2)

  repeat-given : (inner : JudgesSteps) → ((count : ℕ) → Reads (inner count)) → (k at : ℕ) (s : Sharding) (w : StepsRead) (gs : List Given)
      → AllRanked (length sizes) gs → From at file (steps_bytes gs) → get_or file at 0 ≡ 9 → repeat_at inner file k (at + 1) s ≡ accept w
      → GivenBy gs w.records w.next
  unfolding steps_bytes given_bytes
  repeat-given inner h k at s w [] r f nine e =
      let b : get_or file (at + 0) 0 ≡ 0 = from_at at file [] f 0 in
      let z : at + 0 ≡ at = omega arith in
      let c : get_or file at 0 ≡ 0 = ap (λ (i : ℕ). get_or file i 0) (sym z) ∙ b in
      absurd (omega (arith, c))
  repeat-given inner h k at s w (known (plain t) ∷ gs) r f nine e = absurd (no_plain at t (steps_bytes gs) f nine)
  repeat-given inner h k at s w (known (repeat c n) ∷ gs) r f nine e =
      let i : IsRepeat mesh sizes file inner k (at + 1) s w = repeat-inv mesh sizes file inner k (at + 1) s w e in
      let f' : From (at + 1) file (c ∷ n ∷ steps_bytes gs) = from-rest at file 9 (c ∷ n ∷ steps_bytes gs) f in
      let x : get_or file (at + 1) 0 ≡ c = from_byte (at + 1) file c (n ∷ steps_bytes gs) f' in
      let y : get_or file (at + 1 + 1) 0 ≡ n = from_second (at + 1) file c n (steps_bytes gs) f' in
      let count : i.count ≡ c = sym (positive-inv mesh sizes file k (at + 1) i.count i.count_is).2 ∙ x in
      let number : i.number ≡ n = sym (positive-inv mesh sizes file k (at + 1 + 1) i.number i.number_is).2 ∙ y in
      let g : From (at + 1 + 2) file (steps_bytes gs) = from_next (at + 1) file (c ∷ n ∷ []) (steps_bytes gs) f' in
      let b : GivenBy gs i.block.records i.block.next = h i.number (k + 1) (at + 1 + 2) s i.block gs r.1 g i.block_is in
      subst (λ (z : StepsRead). GivenBy (known (repeat c n) ∷ gs) z.records z.next) i.whole
      (record {
        rest = b.rest;
        all = ap₂ (λ (a m : ℕ). known (repeat a m) ∷ gs) (sym count) (sym number) ∙ ap (λ (l : List Given). known (repeat i.count i.number) ∷ l) b.all;
        from = b.from;
        ranked = b.ranked;
      })
  repeat-given inner h k at s w (unknown ∷ gs) r f nine e =
      let b : get_or file at 0 ≡ 0 = from_byte at file 0 (steps_bytes gs) f in
      absurd (omega (arith, b))

  by-given : (b : Bool) (inner : JudgesSteps) → ((count : ℕ) → Reads (inner count)) → (k at : ℕ) (s : Sharding) (w : StepsRead) (gs : List Given)
      → AllRanked (length sizes) gs → From at file (steps_bytes gs) → is_repeat file at ≡ b → item_with b inner mesh sizes file k at s ≡ accept w
      → GivenBy gs w.records w.next
  unfolding item_with
  by-given false inner h k at s w gs r f q e = plain-given k at s w gs r f e
  by-given true inner h k at s w gs r f q e = repeat-given inner h k at s w gs r f (eqb→eq (get_or file at 0) 9 (subst T (sym q) tt)) e

  pub item-given : (kinds : ℕ → Bool) (depth : ℕ) → Reads (item_at kinds mesh sizes file depth)
  unfolding item_at
  item-given kinds zero k at s w gs r f e =
      by-given (is_repeat file at) (too_deep k) (λ count k' at' s' w' gs' r' f' e'. absurd (never e')) k at s w gs r f refl
      (need-inv k (kinds (get_or file at 0)) 20 _ w e).1
  item-given kinds (suc depth) k at s w gs r f e =
      by-given (is_repeat file at) (steps_at (item_at kinds mesh sizes file depth))
      (steps-given (item_at kinds mesh sizes file depth) (item-given kinds depth)) k at s w gs r f refl (need-inv k (kinds (get_or file at 0)) 20 _ w e).1

-- ---- outermost records

none_left : (gs : List Given) → outermost gs ≡ 0 → gs ≡ []
unfolding outermost_from
none_left [] e = refl
none_left (g ∷ gs) e = absurd (omega arith)

module _ (mesh sizes file : List ℕ) where
  -- the records of a step are one of those that are still to come
  abbrev Closes : List Record → Type 0
  Closes records =
      (rest : List Given) → (outermost (map known records ++ rest) ≡ suc (outermost rest))
      × ((n : ℕ) → outermost_from (suc n) (map known records ++ rest) ≡ outermost_from n rest)

  abbrev Closing : JudgesStep → Type 0
  Closing one = (k at : ℕ) (s : Sharding) (w : StepsRead) → one k at s ≡ accept w → Closes w.records

  abbrev ClosesAll : ℕ → List Record → Type 0
  ClosesAll count records = (n : ℕ) (rest : List Given) → outermost_from (count + n) (map known records ++ rest) ≡ outermost_from n rest

  abbrev ClosingAll : JudgesSteps → Type 0
  ClosingAll steps = (count k at : ℕ) (s : Sharding) (w : StepsRead) → steps count k at s ≡ accept w → ClosesAll count w.records

  plain-closes : Closing (plain_at mesh sizes file)
  unfolding plain_at outermost_from
  plain-closes k at s w e =
      let p = bind_inv (step_at (length mesh) (length sizes) k file at) _ w e in
      let q = bind_inv (judge_step mesh sizes k p.0.value s) _ w p.2 in
      subst (λ (z : StepsRead). Closes z.records) (accept-inj q.2)
      (λ rest. (refl, λ n. (let z : 0 + n ≡ n = omega arith in ap (λ (m : ℕ). outermost_from m rest) z)))

  both-parts : (n : ℕ) (l m : List Record) (rest : List Given)
      → outermost_from n (map known (l ++ m) ++ rest) ≡ outermost_from n (map known l ++ (map known m ++ rest))
  both-parts n l m rest =
      ap (λ (x : List Given). outermost_from n (x ++ rest)) (known-append l m)
      ∙ ap (outermost_from n) (append_assoc (map known l) (map known m) rest)

  steps-close : (one : JudgesStep) → Closing one → ClosingAll (steps_at one)
  unfolding steps_at
  steps-close one h zero k at s w e n rest =
      let z : 0 + n ≡ n = omega arith in
      ap (λ (x : StepsRead). outermost_from (0 + n) (map known x.records ++ rest)) (sym (accept-inj e)) ∙ ap (λ (m : ℕ). outermost_from m rest) z
  steps-close one h (suc count) k at s w e n rest =
      let t = bind_inv (one k at s) _ w e in
      let u = bind_inv (steps_at one count (k + length t.0.records) t.0.next t.0.sharding) _ w t.2 in
      let z : suc count + n ≡ suc (count + n) = omega arith in
      ap (λ (x : StepsRead). outermost_from (suc count + n) (map known x.records ++ rest)) (sym (accept-inj u.2))
      ∙ both-parts (suc count + n) t.0.records u.0.records rest
      ∙ ap (λ (m : ℕ). outermost_from m (map known t.0.records ++ (map known u.0.records ++ rest))) z
      ∙ (h k at s t.0 t.1 (map known u.0.records ++ rest)).1 (count + n)
      ∙ steps-close one h count (k + length t.0.records) t.0.next t.0.sharding u.0 u.1 n rest

  repeat-closes : (inner : JudgesSteps) → ClosingAll inner → Closing (repeat_at inner file)
  unfolding outermost_from
  repeat-closes inner h k at s w e =
      let i : IsRepeat mesh sizes file inner k at s w = repeat-inv mesh sizes file inner k at s w e in
      let all : ClosesAll i.number i.block.records = h i.number (k + 1) (at + 2) s i.block i.block_is in
      subst (λ (z : StepsRead). Closes z.records) i.whole (λ rest. (
        (let z : i.number ≡ i.number + 0 = omega arith in
            ap suc (ap (λ (m : ℕ). outermost_from m (map known i.block.records ++ rest)) z ∙ all 0 rest)),
        λ n. all n rest,
      ))

  by-closes : (b : Bool) (inner : JudgesSteps) → ClosingAll inner → Closing (item_with b inner mesh sizes file)
  unfolding item_with
  by-closes false inner h k at s w e = plain-closes k at s w e
  by-closes true inner h k at s w e = repeat-closes inner h k (at + 1) s w e

  item-closes : (kinds : ℕ → Bool) (depth : ℕ) → Closing (item_at kinds mesh sizes file depth)
  unfolding item_at
  item-closes kinds zero k at s w e =
      by-closes (is_repeat file at) (too_deep k) (λ count k' at' s' w' e'. absurd (never e')) k at s w (need-inv k (kinds (get_or file at 0)) 20 _ w e).1
  item-closes kinds (suc depth) k at s w e =
      by-closes (is_repeat file at) (steps_at (item_at kinds mesh sizes file depth))
      (steps-close (item_at kinds mesh sizes file depth) (item-closes kinds depth)) k at s w (need-inv k (kinds (get_or file at 0)) 20 _ w e).1

  pub outermost-counted : (kinds : ℕ → Bool) (ran count k at : ℕ) (s : Sharding) (o : Outermost) → outermost_at kinds mesh sizes file ran count k at s ≡ accept o
      → (rest : List Given) → outermost (map known o.records ++ rest) ≡ count + outermost rest
  unfolding outermost_at
  outermost-counted kinds ran zero k at s o e rest =
      let z : outermost rest ≡ 0 + outermost rest = omega arith in
      ap (λ (x : Outermost). outermost (map known x.records ++ rest)) (sym (accept-inj e)) ∙ z
  outermost-counted kinds ran (suc count) k at s o e rest =
      let t = bind_inv (item_at kinds mesh sizes file most_depth k at s) _ o e in
      let x = need-inv k (leb (ran + length t.0.steps) most_run) 43 _ o t.2 in
      let u = bind_inv (outermost_at kinds mesh sizes file (ran + length t.0.steps) count (k + length t.0.records) t.0.next t.0.sharding) _ o x.1 in
      let a : outermost (map known t.0.records ++ (map known u.0.records ++ rest)) ≡ suc (outermost (map known u.0.records ++ rest)) =
      (item-closes kinds most_depth k at s t.0 t.1 (map known u.0.records ++ rest)).0 in
      let b : outermost (map known u.0.records ++ rest) ≡ count + outermost rest =
      outermost-counted kinds (ran + length t.0.steps) count (k + length t.0.records) t.0.next t.0.sharding u.0 u.1 rest in
      ap (λ (z : Outermost). outermost (map known z.records ++ rest)) (sym (accept-inj u.2))
      ∙ both-parts 0 t.0.records u.0.records rest ∙ omega (arith, a, b)

  -- ALL RECORDS ARE READ
  pub all-given : (kinds : ℕ → Bool) (ran k at : ℕ) (s : Sharding) (gs : List Given) (o : Outermost) → AllRanked (length sizes) gs → From at file (steps_bytes gs)
      → outermost_at kinds mesh sizes file ran (outermost gs) k at s ≡ accept o → (gs ≡ map known o.records) × (o.next ≡ length file)
  unfolding steps_bytes
  all-given kinds ran k at s gs o r f e =
      let g : GivenBy mesh sizes file gs o.records o.next =
      steps-given mesh sizes file (item_at kinds mesh sizes file most_depth) (item-given mesh sizes file kinds most_depth) (outermost gs) k at s
      (read_by mesh sizes file s o) gs r f (outermost-steps mesh sizes file kinds ran (outermost gs) k at s o e) in
      let c : outermost (map known o.records ++ g.rest) ≡ outermost gs + outermost g.rest = outermost-counted kinds ran (outermost gs) k at s o e g.rest in
      let d : outermost gs ≡ outermost (map known o.records ++ g.rest) = ap outermost g.all in
      let none : g.rest ≡ [] = none_left g.rest (omega (arith, c, d)) in
      let last : From o.next file [] = subst (λ (l : List Given). From o.next file (steps_bytes l)) none g.from in (
        g.all ∙ ap (λ (l : List Given). map known o.records ++ l) none ∙ append-nil (map known o.records),
        (let z : o.next + 0 ≡ length file = from-length o.next file [] last in omega (arith, z)),
      )
