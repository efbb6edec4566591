-- The loop over a block's inner steps: `Inner` holds at each turn; `inner_start` makes it, `inner-step` keeps it, `inner-stops` and `inner-done` are the
-- ways out. `InnerMoved` is the same with the words moved between devices. Assumes nothing.
use Prim.Native.Nat.{ℕ, zero, suc, ◌+◌, ◌-◌, ◌*◌, ◌≤◌, ◌<◌, max}
use mathlib.Core.Path.{◌≡◌, refl, sym, ap, ap₂, ◌∙◌, subst}
use mathlib.Core.List.{List, [], ◌++◌, append_assoc, append-nil}
use native.Mathlib.Omega.{arith}
use lib.ListN.{length, get_or, length-append}
use Rattle.rules.specs.Lists.{in_turn}
use Rattle.rules.specs.Limits.{most_run, every_kind}
use Rattle.rules.specs.Sharding.{Sharding, IsSharding}
use Rattle.rules.specs.Collectives.{Step, after}
use Rattle.rules.specs.Refusals.{Judged, accept, refuse, ◌>>=◌}
use Rattle.rules.specs.PlanFile.{Read, StepsRead, JudgesSteps, steps_at, item_at}
use Rattle.rules.specs.Moved.{added_on, moved_from, most_moved}
use Rattle.laws.specs.Demands.{one_pass, largest_on}
use Rattle.laws.proofs.Lists.{in-turn-append}
use Rattle.laws.proofs.Accepted.{Within}
use Rattle.laws.proofs.Moved.{added-charged, added-append}
use Rattle.laws.proofs.Turns.{Fine, fine-append, steps-sharding, last-largest, largest-append}
use Rattle.laws.proofs.Repeats.{pass-append, Told, item-tells}
use Rattle.laws.proofs.Bytes.{Takes, TakesAll, item-takes}
use Rattle.blocks.specs.Blocks.{Summary, shard_words, summary_of, summarized}
use Rattle.blocks.proofs.Plain.{summary-inv}

-- ---- steps one after the other

-- what was read, and what is read after it
abbrev pub joined : StepsRead → StepsRead → StepsRead
joined d w = record { records = d.records ++ w.records; steps = d.steps ++ w.steps; sharding = w.sharding; next = w.next }

abbrev after-these : StepsRead → Judged StepsRead → Judged StepsRead
after-these d (accept r) = accept (joined d r)
after-these d (refuse a b) = refuse a b

abbrev none : Sharding → ℕ → StepsRead
none s at = record { records = []; steps = []; sharding = s; next = at }

after_none : (s : Sharding) (at : ℕ) (j : Judged StepsRead) → j ≡ after-these (none s at) j
after_none s at (accept r) = refl
after_none s at (refuse a b) = refl

after-joined : (d w : StepsRead) (j : Judged StepsRead) → after-these d (◌>>=◌ j (λ r. accept (joined w r))) ≡ after-these (joined d w) j
after-joined d w (accept r) = λ i. accept (record {
  records = sym (append_assoc d.records w.records r.records) i;
  steps = sym (append_assoc d.steps w.steps r.steps) i;
  sharding = r.sharding;
  next = r.next;
})
after-joined d w (refuse a b) = refl

-- ---- the loop

module _ (mesh sizes file : List ℕ) (depth : ℕ) where
  abbrev steps : JudgesSteps
  steps = steps_at (item_at every_kind mesh sizes file depth)

  -- i of the inner steps are judged
  pub record Inner (count k₀ at₀ largest₀ : ℕ) (s₀ : Sharding) (i k at runs largest : ℕ) (s : Sharding) : Type 0 where
    pub done : StepsRead
    pub few : i ≤ count
    pub number_is : k ≡ k₀ + length done.records
    pub at_is : at ≡ done.next
    pub runs_are : runs ≡ length done.steps
    pub here : s ≡ done.sharding
    pub largest-is : largest ≡ max largest₀ (largest_on (shard_words mesh sizes) s₀ (one_pass done.records))
    pub counted : shard_words mesh sizes s ≤ largest
    pub sound : IsSharding mesh sizes s
    pub fine : Fine mesh sizes s₀ done.steps
    pub leads : in_turn after done.steps s₀ ≡ done.sharding
    pub ends : in_turn after (one_pass done.records) s₀ ≡ done.sharding
    pub takes : TakesAll mesh sizes file at₀ i done
    pub same : steps count k₀ at₀ s₀ ≡ after-these done (steps (count - i) k at s)

  pub inner_start : (count k₀ at₀ largest₀ : ℕ) (s₀ : Sharding) → at₀ ≤ length file → IsSharding mesh sizes s₀ → shard_words mesh sizes s₀ ≤ largest₀
      → Inner count k₀ at₀ largest₀ s₀ 0 k₀ at₀ 0 largest₀ s₀
  inner_start count k₀ at₀ largest₀ s₀ l h m =
      let z : count ≡ count - 0 = omega arith in
      record {
        done = none s₀ at₀;
        few = omega arith;
        number_is = omega arith;
        at_is = refl;
        runs_are = refl;
        here = refl;
        largest-is = omega arith;
        counted = m;
        sound = h;
        fine = tt;
        leads = refl;
        ends = refl;
        takes = record { bytes = omega arith; inside = l; few = omega arith };
        same = after_none s₀ at₀ (steps count k₀ at₀ s₀) ∙ ap (λ (n : ℕ). after-these (none s₀ at₀) (steps n k₀ at₀ s₀)) z;
      }

  -- the steps after the first of them
  abbrev further : (count k : ℕ) → StepsRead → Judged StepsRead
  further count k w = ◌>>=◌ (steps count (k + length w.records) w.next w.sharding) (λ r. accept (joined w r))

  first_of : (count k at : ℕ) (s : Sharding) {j : Judged StepsRead} → 0 < count → item_at every_kind mesh sizes file depth k at s ≡ j
      → steps count k at s ≡ ◌>>=◌ j (further (count - 1) k)
  unfolding steps_at
  first_of zero k at s h e = absurd (omega arith)
  first_of (suc count) k at s {j} h e =
      let z : count ≡ suc count - 1 = omega arith in
      ap (λ (j : Judged StepsRead). ◌>>=◌ j (further count k)) e ∙ ap (λ (n : ℕ). ◌>>=◌ j (further n k)) z

  module _ {count k₀ at₀ largest₀ : ℕ} {s₀ : Sharding} {i k at runs largest : ℕ} {s : Sharding}
      (g : Inner count k₀ at₀ largest₀ s₀ i k at runs largest s) where
    pub inner-stops : {a b : ℕ} → i < count → item_at every_kind mesh sizes file depth k at s ≡ refuse a b → steps count k₀ at₀ s₀ ≡ refuse a b
    inner-stops h e = g.same ∙ ap (after-these g.done) (first_of (count - i) k at s (omega arith) e)

    pub inner-done : count ≤ i → steps count k₀ at₀ s₀ ≡ accept g.done
    unfolding steps_at
    inner-done h =
        let z : count - i ≡ 0 = omega arith in
        g.same ∙ ap (λ (n : ℕ). after-these g.done (steps n k at s)) z
        ∙ (λ j. accept (record {
          records = append-nil g.done.records j;
          steps = append-nil g.done.steps j;
          sharding = g.here j;
          next = g.at_is j;
        }))

    pub number_few : k₀ ≤ at₀ → k ≤ at
    number_few h = omega (arith, g.number_is, g.at_is, g.takes.bytes)

    -- the next of them is accepted
    module _ (pos : (a : ℕ) → 0 < get_or mesh a 1) (h : i < count) {k' runs' largest' moved' at' : ℕ} {s' : Sharding}
        (e : summarized mesh sizes k largest s (item_at every_kind mesh sizes file depth k at s)
        ≡ accept (record { value = record { number = k'; runs = runs'; largest = largest'; moved = moved'; sharding = s' }; next = at' })) where
      pub runs_few : runs' ≤ most_run
      runs_few =
          let x = summary-inv mesh sizes k largest s _ _ e in
          let t : Takes mesh sizes file at x.0 = item-takes mesh sizes file every_kind depth k at s x.0 x.1 in
          let z : length x.0.steps ≡ runs' = ap (λ (r : Read Summary). r.value.runs) x.2 in
          omega (arith, t.few)

      pub inner-step : Inner count k₀ at₀ largest₀ s₀ (i + 1) k' at' (runs + runs') largest' s'
      inner-step =
          let x = summary-inv mesh sizes k largest s _ _ e in
          let v : StepsRead = x.0 in
          let d : StepsRead = g.done in
          let f : Sharding → ℕ = λ z. shard_words mesh sizes z in
          let t : Takes mesh sizes file at v = item-takes mesh sizes file every_kind depth k at s v x.1 in
          let u : Told mesh sizes file s v = item-tells mesh sizes file every_kind depth k at s v x.1 in
          let n_is : k + length v.records ≡ k' = ap (λ (r : Read Summary). r.value.number) x.2 in
          let r-is : length v.steps ≡ runs' = ap (λ (r : Read Summary). r.value.runs) x.2 in
          let l-is : max largest (largest_on f s (one_pass v.records)) ≡ largest' = ap (λ (r : Read Summary). r.value.largest) x.2 in
          let s-is : v.sharding ≡ s' = ap (λ (r : Read Summary). r.value.sharding) x.2 in
          let a-is : v.next ≡ at' = ap (λ (r : Read Summary). r.next) x.2 in
          let from : in_turn after (one_pass d.records) s₀ ≡ s = g.ends ∙ sym g.here in
          let pass : one_pass (d.records ++ v.records) ≡ one_pass d.records ++ one_pass v.records = pass-append d.records v.records in
          let all : largest_on f s₀ (one_pass (d.records ++ v.records)) ≡ max (largest_on f s₀ (one_pass d.records)) (largest_on f s (one_pass v.records)) =
          ap (largest_on f s₀) pass ∙ largest-append f (one_pass d.records) (one_pass v.records) s₀
          ∙ ap (λ (z : Sharding). max (largest_on f s₀ (one_pass d.records)) (largest_on f z (one_pass v.records))) from in
          let last : f s' ≤ largest_on f s (one_pass v.records) =
          subst (λ (z : Sharding). f z ≤ largest_on f s (one_pass v.records)) (u.pass_ends ∙ s-is) (last-largest f s (one_pass v.records)) in
          record {
            done = joined d v;
            few = omega arith;
            number_is = omega (arith, length-append d.records v.records, g.number_is);
            at_is = sym a-is;
            runs_are = omega (arith, length-append d.steps v.steps, g.runs_are);
            here = sym s-is;
            largest-is = omega (arith, all, g.largest-is);
            counted = omega arith;
            sound = subst (IsSharding mesh sizes) (u.ends ∙ s-is) (steps-sharding mesh sizes pos s v.steps g.sound u.fine);
            fine = fine-append mesh sizes d.steps v.steps s₀ g.fine
                (subst (λ (z : Sharding). Fine mesh sizes z v.steps) (g.here ∙ sym g.leads) u.fine);
            leads = in-turn-append after d.steps v.steps s₀ ∙ ap (in_turn after v.steps) (g.leads ∙ sym g.here) ∙ u.ends;
            ends = ap (λ (l : List Step). in_turn after l s₀) pass ∙ in-turn-append after (one_pass d.records) (one_pass v.records) s₀
                ∙ ap (in_turn after (one_pass v.records)) from ∙ u.pass_ends;
            takes = record {
              bytes = omega (arith, length-append d.records v.records, g.takes.bytes, g.at_is, t.bytes);
              inside = t.inside;
              few = omega (arith, length-append d.steps v.steps, g.takes.few, t.few);
            };
            same = g.same ∙ ap (after-these d) (first_of (count - i) k at s (omega arith) x.1)
                ∙ after-joined d v (steps (count - i - 1) (k + length v.records) v.next v.sharding)
                ∙ (λ j. after-these (joined d v) (steps (one_less j) (n_is j) (a-is j) (s-is j)));
          }
        where
          one_less : count - i - 1 ≡ count - (i + 1)
          one_less = omega arith

  -- ---- the same with the words moved

  pub record InnerMoved (count k₀ at₀ largest₀ : ℕ) (s₀ : Sharding) (i k at runs largest moved : ℕ) (s : Sharding) : Type 0 where
    pub judged : Inner count k₀ at₀ largest₀ s₀ i k at runs largest s
    pub moved_is : moved ≡ added_on (moved_from mesh sizes) s₀ judged.done.steps

  pub moved-start : (count k₀ at₀ largest₀ : ℕ) (s₀ : Sharding) → at₀ ≤ length file → IsSharding mesh sizes s₀ → shard_words mesh sizes s₀ ≤ largest₀
      → InnerMoved count k₀ at₀ largest₀ s₀ 0 k₀ at₀ 0 largest₀ 0 s₀
  unfolding inner_start
  moved-start count k₀ at₀ largest₀ s₀ l h m = record { judged = inner_start count k₀ at₀ largest₀ s₀ l h m; moved_is = refl }

  -- no plain step moves more than its limit
  pub moved_few : Within mesh sizes → {count k₀ at₀ largest₀ : ℕ} {s₀ : Sharding} {i k at runs largest moved : ℕ} {s : Sharding}
      → InnerMoved count k₀ at₀ largest₀ s₀ i k at runs largest moved s → IsSharding mesh sizes s₀ → moved ≤ runs * most_moved
  moved_few w {s₀ = s₀} g h =
      omega (arith, g.moved_is, g.judged.runs_are, (added-charged mesh sizes w s₀ g.judged.done.steps h g.judged.fine).1)

  module _ {count k₀ at₀ largest₀ : ℕ} {s₀ : Sharding} {i k at runs largest moved : ℕ} {s : Sharding}
      (g : InnerMoved count k₀ at₀ largest₀ s₀ i k at runs largest moved s) (w : Within mesh sizes) (h : i < count) {k' runs' largest' moved' at' : ℕ}
      {s' : Sharding}
      (e : summarized mesh sizes k largest s (item_at every_kind mesh sizes file depth k at s)
      ≡ accept (record { value = record { number = k'; runs = runs'; largest = largest'; moved = moved'; sharding = s' }; next = at' })) where
    taken : (v : StepsRead) × (item_at every_kind mesh sizes file depth k at s ≡ accept v)
        × (◌≡◌ {A = Read Summary} (summary_of mesh sizes k largest s v)
        (record { value = record { number = k'; runs = runs'; largest = largest'; moved = moved'; sharding = s' }; next = at' }))
    taken = summary-inv mesh sizes k largest s _ _ e

    moves : added_on (moved_from mesh sizes) s taken.0.steps ≡ moved'
    moves = ap (λ (r : Read Summary). r.value.moved) taken.2

    pub next-few : moved' ≤ runs' * most_moved
    next-few =
        let u : Told mesh sizes file s taken.0 = item-tells mesh sizes file every_kind depth k at s taken.0 taken.1 in
        let r-is : length taken.0.steps ≡ runs' = ap (λ (r : Read Summary). r.value.runs) taken.2 in
        omega (arith, moves, r-is, (added-charged mesh sizes w s taken.0.steps g.judged.sound u.fine).1)

    pub moved-step : InnerMoved count k₀ at₀ largest₀ s₀ (i + 1) k' at' (runs + runs') largest' (moved + moved') s'
    unfolding inner-step taken
    moved-step =
        let d : StepsRead = g.judged.done in
        record {
          judged = inner-step g.judged w.sizes_pos h e;
          moved_is = sym (added-append (moved_from mesh sizes) d.steps taken.0.steps s₀
              ∙ ap₂ ◌+◌ (sym g.moved_is)
              (ap (λ (z : Sharding). added_on (moved_from mesh sizes) z taken.0.steps) (g.judged.leads ∙ sym g.judged.here) ∙ moves));
        }
