-- The records inside a repeat: `Within` holds at each turn of the loop; `within-start` makes it, `within_step` keeps it, `within-stops` and `within-done`
-- are the ways out; then the repeat's end (`closes`). The laws of the same loop over a file's bytes serve (blocks/proofs/Inner.antt). Assumes nothing.
use Prim.Native.Nat.{ℕ, ◌+◌, ◌*◌, ◌≤◌, ◌<◌}
use mathlib.Core.Path.{◌≡◌, refl, sym, ap, ap₂, ◌∙◌, subst}
use mathlib.Core.Bool.{Bool, true, false}
use mathlib.Core.List.{List, ◌∷◌}
use native.Mathlib.Omega.{arith}
use lib.ListN.{length, get_or, replicate}
use lib.Dec.{leb}
use Rattle.rules.specs.Lists.{flat}
use Rattle.rules.specs.Limits.{most_run, every_kind}
use Rattle.rules.specs.Sharding.{Sharding, IsSharding}
use Rattle.rules.specs.Refusals.{Judged, accept, refuse, ◌>>◌, need_at}
use Rattle.rules.specs.PlanFile.{Read, repeat, StepsRead, steps_at, same_sharding, repeat_at, item_at}
use Rattle.types.specs.Types.{sharding_of}
use Rattle.types.specs.declared.Sharding as code
use Rattle.laws.proofs.Judging.{never, accept-inj}
use Rattle.laws.proofs.Turns.{length-times}
use Rattle.blocks.specs.Blocks as blocks
use Rattle.blocks.proofs.Plain as blocks-plain
use Rattle.blocks.proofs.Inner.{Inner, inner_start, inner-stops, inner-done, inner-step, runs_few}
use Rattle.blocks.proofs.Items.{inner_steps, by-inner, head-halts, inner-halts}
use Rattle.records.specs.Records.{Given, steps_bytes}
use Rattle.records.specs.Writing.{step_numbered}
use Rattle.records.specs.RoundTrip.{AllRanked}
use Rattle.given.specs.Given.{place_of, Summary, summary_of, summarized, closed}
use Rattle.given.specs.declared.RecordsJudged.{RecordsJudged}
use Rattle.given.proofs.Ends.{Ends, item-ends}

-- ---- a summary

pub summary-inv : (i : ℕ) (j : Judged StepsRead) (r : Read Summary) → summarized i j ≡ accept r → (w : StepsRead) × (j ≡ accept w) × (summary_of i w ≡ r)
summary-inv i (accept w) r e = (w, refl, accept-inj e)
summary-inv i (refuse a b) r e = absurd (never e)

pub summary-stops : (i : ℕ) (j : Judged StepsRead) {a b : ℕ} → summarized i j ≡ refuse a b → j ≡ refuse a b
summary-stops i (accept w) e = absurd (never (sym e))
summary-stops i (refuse a b) e = ap₂ refuse (refused-1 e) (refused-2 e)
  where
    refused-1 : {A : Type 0} {a b c d : ℕ} → ◌≡◌ {A = Judged A} (refuse a b) (refuse c d) → a ≡ c
    refused-1 q = cc

    refused-2 : {A : Type 0} {a b c d : ℕ} → ◌≡◌ {A = Judged A} (refuse a b) (refuse c d) → b ≡ d
    refused-2 q = cc

-- ---- the end of a block, by its two tests

module _ (k count rank : ℕ) (before : code.Sharding) (block : RecordsJudged) where
  pub changed : same_sharding (sharding_of rank block.sharding) (sharding_of rank before) ≡ false → closed k count rank before block ≡ step_numbered (refuse 41 k)
  changed e = rw e refl

  module _ (e : same_sharding (sharding_of rank block.sharding) (sharding_of rank before) ≡ true) where
    pub too_many : leb (count * block.runs) most_run ≡ false → closed k count rank before block ≡ step_numbered (refuse 43 k)
    too_many f = rw (e, f) refl

    pub is-closed : leb (count * block.runs) most_run ≡ true → closed k count rank before block ≡ accept (record {
      value = record { runs = count * block.runs; sharding = sharding_of rank block.sharding };
      next = block.at;
    })
    is-closed f = rw (e, f) refl

-- ---- the loop

module _ (mesh sizes : List ℕ) (gs : List Given) (depth : ℕ) where
  -- as the bytes of the records are read
  abbrev pub Turn : (count i₀ : ℕ) → Sharding → (n k at runs most : ℕ) → Sharding → Type 0
  Turn count i₀ s₀ n k at runs most s =
      Inner mesh sizes (steps_bytes gs) depth count (i₀ + 1 + 1) (place_of gs i₀ + 1 + 2) (blocks.shard_words mesh sizes s₀) s₀ n k at runs most s

  -- n of the steps inside record i₀ are judged
  pub record Within (count i₀ : ℕ) (s₀ : Sharding) (n place runs : ℕ) (s : Sharding) : Type 0 where
    pub most : ℕ
    pub inner : Turn count i₀ s₀ n (place + 1) (place_of gs place) runs most s
    pub inside : place ≤ length gs
    pub further : i₀ < place

  pub within-start : (count i₀ : ℕ) (s₀ : Sharding) → place_of gs i₀ + 1 + 2 ≡ place_of gs (i₀ + 1) → place_of gs i₀ + 1 + 2 ≤ length (steps_bytes gs)
      → i₀ < length gs → IsSharding mesh sizes s₀ → Within count i₀ s₀ 0 (i₀ + 1) 0 s₀
  within-start count i₀ s₀ e l h o = record {
    most = blocks.shard_words mesh sizes s₀;
    inner = subst (λ (at : ℕ). Turn count i₀ s₀ 0 (i₀ + 1 + 1) at 0 (blocks.shard_words mesh sizes s₀) s₀) e
        (inner_start mesh sizes (steps_bytes gs) depth count (i₀ + 1 + 1) (place_of gs i₀ + 1 + 2) (blocks.shard_words mesh sizes s₀) s₀ l o (omega arith));
    inside = omega arith;
    further = omega arith;
  }

  module _ {count i₀ : ℕ} {s₀ : Sharding} {n place runs : ℕ} {s : Sharding} (g : Within count i₀ s₀ n place runs s) where
    pub within-stops : {a b : ℕ} → n < count → summarized place (item_at every_kind mesh sizes (steps_bytes gs) depth (place + 1) (place_of gs place) s) ≡ refuse a b
        → steps_at (item_at every_kind mesh sizes (steps_bytes gs) depth) count (i₀ + 1 + 1) (place_of gs i₀ + 1 + 2) s₀ ≡ refuse a b
    within-stops h e = inner-stops mesh sizes (steps_bytes gs) depth g.inner h (summary-stops place _ e)

    pub within-done : count ≤ n
        → steps_at (item_at every_kind mesh sizes (steps_bytes gs) depth) count (i₀ + 1 + 1) (place_of gs i₀ + 1 + 2) s₀ ≡ accept g.inner.done
    within-done h = inner-done mesh sizes (steps_bytes gs) depth g.inner h

    module _ (ranked : AllRanked (length sizes) gs) (pos : (a : ℕ) → 0 < get_or mesh a 1) (h : n < count) {runs' place' : ℕ} {s' : Sharding}
        (e : summarized place (item_at every_kind mesh sizes (steps_bytes gs) depth (place + 1) (place_of gs place) s)
        ≡ accept (record { value = record { runs = runs'; sharding = s' }; next = place' })) where
      pub ran_few : runs' ≤ most_run
      ran_few =
          let x = summary-inv place (item_at every_kind mesh sizes (steps_bytes gs) depth (place + 1) (place_of gs place) s)
          (record { value = record { runs = runs'; sharding = s' }; next = place' }) e in
          let r : length x.0.steps ≡ runs' = ap (λ (r : Read Summary). r.value.runs) x.2 in
          let f : length x.0.steps ≤ most_run =
          runs_few mesh sizes (steps_bytes gs) depth g.inner pos h (ap (blocks.summarized mesh sizes (place + 1) g.most s) x.1) in
          omega (arith, f, r)

      pub within_step : Within count i₀ s₀ (n + 1) place' (runs + runs') s'
      within_step =
          let x = summary-inv place (item_at every_kind mesh sizes (steps_bytes gs) depth (place + 1) (place_of gs place) s)
          (record { value = record { runs = runs'; sharding = s' }; next = place' }) e in
          let w : StepsRead = x.0 in
          let p-is : place + length w.records ≡ place' = ap (λ (r : Read Summary). r.next) x.2 in
          let r-is : length w.steps ≡ runs' = ap (λ (r : Read Summary). r.value.runs) x.2 in
          let s-is : w.sharding ≡ s' = ap (λ (r : Read Summary). r.value.sharding) x.2 in
          let z : Ends mesh sizes gs ranked place w = item-ends mesh sizes gs ranked depth (place + 1) place s w g.inside x.1 in
          let k-is : place + 1 + length w.records ≡ place' + 1 = omega (arith, p-is) in
          let a-is : w.next ≡ place_of gs place' = z.next_is ∙ ap (place_of gs) p-is in
          let v = inner-step mesh sizes (steps_bytes gs) depth g.inner pos h (ap (blocks.summarized mesh sizes (place + 1) g.most s) x.1) in
          record {
            most = _;
            inner = moved k-is a-is r-is s-is v;
            inside = omega (arith, z.inside, p-is);
            further = omega (arith, g.further, p-is);
          }
        where
          moved : {k k' at at' r r' m : ℕ} {o o' : Sharding} → k ≡ k' → at ≡ at' → r ≡ r' → o ≡ o'
              → Turn count i₀ s₀ (n + 1) k at (runs + r) m o
              → Turn count i₀ s₀ (n + 1) k' at' (runs + r') m o'
          moved {k} {k'} {at} {at'} {r} {r'} {m} {o} {o'} p q u v y =
              subst (λ (o : Sharding). Turn count i₀ s₀ (n + 1) k' at' (runs + r') m o) v
              (subst (λ (r : ℕ). Turn count i₀ s₀ (n + 1) k' at' (runs + r) m o) u
              (subst (λ (at : ℕ). Turn count i₀ s₀ (n + 1) k' at (runs + r) m o) q
              (subst (λ (k : ℕ). Turn count i₀ s₀ (n + 1) k at (runs + r) m o) p y)))

-- ---- a repeat

module _ (mesh sizes : List ℕ) (gs : List Given) (depth i : ℕ) (s : Sharding) where
  abbrev whole : Judged StepsRead
  whole = repeat_at (blocks.inner_at mesh sizes (steps_bytes gs) depth (i + 1)) (steps_bytes gs) (i + 1) (place_of gs i + 1) s

  pub repeat-halts : {a b : ℕ} → blocks.head_at depth (i + 1) (steps_bytes gs) (place_of gs i + 1) ≡ refuse a b → summarized i whole ≡ refuse a b
  repeat-halts e =
      ap (summarized i) (blocks-plain.summary-stops mesh sizes (i + 1) 0 s whole (head-halts mesh sizes (steps_bytes gs) depth (i + 1) (place_of gs i + 1) s 0 e))

  module _ {count number : ℕ} (e : blocks.head_at depth (i + 1) (steps_bytes gs) (place_of gs i + 1) ≡ accept (record { count = count; number = number })) where
    pub inside-halts : {a b : ℕ} → inner_steps mesh sizes (steps_bytes gs) depth (i + 1) (place_of gs i + 1) s number ≡ refuse a b → summarized i whole ≡ refuse a b
    inside-halts q =
        ap (summarized i) (blocks-plain.summary-stops mesh sizes (i + 1) 0 s whole (inner-halts mesh sizes (steps_bytes gs) depth (i + 1) (place_of gs i + 1) s e 0 q))

    pub closes : (place runs : ℕ) {d : StepsRead} {s' : Sharding} → inner_steps mesh sizes (steps_bytes gs) depth (i + 1) (place_of gs i + 1) s number ≡ accept d
        → place + 1 ≡ i + 1 + 1 + length d.records → runs ≡ length d.steps → s' ≡ d.sharding
        → summarized i whole ≡ ◌>>◌ (need_at (i + 1) (same_sharding s' s) 41) (◌>>◌ (need_at (i + 1) (leb (count * runs) most_run) 43)
        (accept (record { value = record { runs = count * runs; sharding = s' }; next = place })))
    closes place runs {d} {s'} q p-is r-is s-is =
        ap (summarized i) (by-inner mesh sizes (steps_bytes gs) depth (i + 1) (place_of gs i + 1) s e q
        ∙ (λ j. ◌>>◌ (need_at (i + 1) (same_sharding (sym s-is j) s) 41) (◌>>◌ (need_at (i + 1) (leb (count * sym r-is j) most_run) 43) (accept all))))
        ∙ sym (go (same_sharding s' s) (leb (count * runs) most_run))
      where
        all : StepsRead
        all = record {
          records = repeat count number ∷ d.records;
          steps = flat (replicate count d.steps);
          sharding = d.sharding;
          next = d.next;
        }

        places : place ≡ i + length all.records
        places = omega (arith, p-is)

        runs_are : count * runs ≡ length (flat (replicate count d.steps))
        runs_are = ap (λ (r : ℕ). count * r) r-is ∙ sym (length-times count d.steps)

        go : (b c : Bool) → ◌>>◌ (need_at (i + 1) b 41) (◌>>◌ (need_at (i + 1) c 43)
            (accept (record { value = record { runs = count * runs; sharding = s' }; next = place })))
            ≡ summarized i (◌>>◌ (need_at (i + 1) b 41) (◌>>◌ (need_at (i + 1) c 43) (accept all)))
        go true true = λ j. accept (record { value = record { runs = runs_are j; sharding = s-is j }; next = places j })
        go true false = refl
        go false c = refl
