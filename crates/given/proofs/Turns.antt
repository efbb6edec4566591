-- The outermost steps in turn: `Turning` holds at each of them; `turn-stops`, `turn-over` and `turns-done` are the ways out. Assumes nothing.
use Prim.Native.Nat.{ℕ, zero, suc, ◌+◌, ◌-◌, ◌≤◌, ◌<◌}
use mathlib.Core.Path.{◌≡◌, refl, ap, ◌∙◌, subst}
use mathlib.Core.Bool.{Bool, true, false}
use mathlib.Core.List.{List, ◌∷◌, ◌++◌}
use native.Mathlib.Omega.{arith}
use borrow.Author.Tests.{le-leb, lt-leb}
use lib.ListN.{length, get_or}
use lib.Dec.{leb}
use Rattle.rules.specs.Limits.{most_run, most_depth, every_kind}
use Rattle.rules.specs.Sharding.{Sharding, IsSharding}
use Rattle.rules.specs.Refusals.{Judged, accept, refuse, ◌>>=◌, ◌>>◌, need_at}
use Rattle.rules.specs.PlanFile.{Read, StepsRead, item_at, Outermost, outermost_at}
use Rattle.laws.proofs.Repeats.{Told, item-tells}
use Rattle.laws.proofs.Bytes.{Takes, item-takes}
use Rattle.laws.proofs.Turns.{steps-sharding}
use Rattle.records.specs.Records.{Given, steps_bytes}
use Rattle.records.specs.RoundTrip.{AllRanked}
use Rattle.given.specs.Given.{place_of, Summary, summarized, verdict_of}
use Rattle.given.proofs.Ends.{Ends, item-ends}
use Rattle.given.proofs.Inside.{summary-inv, summary-stops}

module _ (mesh sizes : List ℕ) (gs : List Given) where
  abbrev file : List ℕ
  file = steps_bytes gs

  abbrev turns : (ran count k at : ℕ) → Sharding → Judged (Unit {0})
  turns ran count k at s = verdict_of (outermost_at every_kind mesh sizes file ran count k at s)

  -- the steps after the first of them
  abbrev others : (ran count k : ℕ) → StepsRead → Judged (Unit {0})
  others ran count k w =
      ◌>>◌ (need_at k (leb (ran + length w.steps) most_run) 43) (turns (ran + length w.steps) count (k + length w.records) w.next w.sharding)

  first_of : (ran count k at : ℕ) (s : Sharding) {j : Judged StepsRead} → 0 < count → item_at every_kind mesh sizes file most_depth k at s ≡ j
      → turns ran count k at s ≡ ◌>>=◌ j (others ran (count - 1) k)
  unfolding outermost_at
  first_of ran zero k at s h e = absurd (omega arith)
  first_of ran (suc count) k at s {j} h e =
      let z : count ≡ suc count - 1 = omega arith in
      go (item_at every_kind mesh sizes file most_depth k at s) ∙ ap (λ (j : Judged StepsRead). ◌>>=◌ j (others ran count k)) e
      ∙ ap (λ (n : ℕ). ◌>>=◌ j (others ran n k)) z
    where
      joined : StepsRead → Outermost → Outermost
      joined t ts = record { records = t.records ++ ts.records; steps = t.steps ++ ts.steps; runs = length t.steps ∷ ts.runs; next = ts.next }

      last : (t : StepsRead) (x : Judged Outermost) → verdict_of (◌>>=◌ x (λ ts. accept (joined t ts))) ≡ verdict_of x
      last t (accept o) = refl
      last t (refuse a b) = refl

      mid : (t : StepsRead) (b : Bool) (x : Judged Outermost)
          → verdict_of (◌>>◌ (need_at k b 43) (◌>>=◌ x (λ ts. accept (joined t ts)))) ≡ ◌>>◌ (need_at k b 43) (verdict_of x)
      mid t true x = last t x
      mid t false x = refl

      go : (x : Judged StepsRead)
          → verdict_of (◌>>=◌ x (λ t. ◌>>◌ (need_at k (leb (ran + length t.steps) most_run) 43)
          (◌>>=◌ (outermost_at every_kind mesh sizes file (ran + length t.steps) count (k + length t.records) t.next t.sharding) (λ ts. accept (joined t ts)))))
          ≡ ◌>>=◌ x (others ran count k)
      go (accept t) = mid t (leb (ran + length t.steps) most_run) (outermost_at every_kind mesh sizes file (ran + length t.steps) count (k + length t.records) t.next t.sharding)
      go (refuse a b) = refl

  -- n of the outermost steps are judged
  pub record Turning (count : ℕ) (s₀ : Sharding) (n place ran : ℕ) (s : Sharding) : Type 0 where
    pub few : n ≤ count
    pub inside : place ≤ length gs
    pub sound : IsSharding mesh sizes s
    pub ran_few : ran ≤ most_run
    pub same : verdict_of (outermost_at every_kind mesh sizes (steps_bytes gs) 0 count 1 0 s₀) ≡ turns ran (count - n) (place + 1) (place_of gs place) s

  pub turns-start : (count : ℕ) (s₀ : Sharding) → IsSharding mesh sizes s₀ → Turning count s₀ 0 0 0 s₀
  unfolding steps_bytes
  turns-start count s₀ h =
      let z : count ≡ count - 0 = omega arith in
      record { few = omega arith; inside = omega arith; sound = h; ran_few = omega arith; same = ap (λ (n : ℕ). turns 0 n 1 0 s₀) z }

  module _ {count : ℕ} {s₀ : Sharding} {n place ran : ℕ} {s : Sharding} (g : Turning count s₀ n place ran s) where
    pub turns-done : count ≤ n → verdict_of (outermost_at every_kind mesh sizes (steps_bytes gs) 0 count 1 0 s₀) ≡ accept tt
    unfolding outermost_at
    turns-done h = let z : count - n ≡ 0 = omega arith in g.same ∙ ap (λ (m : ℕ). turns ran m (place + 1) (place_of gs place) s) z

    pub turn-stops : {a b : ℕ} → n < count → summarized place (item_at every_kind mesh sizes (steps_bytes gs) most_depth (place + 1) (place_of gs place) s) ≡ refuse a b
        → verdict_of (outermost_at every_kind mesh sizes (steps_bytes gs) 0 count 1 0 s₀) ≡ refuse a b
    turn-stops h e = g.same ∙ first_of ran (count - n) (place + 1) (place_of gs place) s (omega arith) (summary-stops place _ e)

    module _ (ranked : AllRanked (length sizes) gs) (pos : (a : ℕ) → 0 < get_or mesh a 1) (h : n < count) {runs' place' : ℕ} {s' : Sharding}
        (e : summarized place (item_at every_kind mesh sizes (steps_bytes gs) most_depth (place + 1) (place_of gs place) s)
        ≡ accept (record { value = record { runs = runs'; sharding = s' }; next = place' })) where
      -- what is read of it
      pub record Turned : Type 0 where
        pub item : StepsRead
        pub reads : item_at every_kind mesh sizes (steps_bytes gs) most_depth (place + 1) (place_of gs place) s ≡ accept item
        pub runs_are : length item.steps ≡ runs'
        pub sharding_is : item.sharding ≡ s'
        pub place_is : place + length item.records ≡ place'
        pub next_is : item.next ≡ place_of gs place'
        pub inside : place' ≤ length gs
        pub further : place < place'
        pub few : runs' ≤ most_run

      pub turned : Turned
      turned =
          let x = summary-inv place (item_at every_kind mesh sizes (steps_bytes gs) most_depth (place + 1) (place_of gs place) s)
          (record { value = record { runs = runs'; sharding = s' }; next = place' }) e in
          let w : StepsRead = x.0 in
          let p-is : place + length w.records ≡ place' = ap (λ (r : Read Summary). r.next) x.2 in
          let r-is : length w.steps ≡ runs' = ap (λ (r : Read Summary). r.value.runs) x.2 in
          let z : Ends mesh sizes gs ranked place w = item-ends mesh sizes gs ranked most_depth (place + 1) place s w g.inside x.1 in
          let t : Takes mesh sizes (steps_bytes gs) (place_of gs place) w = item-takes mesh sizes (steps_bytes gs) every_kind most_depth (place + 1) (place_of gs place) s w x.1 in
          record {
            item = w;
            reads = x.1;
            runs_are = r-is;
            sharding_is = ap (λ (r : Read Summary). r.value.sharding) x.2;
            place_is = p-is;
            next_is = z.next_is ∙ ap (place_of gs) p-is;
            inside = omega (arith, z.inside, p-is);
            further = omega (arith, t.some, p-is);
            few = omega (arith, t.few, r-is);
          }

      then-others : verdict_of (outermost_at every_kind mesh sizes (steps_bytes gs) 0 count 1 0 s₀)
          ≡ ◌>>◌ (need_at (place + 1) (leb (ran + runs') most_run) 43) (turns (ran + runs') (count - (n + 1)) (place' + 1) (place_of gs place') s')
      then-others =
          let t = turned in
          let k-is : place + 1 + length t.item.records ≡ place' + 1 = omega (arith, t.place_is) in
          let m : count - n - 1 ≡ count - (n + 1) = omega arith in
          g.same ∙ first_of ran (count - n) (place + 1) (place_of gs place) s (omega arith) t.reads
          ∙ (λ j. ◌>>◌ (need_at (place + 1) (leb (ran + t.runs_are j) most_run) 43) (turns (ran + t.runs_are j) (m j) (k-is j) (t.next_is j) (t.sharding_is j)))

      pub turn-over : most_run < ran + runs' → verdict_of (outermost_at every_kind mesh sizes (steps_bytes gs) 0 count 1 0 s₀) ≡ refuse 43 (place + 1)
      turn-over o =
          then-others ∙ ap (λ (b : Bool). ◌>>◌ (need_at (place + 1) b 43) (turns (ran + runs') (count - (n + 1)) (place' + 1) (place_of gs place') s')) (lt-leb _ _ o)

      pub turn_step : ran + runs' ≤ most_run → Turning count s₀ (n + 1) place' (ran + runs') s'
      turn_step o =
          let t = turned in
          let u : Told mesh sizes (steps_bytes gs) s t.item = item-tells mesh sizes (steps_bytes gs) every_kind most_depth (place + 1) (place_of gs place) s t.item t.reads in
          record {
            few = omega arith;
            inside = t.inside;
            sound = subst (IsSharding mesh sizes) (u.ends ∙ t.sharding_is) (steps-sharding mesh sizes pos s t.item.steps g.sound u.fine);
            ran_few = o;
            same = then-others
                ∙ ap (λ (b : Bool). ◌>>◌ (need_at (place + 1) b 43) (turns (ran + runs') (count - (n + 1)) (place' + 1) (place_of gs place') s')) (le-leb _ _ o);
          }
