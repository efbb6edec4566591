-- What is read from a record on ends where a record ends: as many records further as were read (`item-ends`). Assumes nothing.
use Prim.Native.Nat.{ℕ, zero, suc, ◌+◌, ◌≤◌, ◌<◌}
use mathlib.Core.Path.{◌≡◌, refl, sym, ap, ◌∙◌, subst}
use mathlib.Core.Bool.{Bool, true, false}
use mathlib.Core.List.{List, [], ◌∷◌, ◌++◌}
use native.Mathlib.Omega.{arith}
use lib.ListN.{length, drop, length-drop, length-append}
use Rattle.rules.specs.Limits.{every_kind}
use Rattle.rules.specs.Refusals.{accept}
use Rattle.rules.specs.Sharding.{Sharding}
use Rattle.rules.specs.PlanFile.{judge_step, plain, repeat, StepsRead, JudgesStep, JudgesSteps, steps_at, plain_at, repeat_at, is_repeat, item_at}
use Rattle.laws.proofs.Judging.{never, accept-inj, then-inv, bind_inv}
use Rattle.laws.proofs.Repeats.{IsRepeat, repeat-inv}
use Rattle.blocks.specs.Blocks.{inner_at}
use Rattle.blocks.proofs.Items.{item-repeat, item-plain}
use Rattle.records.specs.Records.{Given, known, unknown, steps_bytes}
use Rattle.records.specs.Writing.{judge_counts}
use Rattle.records.specs.RoundTrip.{RankedStep, AllRanked}
use Rattle.records.proofs.Records.{read_none, read_plain, read-unknown, read-repeat}
use Rattle.given.specs.Given.{place_of}

pub ranked-drop : (rank : ℕ) (gs : List Given) (i : ℕ) → AllRanked rank gs → AllRanked rank (drop i gs)
ranked-drop rank [] zero r = r
ranked-drop rank [] (suc i) r = r
ranked-drop rank (g ∷ gs) zero r = r
ranked-drop rank (g ∷ gs) (suc i) r = ranked-drop rank gs i r.1

there : {A : Type 0} (l : List A) (i : ℕ) {g : A} {rest : List A} → drop i l ≡ g ∷ rest → i < length l
there l i {rest = rest} e = let z : length (drop i l) ≡ suc (length rest) = ap length e in omega (arith, z, length-drop i l)

other : {b : Bool} → b ≡ true → b ≡ false → ⊥
other e f = let z : ◌≡◌ {A = Bool} true false = sym e ∙ f in let y : ◌≡◌ {A = ℕ} 0 1 = cc in omega arith

module _ (mesh sizes : List ℕ) (gs : List Given) (ranked : AllRanked (length sizes) gs) where
  pub record Ends (i : ℕ) (w : StepsRead) : Type 0 where
    pub next_is : w.next ≡ place_of gs (i + length w.records)
    pub inside : i + length w.records ≤ length gs

  plain-ends : (k i : ℕ) (s : Sharding) (w : StepsRead) → is_repeat (steps_bytes gs) (place_of gs i) ≡ false
      → plain_at mesh sizes (steps_bytes gs) k (place_of gs i) s ≡ accept w → Ends i w
  plain-ends k i s w f e = go (drop i gs) refl
    where
      go : (l : List Given) → drop i gs ≡ l → Ends i w
      go [] d = absurd (never (sym ((read_none mesh sizes gs i d).1 k s) ∙ e))
      go (unknown ∷ rest) d = absurd (never (sym ((read-unknown mesh sizes gs i rest d).1 k s) ∙ e))
      go (known (repeat count number) ∷ rest) d = absurd (other (read-repeat mesh sizes gs i count number rest d).0 f)
      go (known (plain t) ∷ rest) d =
          let r : RankedStep (length sizes) t = (subst (AllRanked (length sizes)) d (ranked-drop (length sizes) gs i ranked)).0 in
          let a = then-inv (judge_counts (length mesh) _) _ w (sym ((read_plain mesh sizes gs i t rest d r).1 k s) ∙ e) in
          let b = bind_inv (judge_step mesh sizes k t s) _ w a.1 in
          subst (Ends i) (accept-inj b.2) (record { next_is = refl; inside = omega (arith, there gs i d) })

  pub steps-end : (one : JudgesStep) → ((k i : ℕ) (s : Sharding) (w : StepsRead) → i ≤ length gs → one k (place_of gs i) s ≡ accept w → Ends i w)
      → (count k i : ℕ) (s : Sharding) (w : StepsRead) → i ≤ length gs → steps_at one count k (place_of gs i) s ≡ accept w → Ends i w
  unfolding steps_at
  steps-end one g zero k i s w h e =
      let z : i ≡ i + 0 = omega arith in
      subst (Ends i) (accept-inj e) (record { next_is = ap (place_of gs) z; inside = omega arith })
  steps-end one g (suc count) k i s w h e =
      let t = bind_inv (one k (place_of gs i) s) _ w e in
      let u = bind_inv (steps_at one count (k + length t.0.records) t.0.next t.0.sharding) _ w t.2 in
      let a : Ends i t.0 = g k i s t.0 h t.1 in
      let b : Ends (i + length t.0.records) u.0 =
      steps-end one g count (k + length t.0.records) (i + length t.0.records) t.0.sharding u.0 a.inside
      (subst (λ (at : ℕ). steps_at one count (k + length t.0.records) at t.0.sharding ≡ accept u.0) a.next_is u.1) in
      let n : i + length t.0.records + length u.0.records ≡ i + length (t.0.records ++ u.0.records) =
      omega (arith, length-append t.0.records u.0.records) in
      subst (Ends i) (accept-inj u.2) (record { next_is = b.next_is ∙ ap (place_of gs) n; inside = omega (arith, b.inside, n) })

  repeat-ends : (inner : JudgesSteps)
      → ((count k i : ℕ) (s : Sharding) (w : StepsRead) → i ≤ length gs → inner count k (place_of gs i) s ≡ accept w → Ends i w)
      → (k i : ℕ) (s : Sharding) (w : StepsRead) → is_repeat (steps_bytes gs) (place_of gs i) ≡ true
      → repeat_at inner (steps_bytes gs) k (place_of gs i + 1) s ≡ accept w → Ends i w
  repeat-ends inner g k i s w f e = go (drop i gs) refl
    where
      go : (l : List Given) → drop i gs ≡ l → Ends i w
      go [] d = absurd (other f (read_none mesh sizes gs i d).0)
      go (unknown ∷ rest) d = absurd (other f (read-unknown mesh sizes gs i rest d).0)
      go (known (plain t) ∷ rest) d =
          let r : RankedStep (length sizes) t = (subst (AllRanked (length sizes)) d (ranked-drop (length sizes) gs i ranked)).0 in
          absurd (other f (read_plain mesh sizes gs i t rest d r).0)
      go (known (repeat count number) ∷ rest) d =
          let h : IsRepeat mesh sizes (steps_bytes gs) inner k (place_of gs i + 1) s w = repeat-inv mesh sizes (steps_bytes gs) inner k (place_of gs i + 1) s w e in
          let b : StepsRead = h.block in
          let q : inner h.number (k + 1) (place_of gs (i + 1)) s ≡ accept b =
          subst (λ (at : ℕ). inner h.number (k + 1) at s ≡ accept b) (read-repeat mesh sizes gs i count number rest d).1 h.block_is in
          let a : Ends (i + 1) b = g h.number (k + 1) (i + 1) s b (omega (arith, there gs i d)) q in
          let n : i + 1 + length b.records ≡ i + suc (length b.records) = omega arith in
          subst (Ends i) h.whole (record { next_is = a.next_is ∙ ap (place_of gs) n; inside = omega (arith, a.inside) })

  item_by : (depth k : ℕ) → ((count k' i' : ℕ) (s' : Sharding) (w' : StepsRead) → i' ≤ length gs
      → inner_at mesh sizes (steps_bytes gs) depth k count k' (place_of gs i') s' ≡ accept w' → Ends i' w')
      → (i : ℕ) (s : Sharding) (w : StepsRead) → item_at every_kind mesh sizes (steps_bytes gs) depth k (place_of gs i) s ≡ accept w → Ends i w
  item_by depth k g i s w e = go (is_repeat (steps_bytes gs) (place_of gs i)) refl
    where
      go : (b : Bool) → is_repeat (steps_bytes gs) (place_of gs i) ≡ b → Ends i w
      go true f =
          repeat-ends (inner_at mesh sizes (steps_bytes gs) depth k) g k i s w f
          (sym (item-repeat mesh sizes (steps_bytes gs) depth k (place_of gs i) s f) ∙ e)
      go false f = plain-ends k i s w f (sym (item-plain mesh sizes (steps_bytes gs) depth k (place_of gs i) s f) ∙ e)

  pub item-ends : (depth k i : ℕ) (s : Sharding) (w : StepsRead) → i ≤ length gs
      → item_at every_kind mesh sizes (steps_bytes gs) depth k (place_of gs i) s ≡ accept w → Ends i w
  item-ends zero k i s w h e = item_by zero k (λ count k' i' s' w' h' e'. absurd (never e')) i s w e
  item-ends (suc d) k i s w h e =
      item_by (suc d) k (steps-end (item_at every_kind mesh sizes (steps_bytes gs) d) (λ k' i' s' w' h' e'. item-ends d k' i' s' w' h' e')) i s w e
