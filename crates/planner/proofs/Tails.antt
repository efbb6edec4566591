-- Laws of common beginnings and of what stands behind them. Assumes nothing.
use Prim.Native.Nat.{ℕ, suc, ◌+◌, ◌≤◌, ◌<◌, min}
use mathlib.Core.Path.{◌≡◌, refl, sym, ap, ap₂, ◌∙◌}
use mathlib.Core.Logic.{◌≢◌}
use mathlib.Core.Bool.{Bool}
use mathlib.Core.List.{List, [], ◌∷◌, ◌++◌}
use native.Mathlib.Omega.{arith}
use native.Mathlib.Decide.{ℕ_discrete, dec_lt}
use native.Mathlib.Numerals.{add-one}
use borrow.Author.Tests.{eq-eqb, ne_eqb}
use lib.ListN.{length, get_or, take, drop, drop_of_length-le, length-take, length-drop}
use lib.Seq.{take-suc, drop-append-le, length-take-le, take-length}
use lib.Dec.{eqb}
use Rattle.rules.specs.Lists.{each, pick}
use Rattle.axes.proofs.Going.{drop_at}
use Rattle.records.specs.Planning.{common, rest_of_start, rest_of_goal}

-- ---- the loop of `common`

pub record Common (s g : List ℕ) (i : ℕ) : Type 0 where
  pub in_start : i ≤ length s
  pub in_goal : i ≤ length g
  pub same : common s g ≡ i + common (drop i s) (drop i g)

pub common-none : (s g : List ℕ) → Common s g 0
common-none s g = record { in_start = omega arith; in_goal = omega arith; same = omega arith }

nothing_left : (s : List ℕ) → common s [] ≡ 0
nothing_left [] = refl
nothing_left (a ∷ s) = refl

module _ {s g : List ℕ} {i : ℕ} (c : Common s g i) where
  pub goal-ends : length g ≤ i → i ≡ common s g
  goal-ends h = sym (c.same ∙ ap (λ (l : List ℕ). i + common (drop i s) l) (drop_of_length-le g {i = i} h) ∙ omega (arith, nothing_left (drop i s)))

  pub start-ends : length s ≤ i → i ≡ common s g
  start-ends h = sym (c.same ∙ ap (λ (l : List ℕ). i + common l (drop i g)) (drop_of_length-le s {i = i} h) ∙ omega arith)

  -- where either ends
  pub one-ends : {n : ℕ} → n ≡ min (length s) (length g) → n ≡ i → n ≡ common s g
  one-ends {n} e h = h ∙ go (dec_lt i (length g))
    where
      go : Dec (i < length g) → i ≡ common s g
      go (yes l) = start-ends (omega (arith, e, h))
      go (no l) = goal-ends (omega arith)

  module _ (hs : i < length s) (hg : i < length g) {a b : ℕ} (ea : a ≡ get_or s i 0) (eb : b ≡ get_or g i 0) where
    here : common s g ≡ i + pick (eqb a b) (suc (common (drop (i + 1) s) (drop (i + 1) g))) 0
    here = c.same ∙ ap₂ (λ (l m : List ℕ). i + common l m) (drop_at s i a 0 hs ea) (drop_at g i b 0 hg eb)

    pub differ : a ≢ b → i ≡ common s g
    differ d = sym (here ∙ rw (ne_eqb a b d) (omega arith))

    pub agree : a ≡ b → Common s g (i + 1)
    agree e = record { in_start = omega arith; in_goal = omega arith; same = here ∙ rw (eq-eqb a b e) (omega arith) }

-- ---- the loop of `rest`

pub record Rest (l tail : List ℕ) (from i : ℕ) : Type 0 where
  pub low : from ≤ i
  pub high : i ≤ length l
  pub is : tail ≡ drop from (take i l)

pub rest-none : (l : List ℕ) (from : ℕ) → from ≤ length l → {tail : List ℕ} → tail ≡ [] → Rest l tail from from
rest-none l from h e = record { low = omega arith; high = h; is = e ∙ sym (drop_of_length-le (take from l) {i = from} (omega (arith, length-take-le from l h))) }

pub rest_more : {l tail : List ℕ} {from i : ℕ} → Rest l tail from i → i < length l → {a : ℕ} → a ≡ get_or l i 0 → {next : List ℕ} → next ≡ tail ++ (a ∷ []) → Rest l next from (i + 1)
rest_more {l} {tail} {from} {i} r h {a} e {next} q = record {
  low = omega (arith, r.low);
  high = omega arith;
  is = q ∙ ap₂ (λ (t : List ℕ) (x : ℕ). t ++ x ∷ []) r.is e
      ∙ sym (ap (λ (k : ℕ). drop from (take k l)) (add-one i) ∙ ap (drop from) (take-suc l i 0 h) ∙ drop-append-le from (take i l) (get_or l i 0 ∷ []) (omega (arith, r.low, length-take-le i l r.high)));
}

pub rest-room : {l tail : List ℕ} {from i : ℕ} → Rest l tail from i → length tail ≤ i
rest-room {l} {tail} {from} {i} r = omega (arith, ap length r.is, length-drop from (take i l), length-take i l)

pub rest_all : {l tail : List ℕ} {from i : ℕ} → Rest l tail from i → length l ≤ i → tail ≡ drop from l
rest_all {l} {tail} {from} {i} r h =
    let e : i ≡ length l = omega (arith, r.high) in
    r.is ∙ ap (drop from) (ap (λ (k : ℕ). take k l) e ∙ take-length l)

-- ---- the goal's rest is a rest with start and goal exchanged

eqb-sym : (a b : ℕ) → eqb a b ≡ eqb b a
eqb-sym a b = go (ℕ_discrete a b)
  where
    go : Dec (a ≡ b) → eqb a b ≡ eqb b a
    go (yes e) = eq-eqb a b e ∙ sym (eq-eqb b a (sym e))
    go (no d) = ne_eqb a b d ∙ sym (ne_eqb b a (λ e. d (sym e)))

common-sym : (s g : List ℕ) → common s g ≡ common g s
common-sym [] [] = refl
common-sym [] (b ∷ g) = refl
common-sym (a ∷ s) [] = refl
common-sym (a ∷ s) (b ∷ g) = ap₂ (λ (t : Bool) (k : ℕ). pick t (suc k) 0) (eqb-sym a b) (common-sym s g)

pub goal-rests : (ss gs : List (List ℕ)) → each rest_of_start gs ss ≡ each rest_of_goal ss gs
goal-rests [] [] = refl
goal-rests [] (g ∷ gs) = refl
goal-rests (s ∷ ss) [] = refl
goal-rests (s ∷ ss) (g ∷ gs) = ap₂ (λ (l : List ℕ) (ls : List (List ℕ)). l ∷ ls) (ap (λ (k : ℕ). drop k g) (common-sym g s)) (goal-rests ss gs)
