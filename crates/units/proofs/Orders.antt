-- Numbers of an order, one by one: when all are counted, they are an order exactly as the rules test it (`ordered-is`). Assumes nothing.
use Prim.Native.Nat.{ℕ, zero, suc, ◌+◌, ◌≤◌, ◌<◌}
use mathlib.Core.Path.{◌≡◌, refl, sym, ap, ap₂, ◌∙◌}
use mathlib.Core.Bool.{Bool, true, false, not, ◌&&◌, ◌||◌}
use mathlib.Core.List.{List, [], ◌∷◌, ◌++◌}
use native.Mathlib.Omega.{arith}
use native.Mathlib.Decide.{dec_lt, ℕ_discrete}
use borrow.Author.Tests.{lt-ltb, le-ltb, eq-eqb, ne_eqb}
use lib.ListN.{length, get_or, set, replicate, length-set, length-replicate}
use lib.Seq.{get_or-set_same, get_or-set_other}
use lib.Dec.{ltb, eqb}
use Rattle.rules.specs.Lists.{tab, in_turn, mem}
use Rattle.rules.specs.Mesh.{plain_order}
use Rattle.rules.specs.Limits.{most_devices}
use Rattle.rules.specs.PlanFile.{all_below, fresh, same, rearranges, order_allowed}
use Rattle.laws.proofs.Lists.{tab-cong}
use Rattle.units.specs.Units.{Numbers, counted, no_numbers}

-- a list of the first
pub tab-first {ℓ} : {A : Type ℓ} (n : ℕ) (g : ℕ → A) → tab (suc n) g ≡ g 0 ∷ tab n (λ k. g (suc k))
tab-first zero g = refl
tab-first {A = A} (suc n) g = ap (λ (l : List A). l ++ g (suc n) ∷ []) (tab-first n g)

-- whether numbers so far and these are an order
abbrev pub counted_all : (n : ℕ) → Numbers → List ℕ → Numbers
counted_all n t l = in_turn (λ a u. counted n u a) l t

abbrev pub ordered : (n : ℕ) → Numbers → List ℕ → Bool
ordered n t l = (counted_all n t l).fine && not (counted_all n t l).plain

and-true : (a : Bool) → a ≡ a && true
and-true true = refl
and-true false = refl

and-false : (a : Bool) → false ≡ a && false
and-false true = refl
and-false false = refl

-- the marks stand for the numbers before
pub record Marks (n : ℕ) (marks : List Bool) (before : List ℕ) : Type 0 where
  pub room : n ≤ length marks
  pub told : (d : ℕ) → d < n → get_or marks d false ≡ mem d before

marks-on : (n : ℕ) (marks : List Bool) (before : List ℕ) (a : ℕ) → Marks n marks before → Marks n (set marks a true) (a ∷ before)
unfolding mem
marks-on n marks before a g = record { room = omega (arith, length-set marks a true, g.room); told = λ d l. go d l (ℕ_discrete d a) }
  where
    go : (d : ℕ) → d < n → Dec (d ≡ a) → get_or (set marks a true) d false ≡ mem d (a ∷ before)
    go d l (yes e) =
        ap (λ (c : ℕ). get_or (set marks a true) c false) e ∙ get_or-set_same marks a true false (omega (arith, e, g.room))
        ∙ sym (ap (λ (t : Bool). t || mem d before) (eq-eqb d a e))
    go d l (no e) = get_or-set_other marks a d true false e ∙ g.told d l ∙ sym (ap (λ (t : Bool). t || mem d before) (ne_eqb d a e))

fine-is : (n : ℕ) (t : Numbers) (l before : List ℕ) → Marks n t.marks before → (counted_all n t l).fine ≡ t.fine && (all_below n l && fresh before l)
unfolding all_below fresh
fine-is n t [] before g = and-true t.fine
fine-is n t (a ∷ l) before g =
    fine-is n (counted n t a) l (a ∷ before) (marks-on n t.marks before a g) ∙ go (dec_lt a n) t.fine (all_below n l) (fresh (a ∷ before) l)
  where
    go : Dec (a < n) → (x y z : Bool)
        → (x && (ltb a n && not (get_or t.marks a false))) && (y && z) ≡ x && ((ltb a n && y) && (not (mem a before) && z))
    go (yes i) x y z = rw (lt-ltb a n i, g.told a i) (cases x y (not (mem a before)) z)
      where
        cases : (x y m z : Bool) → (x && m) && (y && z) ≡ x && (y && (m && z))
        cases false y m z = refl
        cases true true m z = refl
        cases true false true z = refl
        cases true false false z = refl
    go (no i) x y z = rw (le-ltb a n (omega (arith, i))) (cases x)
      where
        cases : (x : Bool) → (x && false) && (y && z) ≡ x && false
        cases true = refl
        cases false = refl

plain-is : (n : ℕ) (t : Numbers) (l : List ℕ) → (counted_all n t l).plain ≡ t.plain && same l (tab (length l) (λ i. t.count + i))
unfolding same
plain-is n t [] = and-true t.plain
plain-is n t (a ∷ l) =
    plain-is n (counted n t a) l
    ∙ go t.plain
    ∙ ap (λ (m : List ℕ). t.plain && same (a ∷ l) m) (sym (tab-first (length l) (λ i. t.count + i)))
  where
    z : t.count + 0 ≡ t.count
    z = omega arith

    shift : tab (length l) (λ i. t.count + 1 + i) ≡ tab (length l) (λ i. t.count + suc i)
    shift = tab-cong (length l) _ _ (λ i h. omega arith)

    go : (x : Bool) → (x && eqb a t.count) && same l (tab (length l) (λ i. t.count + 1 + i))
        ≡ x && (eqb a (t.count + 0) && same l (tab (length l) (λ i. t.count + suc i)))
    go true = λ i. eqb a (sym z i) && same l (shift i)
    go false = refl

-- the order as a whole
pub ordered-is : (n : ℕ) (l : List ℕ) → n ≤ most_devices → length l ≡ n → ordered n no_numbers l ≡ order_allowed n l
unfolding order_allowed rearranges mem
ordered-is n l few e =
    let g : Marks n no_numbers.marks [] = record { room = omega (arith, length-replicate most_devices false, few); told = λ d h. unmarked most_devices d } in
    let whole : rearranges n l ≡ all_below n l && fresh [] l = rw (eq-eqb (length l) n e) refl in
    let f : (counted_all n no_numbers l).fine ≡ rearranges n l = fine-is n no_numbers l [] g ∙ sym whole in
    let p : (counted_all n no_numbers l).plain ≡ same l (plain_order n) =
    plain-is n no_numbers l ∙ ap₂ (λ (k : ℕ) (f : ℕ → ℕ). same l (tab k f)) e (λ i k. zero-plus k i) in
    ap₂ (λ (x y : Bool). x && not y) f p
  where
    zero-plus : (k : ℕ) → 0 + k ≡ k
    zero-plus k = omega arith

    unmarked : (m d : ℕ) → get_or (replicate m false) d false ≡ false
    unmarked zero d = refl
    unmarked (suc m) zero = refl
    unmarked (suc m) (suc d) = unmarked m d
