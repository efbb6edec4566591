-- Laws of at most three steps in their places. Assumes nothing.
use Prim.Native.Nat.{◌≤◌, ℕ, suc, ◌<◌}
use mathlib.Core.Path.{◌≡◌, refl, sym, ap, ◌∙◌, subst}
use mathlib.Core.Bool.{Bool, true, false, not}
use mathlib.Core.List.{List, [], ◌∷◌, ◌++◌}
use native.Mathlib.Omega.{arith}
use borrow.Author.Tests.{eq-eqb, ne_eqb}
use lib.ListN.{length, set}
use lib.Dec.{eqb}
use Rattle.std.specs.Prelude.{Some}
use Rattle.rules.specs.Lists.{pick, flat}
use Rattle.rules.specs.Sharding.{Sharding}
use Rattle.rules.specs.Collectives.{Step, all_slice, all_gather, all_reduce}
use Rattle.rules.specs.PlanFile.{some}
use Rattle.types.specs.declared.Step as code
use Rattle.records.specs.Planning.{to_reduce, to_gather, to_slice, if_naming, plan_steps}
use Rattle.records.specs.declared.Steps.{Steps}
use Rattle.records.specs.PlanAnswer.{step_record_of, steps_from, step_count}

-- one step more in the first place that is free
pub one_more : (ts : List Step) (t : Step) → length ts < 3
    → ◌≡◌ {A = Steps} (record { 0 = set (steps_from ts).0 (step_count (steps_from ts)) (Some (step_record_of t)) }) (steps_from (ts ++ t ∷ []))
unfolding steps_from
one_more [] t h = refl
one_more (a ∷ []) t h = refl
one_more (a ∷ b ∷ []) t h = refl
one_more (a ∷ b ∷ c ∷ ts) t h = absurd (omega arith)

-- how many there are, where a place is free
room : (ts : List Step) → step_count (steps_from ts) < 3 → length ts < 3
unfolding steps_from
room [] h = omega arith
room (a ∷ []) h = omega arith
room (a ∷ b ∷ []) h = omega arith
room (a ∷ b ∷ c ∷ ts) h = absurd (omega (arith, h))

-- none of at most three is lost
pub all-counted : (ts : List Step) → length ts ≤ 3 → step_count (steps_from ts) ≡ length ts
unfolding steps_from
all-counted [] h = refl
all-counted (a ∷ []) h = refl
all-counted (a ∷ b ∷ []) h = refl
all-counted (a ∷ b ∷ c ∷ []) h = refl
all-counted (a ∷ b ∷ c ∷ d ∷ ts) h = absurd (omega (arith, h))

pub more : (s : Steps) (x : code.Step) (n : ℕ) → n ≡ step_count s → step_count s < 3 → (ts : List Step) (t : Step) → s ≡ steps_from ts → x ≡ step_record_of t
    → {b : Bool} → b ≡ true → record { 0 = set s.0 n (Some x) } ≡ steps_from (pick b (ts ++ t ∷ []) ts)
more s x n n-is h ts t e f {b} q =
    let l : length ts < 3 = room ts (subst (λ (z : Steps). step_count z < 3) e h) in
    (λ i. record { 0 = set (e i).0 ((n-is ∙ ap step_count e) i) (Some (f i)) }) ∙ one_more ts t l
    ∙ ap (λ (z : Bool). steps_from (pick z (ts ++ t ∷ []) ts)) (sym q)

pub kept : (s : Steps) (ts : List Step) (t : Step) → s ≡ steps_from ts → {b : Bool} → b ≡ false → s ≡ steps_from (pick b (ts ++ t ∷ []) ts)
kept s ts t e {b} q = e ∙ ap (λ (z : Bool). steps_from (pick z (ts ++ t ∷ []) ts)) (sym q)

pub some-long : (l : List ℕ) (n : ℕ) → n ≡ length l → {b : Bool} → b ≡ not (eqb n 0) → b ≡ some l
some-long [] n e {b} q = q ∙ rw (eq-eqb n 0 e) refl
some-long (a ∷ l) n e {b} q = q ∙ rw (ne_eqb n 0 (λ z. (let w : suc (length l) ≡ 0 = sym e ∙ z in omega arith))) refl

-- the three steps, one behind the other
joined : (a b c : Bool) (x y z : Step)
    → pick c (pick b (pick a ([] ++ x ∷ []) [] ++ y ∷ []) (pick a ([] ++ x ∷ []) []) ++ z ∷ []) (pick b (pick a ([] ++ x ∷ []) [] ++ y ∷ []) (pick a ([] ++ x ∷ []) []))
    ≡ pick a (x ∷ pick b (y ∷ pick c (z ∷ []) []) (pick c (z ∷ []) [])) (pick b (y ∷ pick c (z ∷ []) []) (pick c (z ∷ []) []))
joined true true true x y z = refl
joined true true false x y z = refl
joined true false true x y z = refl
joined true false false x y z = refl
joined false true true x y z = refl
joined false true false x y z = refl
joined false false true x y z = refl
joined false false false x y z = refl

-- the first, the first two, and all three, each left out where it names no axis
abbrev pub first_of : Bool → Step → List Step
first_of a x = pick a ([] ++ x ∷ []) []

abbrev pub second_of : (a b : Bool) → (x y : Step) → List Step
second_of a b x y = pick b (first_of a x ++ y ∷ []) (first_of a x)

pub none-room : {s : Steps} → s ≡ steps_from [] → step_count s < 3
unfolding steps_from
none-room e = subst (λ (z : Steps). step_count z < 3) (sym e) (omega arith)

pub first-room : (a : Bool) (x : Step) {s : Steps} → s ≡ steps_from (first_of a x) → step_count s < 3
unfolding steps_from
first-room true x e = subst (λ (z : Steps). step_count z < 3) (sym e) (omega arith)
first-room false x e = subst (λ (z : Steps). step_count z < 3) (sym e) (omega arith)

pub second-room : (a b : Bool) (x y : Step) {s : Steps} → s ≡ steps_from (second_of a b x y) → step_count s < 3
unfolding steps_from
second-room true true x y e = subst (λ (z : Steps). step_count z < 3) (sym e) (omega arith)
second-room true false x y e = subst (λ (z : Steps). step_count z < 3) (sym e) (omega arith)
second-room false true x y e = subst (λ (z : Steps). step_count z < 3) (sym e) (omega arith)
second-room false false x y e = subst (λ (z : Steps). step_count z < 3) (sym e) (omega arith)

pub three-steps : (start goal : Sharding) {a b c : Bool} {L : List ℕ} {Gs Ss : List (List ℕ)}
    → L ≡ to_reduce start goal → Gs ≡ to_gather start goal → Ss ≡ to_slice start goal → a ≡ some L → b ≡ some (flat Gs) → c ≡ some (flat Ss)
    → pick c (second_of a b (all_reduce L) (all_gather Gs) ++ all_slice Ss ∷ []) (second_of a b (all_reduce L) (all_gather Gs)) ≡ plan_steps start goal
unfolding plan_steps
three-steps start goal {a} {b} {c} {L} {Gs} {Ss} eL eG eS na nb nc =
    joined a b c (all_reduce L) (all_gather Gs) (all_slice Ss)
    ∙ (λ i. pick (na i) (all_reduce L ∷ pick (nb i) (all_gather Gs ∷ pick (nc i) (all_slice Ss ∷ []) []) (pick (nc i) (all_slice Ss ∷ []) []))
    (pick (nb i) (all_gather Gs ∷ pick (nc i) (all_slice Ss ∷ []) []) (pick (nc i) (all_slice Ss ∷ []) [])))
    ∙ (λ i. if_naming (all_reduce (eL i)) (if_naming (all_gather (eG i)) (if_naming (all_slice (eS i)) [])))
