-- Steps in turn: lists joined, lists run many times, and the largest of a number of the states on the way. Assumes nothing.
use Prim.Native.Nat.{ℕ, zero, suc, ◌+◌, ◌*◌, ◌<◌, ◌≤◌, max}
use mathlib.Core.Path.{◌≡◌, refl, sym, ap, ◌∙◌, subst}
use mathlib.Core.List.{List, [], ◌∷◌, ◌++◌, append-nil}
use native.Mathlib.Omega.{arith}
use native.Mathlib.Numerals.{add-one}
use lib.ListN.{length, get_or, take, replicate, length-append}
use Rattle.rules.specs.Lists.{tab, in_turn, flat, largest}
use Rattle.rules.specs.Sharding.{Sharding, shard_sizes, IsSharding}
use Rattle.rules.specs.Collectives.{Step, after, shape_after, Shards, stepped}
use Rattle.laws.proofs.Steps.{AcceptedStep, after-sharding, after-shape}
use Rattle.laws.specs.Demands.{largest_on}
use Rattle.laws.proofs.Lists.{in-turn-append}

-- each step of a list is accepted in turn, from the sharding s on
abbrev pub Fine : (mesh sizes : List ℕ) → Sharding → List Step → Type 0
Fine mesh sizes s [] = Unit {0}
Fine mesh sizes s (t ∷ ts) = AcceptedStep mesh sizes t s × Fine mesh sizes (after t s) ts

-- a list that leads back is run any number of times
pub in-turn-times : {A B : Type 0} (f : A → B → B) (n : ℕ) (l : List A) (b : B) → in_turn f l b ≡ b → in_turn f (flat (replicate n l)) b ≡ b
in-turn-times f zero l b e = refl
in-turn-times f (suc n) l b e = in-turn-append f l (flat (replicate n l)) b ∙ ap (in_turn f (flat (replicate n l))) e ∙ in-turn-times f n l b e

-- after some steps of any round it is where it was after them in the first
take_within : {A : Type 0} (j : ℕ) (l m : List A) → j ≤ length l → take j (l ++ m) ≡ take j l
take_within zero l m h = refl
take_within (suc j) [] m h = absurd (omega arith)
take_within {A} (suc j) (a ∷ l) m h = ap (λ (r : List A). a ∷ r) (take_within j l m (omega arith))

take_past : {A : Type 0} (l m : List A) (k : ℕ) → take (length l + k) (l ++ m) ≡ l ++ take k m
take_past [] m k = let z : 0 + k ≡ k = omega arith in ap (λ (n : ℕ). take n m) z
take_past {A} (a ∷ l) m k =
    let z : suc (length l) + k ≡ suc (length l + k) = omega arith in
    ap (λ (n : ℕ). take n (a ∷ l ++ m)) z ∙ ap (λ (r : List A). a ∷ r) (take_past l m k)

pub in-turn-round : {A B : Type 0} (f : A → B → B) (n : ℕ) (l : List A) (b : B) → in_turn f l b ≡ b → (i j : ℕ) → i < n → j ≤ length l
    → in_turn f (take (i * length l + j) (flat (replicate n l))) b ≡ in_turn f (take j l) b
in-turn-round f zero l b e i j h m = absurd (omega arith)
in-turn-round {A} f (suc n) l b e zero j h m =
    let z : 0 * length l + j ≡ j = omega arith in
    ap (λ (k : ℕ). in_turn f (take k (l ++ flat (replicate n l))) b) z ∙ ap (λ (r : List A). in_turn f r b) (take_within j l (flat (replicate n l)) m)
in-turn-round {A} f (suc n) l b e (suc i) j h m =
    let z : suc i * length l + j ≡ length l + (i * length l + j) = omega arith in
    ap (λ (k : ℕ). in_turn f (take k (l ++ flat (replicate n l))) b) z
    ∙ ap (λ (r : List A). in_turn f r b) (take_past l (flat (replicate n l)) (i * length l + j))
    ∙ in-turn-append f l (take (i * length l + j) (flat (replicate n l))) b ∙ ap (in_turn f (take (i * length l + j) (flat (replicate n l)))) e
    ∙ in-turn-round f n l b e i j (omega arith) m

pub length-times : {A : Type 0} (n : ℕ) (l : List A) → length (flat (replicate n l)) ≡ n * length l
length-times zero l = omega arith
length-times (suc n) l = length-append l (flat (replicate n l)) ∙ omega (arith, length-times n l)

module _ (mesh sizes : List ℕ) where
  pub fine-append : (l m : List Step) (s : Sharding) → Fine mesh sizes s l → Fine mesh sizes (in_turn after l s) m → Fine mesh sizes s (l ++ m)
  fine-append [] m s f g = g
  fine-append (t ∷ l) m s f g = (f.0, fine-append l m (after t s) f.1 g)

  pub fine-times : (n : ℕ) (l : List Step) (s : Sharding) → in_turn after l s ≡ s → Fine mesh sizes s l → Fine mesh sizes s (flat (replicate n l))
  fine-times zero l s e f = tt
  fine-times (suc n) l s e f =
      fine-append l (flat (replicate n l)) s f (subst (λ (z : Sharding). Fine mesh sizes z (flat (replicate n l))) (sym e) (fine-times n l s e f))

-- steps that are accepted in turn lead to a sharding, and shards have its shape after them, whatever the words
module _ (mesh sizes : List ℕ) (pos : (a : ℕ) → 0 < get_or mesh a 1) where
  pub steps-sharding : (s : Sharding) (ts : List Step) → IsSharding mesh sizes s → Fine mesh sizes s ts → IsSharding mesh sizes (in_turn after ts s)
  steps-sharding s [] h f = h
  steps-sharding s (t ∷ ts) h f = steps-sharding (after t s) ts (after-sharding mesh sizes pos t s h f.0) f.1

  pub steps-shape : {W : Type 0} (addAll : List W → W) (ts : List Step) (s : Sharding) (v : Shards W) → IsSharding mesh sizes s → Fine mesh sizes s ts
      → v.shape ≡ shard_sizes mesh sizes s.dims → (in_turn (stepped addAll mesh) ts v).shape ≡ shard_sizes mesh sizes (in_turn after ts s).dims
  unfolding stepped
  steps-shape addAll [] s v h f e = e
  steps-shape addAll (t ∷ ts) s v h f e =
      steps-shape addAll ts (after t s) _ (after-sharding mesh sizes pos t s h f.0) f.1
      (ap (shape_after mesh t) e ∙ after-shape mesh sizes pos t s h f.0)

-- the largest of a number of the states on the way, the first included
module _ (f : Sharding → ℕ) where
  pub first-largest : (s : Sharding) (l : List Step) → f s ≤ largest_on f s l
  first-largest s [] = omega arith
  first-largest s (t ∷ l) = omega arith

  pub last-largest : (s : Sharding) (l : List Step) → f (in_turn after l s) ≤ largest_on f s l
  last-largest s [] = omega arith
  last-largest s (t ∷ l) = omega (arith, last-largest (after t s) l)

  pub largest-append : (l m : List Step) (s : Sharding) → largest_on f s (l ++ m) ≡ max (largest_on f s l) (largest_on f (in_turn after l s) m)
  largest-append [] m s = omega (arith, first-largest s m)
  largest-append (t ∷ l) m s = omega (arith, largest-append l m (after t s))

  -- once is as good as many times
  pub largest-times : (n : ℕ) (l : List Step) (s : Sharding) → 0 < n → in_turn after l s ≡ s → largest_on f s (flat (replicate n l)) ≡ largest_on f s l
  largest-times zero l s h e = absurd (omega arith)
  largest-times (suc zero) l s h e = ap (largest_on f s) (append-nil l)
  largest-times (suc (suc n)) l s h e =
      largest-append l (flat (replicate (suc n) l)) s ∙ ap (λ (z : Sharding). max (largest_on f s l) (largest_on f z (flat (replicate (suc n) l)))) e
      ∙ ap (max (largest_on f s l)) (largest-times (suc n) l s (omega arith) e) ∙ omega arith

  -- it is the largest of them as a list
  tab-first : (n : ℕ) (g : ℕ → ℕ) → tab (suc n) g ≡ g 0 ∷ tab n (λ k. g (suc k))
  tab-first zero g = refl
  tab-first (suc n) g = ap (λ (l : List ℕ). l ++ g (suc n) ∷ []) (tab-first n g)

  pub largest-tab : (l : List Step) (s : Sharding) → largest (tab (length l + 1) (λ k. f (in_turn after (take k l) s))) ≡ largest_on f s l
  largest-tab [] s = omega arith
  largest-tab (t ∷ l) s =
      ap (λ (n : ℕ). largest (tab n (λ k. f (in_turn after (take k (t ∷ l)) s)))) (add-one (suc (length l)))
      ∙ ap largest (tab-first (suc (length l)) (λ k. f (in_turn after (take k (t ∷ l)) s)))
      ∙ ap (max (f s)) (ap (λ (n : ℕ). largest (tab n (λ k. f (in_turn after (take k l) (after t s))))) (sym (add-one (length l))) ∙ largest-tab l (after t s))
