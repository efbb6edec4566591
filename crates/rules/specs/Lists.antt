-- Lists: the few functions that the rules are written with. Nothing here is of document 01 itself.
-- `tab` and `each` make lists, `both`, `mem` and `keep` test their entries, `In`, `Distinct` and `All` say what such tests find.
-- Assumes nothing.
use Rattle.std.specs.Prelude.{ℕ, zero, suc, ◌+◌, ◌*◌, ◌<◌, max, ◌≡◌, ◌⊎◌, Bool, true, false, not, ◌&&◌, ◌||◌, List, [], ◌∷◌, ◌++◌, eqb}

-- a where the test holds, else b
abbrev pub pick {ℓ} : {A : Type ℓ} → Bool → A → A → A
pick true a b = a
pick false a b = b

-- f 0, f 1, .., f (n - 1)
abbrev pub tab {ℓ} : {A : Type ℓ} → ℕ → (ℕ → A) → List A
tab zero f = []
tab (suc n) f = tab n f ++ f n ∷ []

-- f of the entries of two lists, place by place
abbrev pub each : {A B C : Type 0} → (A → B → C) → List A → List B → List C
each f [] ys = []
each f (x ∷ xs) [] = []
each f (x ∷ xs) (y ∷ ys) = f x y ∷ each f xs ys

-- two lists have one length, and the test t holds of their entries, place by place
abbrev pub both : {A B : Type 0} → (A → B → Bool) → List A → List B → Bool
both t [] [] = true
both t [] (y ∷ ys) = false
both t (x ∷ xs) [] = false
both t (x ∷ xs) (y ∷ ys) = t x y && both t xs ys

-- f of each entry in turn, from b on
abbrev pub in_turn : {A B : Type 0} → (A → B → B) → List A → B → B
in_turn f [] b = b
in_turn f (a ∷ l) b = in_turn f l (f a b)

-- the entries of lists, one list after the other
abbrev pub flat {ℓ} : {A : Type ℓ} → List (List A) → List A
flat [] = []
flat (l ∷ ls) = l ++ flat ls

-- the sum, the product and the largest of numbers
abbrev pub total : List ℕ → ℕ
total [] = 0
total (n ∷ ns) = n + total ns

abbrev pub product : List ℕ → ℕ
product [] = 1
product (n ∷ ns) = n * product ns

abbrev pub largest : List ℕ → ℕ
largest [] = 0
largest (n ∷ ns) = max n (largest ns)

-- a is one of the list
unfoldable pub mem : ℕ → List ℕ → Bool
mem a [] = false
mem a (b ∷ l) = eqb a b || mem a l

-- the entries that pass a test, in their order
unfoldable pub keep : (ℕ → Bool) → List ℕ → List ℕ
keep t [] = []
keep t (a ∷ l) = pick (t a) (a ∷ keep t l) (keep t l)

-- the entries of l that are none of k
unfoldable pub without : List ℕ → List ℕ → List ℕ
unfolding keep mem
without l k = keep (λ a. not (mem a k)) l

-- the numbers below n that are in a list, in increasing order
unfoldable pub ascending : (n : ℕ) → List ℕ → List ℕ
unfolding keep mem
ascending n l = keep (λ a. mem a l) (tab n (λ a. a))

-- What the tests find: a is one of the list; no entry is there twice; P holds of each.
abbrev pub In : ℕ → List ℕ → Type 0
In a [] = ⊥
In a (b ∷ l) = (a ≡ b) ⊎ In a l

abbrev pub Distinct : List ℕ → Type 0
Distinct [] = Unit {0}
Distinct (a ∷ l) = (¬ In a l) × Distinct l

-- a proof of `All` has one for each entry: p & q & .. & done
infixr 5 ◌&◌
pub data All {A : Type 0} (P : A → Type 0) : List A → Type 0 where
  done : All P []
  ◌&◌ : {a : A} {l : List A} → P a → All P l → All P (a ∷ l)

-- xs and ns have one length, and each entry of xs is below that of ns
pub data Below : List ℕ → List ℕ → Type 0 where
  none : Below [] []
  more : {x n : ℕ} {xs ns : List ℕ} → x < n → Below xs ns → Below (x ∷ xs) (n ∷ ns)
