-- Sizes in the places of an array, and an order that is none or is given. Assumes nothing.
use Prim.Native.Nat.{ℕ, ◌≤◌, ◌<◌, min}
use mathlib.Core.Path.{◌≡◌, refl, sym, ap, ◌∙◌}
use mathlib.Core.Logic.{◌≢◌}
use mathlib.Core.Bool.{Bool}
use mathlib.Core.List.{List, [], ◌∷◌, ◌++◌}
use native.Mathlib.Omega.{arith}
use native.Mathlib.Decide.{dec_lt}
use lib.ListN.{length, get_or, take, drop, replicate, length-append, length-take, length-drop, length-replicate}
use lib.Seq.{ext_get_or}
use Rattle.std.proofs.lemmas.Grind.{common_steps}
use Rattle.rules.specs.Lists.{tab}
use Rattle.rules.specs.Refusals.{accept, need}
use Rattle.rules.specs.PlanFile.{order_allowed}
use Rattle.types.specs.Types.{mesh_of, sizes_of}
use Rattle.types.specs.declared.Mesh.{Mesh}
use Rattle.types.specs.declared.Table.{Table}
use Rattle.laws.proofs.Lists.{length-tab, get_or-tab}
use Rattle.records.specs.Writing.{judge_order}
use Rattle.given.specs.Given.{mesh_from, table_from}

-- ---- sizes in the places of an array

-- as many as there are places, and 1 behind them
pub places-are : (sizes : List ℕ) (n count : ℕ) → count ≡ min (length sizes) n → take count sizes ++ drop count (replicate n 1) ≡ tab n (λ i. get_or sizes i 1)
places-are sizes n count e =
    let ones : List ℕ = replicate n 1 in
    let both : List ℕ = take count sizes ++ drop count ones in
    let f : ℕ → ℕ = λ i. get_or sizes i 1 in
    let long : length both ≡ length (tab n f) =
    omega (arith, e, length-append (take count sizes) (drop count ones), length-take count sizes, length-drop count ones, length-replicate {A = ℕ} n 1, length-tab n f) in
    ext_get_or 1 both (tab n f) long (λ i h. at i (omega (arith, h, long, length-tab n f)) ∙ sym (get_or-tab n i f 1 (omega (arith, h, long, length-tab n f))))
  where
    at : (i : ℕ) → i < n → get_or (take count sizes ++ drop count (replicate n 1)) i 1 ≡ get_or sizes i 1
    at i h = go (dec_lt i count)
      where
        go : Dec (i < count) → get_or (take count sizes ++ drop count (replicate n 1)) i 1 ≡ get_or sizes i 1
        go (yes l) = grind (arith, common_steps)
        go (no l) = grind (arith, common_steps)

six-places : (l : List ℕ) → length l ≤ 6
    → take (length l) (get_or l 0 1 ∷ get_or l 1 1 ∷ get_or l 2 1 ∷ get_or l 3 1 ∷ get_or l 4 1 ∷ get_or l 5 1 ∷ []) ≡ l
six-places [] h = refl
six-places (a ∷ []) h = refl
six-places (a ∷ b ∷ []) h = refl
six-places (a ∷ b ∷ c ∷ []) h = refl
six-places (a ∷ b ∷ c ∷ d ∷ []) h = refl
six-places (a ∷ b ∷ c ∷ d ∷ e ∷ []) h = refl
six-places (a ∷ b ∷ c ∷ d ∷ e ∷ f ∷ []) h = refl
six-places (a ∷ b ∷ c ∷ d ∷ e ∷ f ∷ g ∷ l) h = absurd (omega arith)

four-places : (l : List ℕ) → length l ≤ 4 → take (length l) (get_or l 0 1 ∷ get_or l 1 1 ∷ get_or l 2 1 ∷ get_or l 3 1 ∷ []) ≡ l
four-places [] h = refl
four-places (a ∷ []) h = refl
four-places (a ∷ b ∷ []) h = refl
four-places (a ∷ b ∷ c ∷ []) h = refl
four-places (a ∷ b ∷ c ∷ d ∷ []) h = refl
four-places (a ∷ b ∷ c ∷ d ∷ e ∷ l) h = absurd (omega arith)

pub mesh_is : {m : Mesh} (l : List ℕ) → length l ≤ 6 → m ≡ mesh_from l → (mesh_of m ≡ l) × (m.n ≡ length l)
mesh_is l h e = (ap mesh_of e ∙ six-places l h, ap (λ (m : Mesh). m.n) e)

pub table_is : {t : Table} (l : List ℕ) → length l ≤ 4 → t ≡ table_from l → (sizes_of t ≡ l) × (t.rank ≡ length l)
table_is l h e = (ap sizes_of e ∙ four-places l h, ap (λ (t : Table). t.rank) e)

-- ---- an order

pub order-none : (n : ℕ) (order : List ℕ) → length order ≡ 0 → judge_order n order ≡ accept tt
unfolding judge_order
order-none n [] e = refl
order-none n (d ∷ order) e = absurd (omega arith)

pub order-some : (n : ℕ) (order : List ℕ) {b : Bool} → length order ≢ 0 → order_allowed n order ≡ b → judge_order n order ≡ need b 19
unfolding judge_order
order-some n [] e q = absurd (e refl)
order-some n (d ∷ order) e q = ap (λ (t : Bool). need t 19) q
