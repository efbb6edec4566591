-- Laws of row-major numbers (specs/Mesh.antt) and of buffers (specs/Spread.antt), over words of any type. The main ones: `number` and `coords` are
-- inverse (`coords-number`, `number-coords`), a buffer made of a state holds that state's words (`laid-held`), and the front of a buffer is made of the
-- state that the buffer holds (`held-laid`), however the devices are numbered. Assumes nothing.
use Prim.Native.Nat.{ℕ, ◌+◌, ◌*◌, ◌/◌, ◌%◌, ◌<◌, ◌≤◌}
use mathlib.Core.Path.{◌≡◌, refl, sym, ap, ap₂, ◌∙◌, subst}
use mathlib.Core.List.{List, [], ◌∷◌, ◌++◌}
use native.Mathlib.Nat.{mod-lt, div-add-mod'}
use native.Mathlib.Omega.{arith}
use lib.ListN.{length, get_or, take, get_or-append}
use lib.Seq.{ext_get_or, length-take-le, get_or-take}
use lib.Arith.{digits_lt, digits_div, digits_mod}
use Rattle.rules.specs.Lists.{tab, product, Below, none, more}
use Rattle.rules.specs.Mesh.{number, coords, devices}
use Rattle.rules.specs.Spread.{StateOf, tabulate, held}
use Rattle.laws.proofs.Lists.{length-tab, get_or-tab, tab-cong}
use Rattle.laws.proofs.Positions.{pos_of_lt, div-lt}

-- ---- row-major numbers, under any sizes

pub number_lt : {x ns : List ℕ} → Below x ns → number ns x < product ns
number_lt none = omega arith
number_lt (more l b) = digits_lt l (number_lt b)

pub coords-number : {x ns : List ℕ} → Below x ns → coords ns (number ns x) ≡ x
coords-number none = refl
coords-number (more {x} {ns} l b) =
    ap₂ (λ (c : ℕ) (cs : List ℕ). c ∷ cs) (digits_div x (number_lt b)) (ap (coords ns) (digits_mod x (number_lt b)) ∙ coords-number b)

pub below-coords : (ns : List ℕ) (k : ℕ) → k < product ns → Below (coords ns k) ns
below-coords [] k h = none
below-coords (n ∷ ns) k h = more (div-lt n (product ns) h) (below-coords ns (k % product ns) (mod-lt k (pos_of_lt n (product ns) h)))

pub number-coords : (ns : List ℕ) (k : ℕ) → k < product ns → number ns (coords ns k) ≡ k
number-coords [] k h = omega arith
number-coords (n ∷ ns) k h =
    ap (λ (r : ℕ). k / product ns * product ns + r) (number-coords ns (k % product ns) (mod-lt k (pos_of_lt n (product ns) h)))
    ∙ div-add-mod' k (product ns)

-- ---- buffers

-- The devices of a mesh are numbered, and found by their numbers.
pub record Numbering (mesh : List ℕ) (num : List ℕ → ℕ) (find : ℕ → List ℕ) : Type 0 where
  pub num_lt : {x : List ℕ} → Below x mesh → num x < devices mesh
  pub found : {x : List ℕ} → Below x mesh → find (num x) ≡ x
  pub below : (d : ℕ) → d < devices mesh → Below (find d) mesh
  pub numbered : (d : ℕ) → d < devices mesh → num (find d) ≡ d

module _ {W : Type 0} (mesh shape : List ℕ) (num : List ℕ → ℕ) (find : ℕ → List ℕ) (n : Numbering mesh num find) where
  -- the word of device x at index i is read back, whatever follows
  pub laid-held : (z : W) (w : StateOf W) (rest : List W) {x i : List ℕ} → Below x mesh → Below i shape
      → get_or (tab (devices mesh * product shape) (λ p. w (find (p / product shape)) (coords shape (p % product shape))) ++ rest)
      (num x * product shape + number shape i) z ≡ w x i
  laid-held z w rest {x} {i} bx bi =
      let m : ℕ = product shape in
      let p : ℕ = num x * m + number shape i in
      let l : p < devices mesh * m = digits_lt (n.num_lt bx) (number_lt bi) in
      let f : ℕ → W = λ p. w (find (p / m)) (coords shape (p % m)) in
      get_or-append (tab (devices mesh * m) f) rest z p (subst (λ n. p < n) (sym (length-tab (devices mesh * m) f)) l)
      ∙ get_or-tab (devices mesh * m) p f z l
      ∙ ap₂ w (ap find (digits_div (num x) (number_lt bi)) ∙ n.found bx) (ap (coords shape) (digits_mod (num x) (number_lt bi)) ∙ coords-number bi)

  -- the front of a buffer is the buffer of the state that it holds
  pub held-laid : (z : W) (b : List W) → devices mesh * product shape ≤ length b
      → tab (devices mesh * product shape) (λ p. get_or b (num (find (p / product shape)) * product shape + number shape (coords shape (p % product shape))) z)
      ≡ take (devices mesh * product shape) b
  held-laid z b h =
      let m : ℕ = product shape in
      let k : ℕ = devices mesh * m in
      ext_get_or z _ _ (length-tab k _ ∙ sym (length-take-le k b h)) (λ p g.
      let l : p < k = subst (λ j. p < j) (length-tab k _) g in
      let e : num (find (p / m)) * m + number shape (coords shape (p % m)) ≡ p =
      ap₂ (λ (d r : ℕ). d * m + r) (n.numbered (p / m) (div-lt (devices mesh) m l))
      (number-coords shape (p % m) (mod-lt p (pos_of_lt (devices mesh) m l)))
      ∙ div-add-mod' p m in
      get_or-tab k p _ z l ∙ ap (λ (j : ℕ). get_or b j z) e ∙ sym (get_or-take k b p z l))

  -- states with the same words have the same buffer
  pub laid_same : (v w : StateOf W) → ((x i : List ℕ) → Below x mesh → Below i shape → v x i ≡ w x i)
      → tab (devices mesh * product shape) (λ p. v (find (p / product shape)) (coords shape (p % product shape)))
      ≡ tab (devices mesh * product shape) (λ p. w (find (p / product shape)) (coords shape (p % product shape)))
  laid_same v w h =
      let m : ℕ = product shape in
      tab-cong (devices mesh * m) _ _ (λ p l. h (find (p / m)) (coords shape (p % m))
      (n.below (p / m) (div-lt (devices mesh) m l)) (below-coords shape (p % m) (mod-lt p (pos_of_lt (devices mesh) m l))))

-- by place
by_place : (mesh : List ℕ) → Numbering mesh (number mesh) (coords mesh)
by_place mesh = record { num_lt = number_lt; found = coords-number; below = below-coords mesh; numbered = number-coords mesh }

module _ {W : Type 0} (mesh shape : List ℕ) where
  pub length-tabulate : (w : StateOf W) → length (tabulate mesh shape w) ≡ devices mesh * product shape
  unfolding tabulate
  length-tabulate w = length-tab (devices mesh * product shape) _

  pub held-tabulate : (z : W) (w : StateOf W) (rest : List W) {x i : List ℕ} → Below x mesh → Below i shape
      → held z mesh shape (tabulate mesh shape w ++ rest) x i ≡ w x i
  unfolding tabulate held
  held-tabulate z w rest bx bi = laid-held mesh shape (number mesh) (coords mesh) (by_place mesh) z w rest bx bi

  pub tabulate-held : (z : W) (b : List W) → devices mesh * product shape ≤ length b
      → tabulate mesh shape (held z mesh shape b) ≡ take (devices mesh * product shape) b
  unfolding tabulate held
  tabulate-held z b h = held-laid mesh shape (number mesh) (coords mesh) (by_place mesh) z b h

  pub tabulate-same : (v w : StateOf W) → ((x i : List ℕ) → Below x mesh → Below i shape → v x i ≡ w x i)
      → tabulate mesh shape v ≡ tabulate mesh shape w
  unfolding tabulate
  tabulate-same v w h = laid_same mesh shape (number mesh) (coords mesh) (by_place mesh) v w h
