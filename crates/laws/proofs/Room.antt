-- A shard has some words and at most the limit, under any sharding (`shard-words`). The states of an accepted plan: each is a sharding that names at
-- most six axes, its axes divide the devices, and the room holds it (`state`); the room is bounded (`room_few`). Records that omega reads. Assumes
-- nothing.
use Prim.Native.Nat.{ℕ, zero, suc, ◌+◌, ◌*◌, ◌<◌, ◌≤◌, max}
use mathlib.Core.Path.{◌≡◌, sym, subst}
use mathlib.Core.List.{List, [], ◌∷◌, ◌++◌}
use native.Mathlib.Nat.{mul-le-mul_left, mul-le-mul, le-mul_of_pos_right}
use native.Mathlib.Omega.{arith}
use native.Mathlib.Decide.{ℕ_discrete}
use lib.ListN.{length, take}
use Rattle.rules.specs.Lists.{tab, flat, product, largest}
use Rattle.rules.specs.Mesh.{span, devices, remaining}
use Rattle.rules.specs.Sharding.{Sharding, named, shard_sizes, IsSharding}
use Rattle.rules.specs.Collectives.{Step, after}
use Rattle.rules.specs.Limits.{most_axes, most_devices, most_words}
use Rattle.rules.specs.PlanFile.{Plan, announced, announced_shape, room}
use Rattle.laws.proofs.Lists.{few-distinct}
use Rattle.laws.proofs.Groups.{groups-devices}
use Rattle.laws.proofs.Sizes.{cut_product, span_pos}
use Rattle.laws.proofs.Steps.{sharding-cut}
use Rattle.laws.proofs.Turns.{Fine, steps-sharding}
use Rattle.laws.proofs.Accepted.{Within, AcceptedPlan}

-- ---- the largest of numbers

pub largest-snoc : (l : List ℕ) (n : ℕ) → largest (l ++ n ∷ []) ≡ max (largest l) n
largest-snoc [] n = omega arith
largest-snoc (m ∷ l) n = omega (arith, largest-snoc l n)

le-largest : (n k : ℕ) (f : ℕ → ℕ) → k < n → f k ≤ largest (tab n f)
le-largest zero k f h = absurd (omega arith)
le-largest (suc n) k f h = go (ℕ_discrete k n) (le-largest n k f)
  where
    go : Dec (k ≡ n) → (k < n → f k ≤ largest (tab n f)) → f k ≤ largest (tab n f ++ f n ∷ [])
    go (yes e) ih = rw (largest-snoc (tab n f) (f n), e) (omega arith)
    go (no d) ih = rw (largest-snoc (tab n f) (f n)) (omega (arith, ih (omega (arith, d))))

largest-le : (n b : ℕ) (f : ℕ → ℕ) → ((k : ℕ) → k < n → f k ≤ b) → largest (tab n f) ≤ b
largest-le zero b f h = omega arith
largest-le (suc n) b f h = rw (largest-snoc (tab n f) (f n)) (omega (arith, largest-le n b f (λ k l. h k (omega arith)), h n (omega arith)))

-- ---- steps in turn

pub fine-take : (mesh sizes : List ℕ) (k : ℕ) (s : Sharding) (ts : List Step) → Fine mesh sizes s ts → Fine mesh sizes s (take k ts)
fine-take mesh sizes zero s ts f = tt
fine-take mesh sizes (suc k) s [] f = tt
fine-take mesh sizes (suc k) s (t ∷ ts) f = (f.0, fine-take mesh sizes k (after t s) ts f.1)

-- the words of a shard under a sharding: some, and at most the limit
pub record ShardWords (words : ℕ) : Type 0 where
  pub words_pos : 0 < words
  pub words_few : words ≤ most_words

pub shard-words : (mesh sizes : List ℕ) → Within mesh sizes → (s : Sharding) → IsSharding mesh sizes s → ShardWords (product (shard_sizes mesh sizes s.dims))
shard-words mesh sizes w s h =
    let m : ℕ = product (shard_sizes mesh sizes s.dims) in
    let g : ℕ = span mesh (flat s.dims) in
    let e : product sizes ≡ m * g = cut_product mesh (sharding-cut mesh sizes w.sizes_pos s h) in
    let few : m ≤ product sizes = subst (λ z. m ≤ z) (sym e) (le-mul_of_pos_right m (span_pos mesh w.sizes_pos (flat s.dims))) in
    record { words_pos = pos-left m g (subst (λ z. 0 < z) e w.words_pos); words_few = omega (arith, few, w.words_few) }
  where
    pos-left : (m g : ℕ) → 0 < m * g → 0 < m
    pos-left zero g h = absurd (omega arith)
    pos-left (suc m) g h = omega arith

module _ {p : Plan} (a : AcceptedPlan p) where
  state-sharding : (k : ℕ) → IsSharding p.mesh p.sizes (announced p k)
  unfolding announced
  state-sharding k = steps-sharding p.mesh p.sizes a.within.sizes_pos p.start (take k p.steps) a.start_is (fine-take p.mesh p.sizes k p.start p.steps a.fine)

  -- every state fits the room
  state-fits : (k : ℕ) → k ≤ length p.steps → devices p.mesh * product (announced_shape p k) ≤ room p
  unfolding room
  state-fits k h = mul-le-mul_left (devices p.mesh) (le-largest (length p.steps + 1) k (λ j. product (announced_shape p j)) (omega arith))

  -- What code needs of state k.
  pub record State (k : ℕ) : Type 0 where
    pub sharding : IsSharding p.mesh p.sizes (announced p k)
    pub names-few : length (named (announced p k)) ≤ most_axes
    pub words : ShardWords (product (announced_shape p k))
    pub fits : k ≤ length p.steps → devices p.mesh * product (announced_shape p k) ≤ room p
    pub divides : span p.mesh (remaining p.mesh (named (announced p k))) * span p.mesh (named (announced p k)) ≡ devices p.mesh

  pub state : (k : ℕ) → State k
  unfolding announced_shape
  state k =
      let s : IsSharding p.mesh p.sizes (announced p k) = state-sharding k in
      record {
        sharding = s;
        names-few = omega (arith, few-distinct (length p.mesh) (named (announced p k)) s.once s.of_mesh, a.within.axes_few);
        words = shard-words p.mesh p.sizes a.within (announced p k) s;
        fits = state-fits k;
        divides = groups-devices p.mesh (named (announced p k)) s.once s.of_mesh;
      }

  -- "so at most" so many words
  pub room_few : room p ≤ most_devices * most_words
  unfolding room
  room_few =
      let w : largest (tab (length p.steps + 1) (λ k. product (announced_shape p k))) ≤ most_words =
      largest-le (length p.steps + 1) most_words (λ k. product (announced_shape p k)) (λ k l. (state k).words.words_few) in
      mul-le-mul a.within.devices_few w
