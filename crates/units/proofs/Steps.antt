-- What the rest of a plan's steps is judged by, from any place on (`steps_rest`): the steps left of the innermost list, then those of the lists around it.
-- The first of them (`first`), the end of one (`step-done`), the head of a block (`block-open`): so the steps go on as the state does (`steps_on`).
-- Assumes nothing.
use Prim.Native.Nat.{ℕ, suc, ◌+◌, ◌*◌, max}
use mathlib.Core.Path.{◌≡◌, refl, ap, ap₂, ◌∙◌}
use mathlib.Core.Bool.{Bool, true, false}
use mathlib.Core.List.{List, [], ◌∷◌, ◌++◌}
use native.Mathlib.Omega.{arith}
use lib.ListN.{length, length-append}
use lib.Dec.{leb, eqb}
use Rattle.rules.specs.Lists.{in_turn}
use Rattle.rules.specs.Mesh.{devices}
use Rattle.rules.specs.Limits.{most_run, most_depth, every_kind}
use Rattle.rules.specs.Sharding.{Sharding, shard_sizes}
use Rattle.rules.specs.Collectives.{Step, after}
use Rattle.rules.specs.Refusals.{Judged, accept, refuse, ◌>>=◌, ◌>>◌, need, need_at}
use Rattle.rules.specs.PlanFile.{StepsRead, steps_at, same_sharding, item_at, Outermost, outermost_at}
use Rattle.rules.specs.Calls.{CheckAnswer}
use Rattle.laws.specs.Demands.{largest_on}
use Rattle.laws.proofs.Lists.{in-turn-append}
use Rattle.laws.proofs.Judging.{bind_assoc}
use Rattle.laws.proofs.Turns.{largest-append}
use Rattle.laws.proofs.Repeats.{item-tells}
use Rattle.blocks.specs.Blocks.{shard_words}
use Rattle.units.specs.Units.{Frame, depth_in}

-- what follows an accepted judgement may be changed for the same
pub bind-same : {A B : Type 0} (m : Judged A) (f g : A → Judged B) → ((a : A) → m ≡ accept a → f a ≡ g a) → ◌>>=◌ m f ≡ ◌>>=◌ m g
bind-same (accept a) f g h = h a refl
bind-same (refuse n k) f g h = refl

module _ (count : ℕ) (file mesh sizes : List ℕ) where
  -- "After the last step 9.": what is answered then
  abbrev pub passes : (largest at : ℕ) → Sharding → Judged CheckAnswer
  passes largest at s = do
    need (eqb at (length file)) 9
    accept (record {
      room = devices mesh * largest;
      devices = devices mesh;
      steps = count;
      rank = length sizes;
      sharding = s;
      shard = shard_sizes mesh sizes s.dims;
      moved = 0;
    })

  abbrev words : Sharding → ℕ
  words = shard_words mesh sizes

  -- so many outermost steps are left
  abbrev pub outer_rest : (left number ran largest at : ℕ) → Sharding → Judged CheckAnswer
  outer_rest left number ran largest at s = do
    ts ← outermost_at every_kind mesh sizes file ran left number at s
    passes (max largest (largest_on words s ts.steps)) ts.next (in_turn after ts.steps s)

  -- so many of the innermost list, whose repeats are open; `tested` is the test of the plan so far, where the list is the outermost one
  abbrev pub steps_rest : List Frame → (tested : Judged (Unit {0})) → (left number ran largest at : ℕ) → Sharding → Judged CheckAnswer
  steps_rest [] tested left number ran largest at s = ◌>>◌ tested (outer_rest left number ran largest at s)
  steps_rest (f ∷ fs) tested left number ran largest at s = do
    w ← steps_at (item_at every_kind mesh sizes file (depth_in (f ∷ fs))) left number at s
    need_at f.number (same_sharding w.sharding f.sharding) 41
    need_at f.number (leb (f.count * (ran + length w.steps)) most_run) 43
    steps_rest fs (need_at f.number (leb (f.ran + f.count * (ran + length w.steps)) most_run) 43) f.behind (number + length w.records)
        (f.ran + f.count * (ran + length w.steps)) (max largest (largest_on words s w.steps)) w.next w.sharding

  -- the test of the plan so far, after the step with number k
  abbrev pub so_far : (k ran : ℕ) → Judged (Unit {0})
  so_far k ran = need_at k (leb ran most_run) 43

  -- the block of f is read, and all around it is left
  abbrev pub close_rest : Frame → List Frame → (number ran largest at : ℕ) → Sharding → Judged CheckAnswer
  close_rest f fs number ran largest at s = do
    need_at f.number (same_sharding s f.sharding) 41
    need_at f.number (leb (f.count * ran) most_run) 43
    steps_rest fs (so_far f.number (f.ran + f.count * ran)) f.behind number (f.ran + f.count * ran) largest at s

  -- ---- the first of the steps that are left

  -- an item is read and judged: all behind it is left
  abbrev pub item_done : List Frame → (behind number ran largest : ℕ) → Sharding → StepsRead → Judged CheckAnswer
  item_done fs behind number ran largest s w =
      steps_rest fs (so_far number (ran + length w.steps)) behind (number + length w.records) (ran + length w.steps)
      (max largest (largest_on words s w.steps)) w.next w.sharding

  -- two lists of steps one after the other
  largest-on : (largest : ℕ) (s t : Sharding) (l m : List Step) → in_turn after l s ≡ t
      → max largest (largest_on words s (l ++ m)) ≡ max (max largest (largest_on words s l)) (largest_on words t m)
  largest-on largest s t l m e =
      ap (max largest) (largest-append words l m s ∙ ap (λ (z : Sharding). max (largest_on words s l) (largest_on words z m)) e) ∙ omega arith

  pub first : (fs : List Frame) (behind number ran largest at : ℕ) (s : Sharding)
      → steps_rest fs (accept tt) (suc behind) number ran largest at s
      ≡ ◌>>=◌ (item_at every_kind mesh sizes file (depth_in fs) number at s) (item_done fs behind number ran largest s)
  unfolding outermost_at steps_at
  first [] behind number ran largest at s =
      bind_assoc (item_at every_kind mesh sizes file most_depth number at s) _ _
      ∙ bind-same (item_at every_kind mesh sizes file most_depth number at s) _ _ (λ w e.
      go w (leb (ran + length w.steps) most_run) (item-tells mesh sizes file every_kind most_depth number at s w e).ends
      (outermost_at every_kind mesh sizes file (ran + length w.steps) behind (number + length w.records) w.next w.sharding))
    where
      go : (w : StepsRead) (b : Bool) → in_turn after w.steps s ≡ w.sharding → (j : Judged Outermost)
          → ◌>>=◌ (◌>>◌ (need_at number b 43) (◌>>=◌ j (λ (ts : Outermost). accept (record {
            records = w.records ++ ts.records;
            steps = w.steps ++ ts.steps;
            runs = length w.steps ∷ ts.runs;
            next = ts.next;
          })))) (λ (ts : Outermost). passes (max largest (largest_on words s ts.steps)) ts.next (in_turn after ts.steps s))
          ≡ ◌>>◌ (need_at number b 43) (◌>>=◌ j (λ (ts : Outermost).
          passes (max (max largest (largest_on words s w.steps)) (largest_on words w.sharding ts.steps)) ts.next (in_turn after ts.steps w.sharding)))
      go w false e j = refl
      go w true e (refuse a k) = refl
      go w true e (accept ts) = ap₂ (λ (l : ℕ) (t : Sharding). passes l ts.next t) (largest-on largest s w.sharding w.steps ts.steps e)
          (in-turn-append after w.steps ts.steps s ∙ ap (in_turn after ts.steps) e)
  first (f ∷ fs) behind number ran largest at s =
      bind_assoc (item_at every_kind mesh sizes file (depth_in (f ∷ fs)) number at s) _ _
      ∙ bind-same (item_at every_kind mesh sizes file (depth_in (f ∷ fs)) number at s) _ _ (λ w e.
      go w (item-tells mesh sizes file every_kind (depth_in (f ∷ fs)) number at s w e).ends
      (steps_at (item_at every_kind mesh sizes file (depth_in (f ∷ fs))) behind (number + length w.records) w.next w.sharding))
    where
      go : (w : StepsRead) → in_turn after w.steps s ≡ w.sharding → (j : Judged StepsRead)
          → ◌>>=◌ (◌>>=◌ j (λ (ts : StepsRead). accept (record {
            records = w.records ++ ts.records;
            steps = w.steps ++ ts.steps;
            sharding = ts.sharding;
            next = ts.next;
          }))) (λ (v : StepsRead). close_rest f fs (number + length v.records) (ran + length v.steps) (max largest (largest_on words s v.steps)) v.next v.sharding)
          ≡ ◌>>=◌ j (λ (ts : StepsRead). close_rest f fs (number + length w.records + length ts.records) (ran + length w.steps + length ts.steps)
          (max (max largest (largest_on words s w.steps)) (largest_on words w.sharding ts.steps)) ts.next ts.sharding)
      go w e (refuse a k) = refl
      go w e (accept ts) =
          let n : number + length (w.records ++ ts.records) ≡ number + length w.records + length ts.records = omega (arith, length-append w.records ts.records) in
          let r : ran + length (w.steps ++ ts.steps) ≡ ran + length w.steps + length ts.steps = omega (arith, length-append w.steps ts.steps) in
          let l = largest-on largest s w.sharding w.steps ts.steps e in
          λ i. close_rest f fs (n i) (r i) (l i) ts.next ts.sharding
