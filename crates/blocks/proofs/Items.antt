-- A repeat, from its two bytes over its inner steps to its end (`closes`), and an item, which is a repeat or a plain step. Assumes nothing.
use Prim.Native.Nat.{ℕ, zero, suc, ◌+◌, ◌-◌, ◌*◌, max}
use mathlib.Core.Path.{◌≡◌, refl, sym, ap, ◌∙◌, subst}
use mathlib.Core.Bool.{Bool, true, false}
use mathlib.Core.List.{List, ◌∷◌}
use native.Mathlib.Omega.{arith}
use lib.ListN.{length, replicate}
use lib.Dec.{T, leb}
use Rattle.rules.specs.Lists.{flat}
use Rattle.rules.specs.Limits.{most_run, every_kind}
use Rattle.rules.specs.Sharding.{Sharding}
use Rattle.rules.specs.Refusals.{Judged, accept, refuse, ◌>>=◌, ◌>>◌, need_at}
use Rattle.rules.specs.PlanFile.{Read, repeat, StepsRead, steps_at, plain_at, positive_at, same_sharding, repeat_at, is_repeat, item_with, too_deep, item_at}
use Rattle.rules.specs.Moved.{added_on, moved_from}
use Rattle.laws.specs.Demands.{one_pass, largest_on}
use Rattle.types.specs.Types.{sharding_of}
use Rattle.types.specs.declared.Sharding as code
use Rattle.laws.proofs.Turns.{length-times}
use Rattle.laws.proofs.Repeats.{sharding-eq, Told, steps-tell, item-tells}
use Rattle.laws.proofs.Moved.{added-times}
use Rattle.blocks.specs.Blocks.{Head, not_too_deep, head_at, inner_at, shard_words, summarized, steps_of, closed}
use Rattle.blocks.specs.declared.StepsJudged.{StepsJudged}

-- ---- the end of a block, by its two tests

module _ (k count rank : ℕ) (before : code.Sharding) (block : StepsJudged) where
  pub changed : same_sharding (sharding_of rank block.sharding) (sharding_of rank before) ≡ false → closed k count rank before block ≡ refuse 41 k
  changed e = rw e refl

  module _ (e : same_sharding (sharding_of rank block.sharding) (sharding_of rank before) ≡ true) where
    pub too_many : leb (count * block.runs) most_run ≡ false → closed k count rank before block ≡ refuse 43 k
    too_many f = rw (e, f) refl

    pub is-closed : leb (count * block.runs) most_run ≡ true
        → closed k count rank before block ≡ accept (steps_of rank (record {
          at = block.at;
          number = block.number;
          runs = count * block.runs;
          largest = block.largest;
          moved = count * block.moved;
          sharding = block.sharding;
        }))
    is-closed f = rw (e, f) refl

-- ---- a repeat

module _ (mesh sizes file : List ℕ) (depth k at : ℕ) (s : Sharding) where
  abbrev pub whole_repeat : Judged StepsRead
  whole_repeat = repeat_at (inner_at mesh sizes file depth k) file k at s

  -- the inner steps, and the end of the block
  abbrev pub inner_steps : ℕ → Judged StepsRead
  inner_steps number = steps_at (item_at every_kind mesh sizes file (depth - 1)) number (k + 1) (at + 2) s

  abbrev pub ended : (count number : ℕ) → StepsRead → Judged StepsRead
  ended count number b = do
    need_at k (same_sharding b.sharding s) 41
    need_at k (leb (count * length b.steps) most_run) 43
    accept (record {
      records = repeat count number ∷ b.records;
      steps = flat (replicate count b.steps);
      sharding = b.sharding;
      next = b.next;
    })

  abbrev behind : Head → Judged StepsRead
  behind h = ◌>>=◌ (inner_steps h.number) (ended h.count h.number)

  pub by-head : whole_repeat ≡ ◌>>=◌ (head_at depth k file at) behind
  unfolding repeat_at head_at
  by-head = go depth refl (positive_at k file at) (positive_at k file (at + 1))
    where
      go : (d : ℕ) → d ≡ depth → (a b : Judged ℕ)
          → ◌>>=◌ a (λ c. ◌>>=◌ b (λ n. ◌>>=◌ (inner_at mesh sizes file d k n (k + 1) (at + 2) s) (ended c n)))
          ≡ ◌>>=◌ (◌>>=◌ a (λ c. ◌>>=◌ b (λ n. ◌>>◌ {B = Head} (not_too_deep d k) (accept (record { count = c; number = n }))))) behind
      go d e (refuse x y) b = refl
      go d e (accept c) (refuse x y) = refl
      go zero e (accept c) (accept n) = refl
      go (suc d) e (accept c) (accept n) =
          let z : d ≡ depth - 1 = omega arith in
          ap (λ (m : ℕ). ◌>>=◌ (steps_at (item_at every_kind mesh sizes file m) n (k + 1) (at + 2) s) (ended c n)) z

  pub head-halts : (largest : ℕ) {a b : ℕ} → head_at depth k file at ≡ refuse a b → summarized mesh sizes k largest s whole_repeat ≡ refuse a b
  head-halts largest e = ap (summarized mesh sizes k largest s) (by-head ∙ ap (λ (j : Judged Head). ◌>>=◌ j behind) e)

  module _ {count number : ℕ} (e : head_at depth k file at ≡ accept (record { count = count; number = number })) where
    pub by-inner : {j : Judged StepsRead} → inner_steps number ≡ j → whole_repeat ≡ ◌>>=◌ j (ended count number)
    by-inner q =
        by-head ∙ ap (λ (j : Judged Head). ◌>>=◌ j behind) e ∙ ap (λ (j : Judged StepsRead). ◌>>=◌ j (ended count number)) q

    pub inner-halts : (largest : ℕ) {a b : ℕ} → inner_steps number ≡ refuse a b → summarized mesh sizes k largest s whole_repeat ≡ refuse a b
    inner-halts largest q = ap (summarized mesh sizes k largest s) (by-inner q)

    pub closes : (largest : ℕ) {d : StepsRead} {number' runs largest' moved at' : ℕ} {s' : Sharding} → inner_steps number ≡ accept d
        → number' ≡ k + 1 + length d.records → runs ≡ length d.steps
        → largest' ≡ max largest (largest_on (shard_words mesh sizes) s (one_pass d.records)) → moved ≡ added_on (moved_from mesh sizes) s d.steps
        → s' ≡ d.sharding → at' ≡ d.next
        → summarized mesh sizes k largest s whole_repeat
        ≡ ◌>>◌ (need_at k (same_sharding s' s) 41) (◌>>◌ (need_at k (leb (count * runs) most_run) 43)
        (accept (record { value = record { number = number'; runs = count * runs; largest = largest'; moved = count * moved; sharding = s' }; next = at' })))
    closes largest {d} {number'} {runs} {largest'} {moved} {at'} {s'} q n_is r-is l-is m-is s-is a-is =
        ap (summarized mesh sizes k largest s) (by-inner q
        ∙ (λ i. ◌>>◌ (need_at k (same_sharding (sym s-is i) s) 41) (◌>>◌ (need_at k (leb (count * sym r-is i) most_run) 43) (accept all))))
        ∙ sym (go (same_sharding s' s) (leb (count * runs) most_run) (λ t. rounds (sharding-eq s' s t)))
      where
        all : StepsRead
        all = record {
          records = repeat count number ∷ d.records;
          steps = flat (replicate count d.steps);
          sharding = d.sharding;
          next = d.next;
        }

        numbers : number' ≡ k + suc (length d.records)
        numbers = omega (arith, n_is)

        runs_are : count * runs ≡ length (flat (replicate count d.steps))
        runs_are = ap (λ (r : ℕ). count * r) r-is ∙ sym (length-times count d.steps)

        -- a block that comes back moves as much in each of its rounds
        rounds : s' ≡ s → count * moved ≡ added_on (moved_from mesh sizes) s (flat (replicate count d.steps))
        rounds back =
            let u : Told mesh sizes file s d =
            steps-tell mesh sizes file _ (item-tells mesh sizes file every_kind (depth - 1)) number (k + 1) (at + 2) s d q in
            ap (λ (n : ℕ). count * n) m-is ∙ sym (added-times (moved_from mesh sizes) count d.steps s (u.ends ∙ sym s-is ∙ back))

        go : (b c : Bool) → (T b → count * moved ≡ added_on (moved_from mesh sizes) s (flat (replicate count d.steps))) → ◌>>◌ (need_at k b 41) (◌>>◌ (need_at k c 43)
            (accept (record { value = record { number = number'; runs = count * runs; largest = largest'; moved = count * moved; sharding = s' }; next = at' })))
            ≡ summarized mesh sizes k largest s (◌>>◌ (need_at k b 41) (◌>>◌ (need_at k c 43) (accept all)))
        go true true m = λ i. accept (record {
          value = record { number = numbers i; runs = runs_are i; largest = l-is i; moved = m tt i; sharding = s-is i };
          next = a-is i;
        })
        go true false m = refl
        go false c m = refl

-- ---- an item

module _ (mesh sizes file : List ℕ) (depth k at : ℕ) (s : Sharding) where
  pub item-repeat : is_repeat file at ≡ true → item_at every_kind mesh sizes file depth k at s ≡ repeat_at (inner_at mesh sizes file depth k) file k (at + 1) s
  unfolding item_at item_with
  item-repeat e = go depth
    where
      go : (d : ℕ) → item_at every_kind mesh sizes file d k at s ≡ repeat_at (inner_at mesh sizes file d k) file k (at + 1) s
      go zero = ap (λ (b : Bool). item_with b (too_deep k) mesh sizes file k at s) e
      go (suc d) = ap (λ (b : Bool). item_with b (steps_at (item_at every_kind mesh sizes file d)) mesh sizes file k at s) e

  pub item-plain : is_repeat file at ≡ false → item_at every_kind mesh sizes file depth k at s ≡ plain_at mesh sizes file k at s
  unfolding item_at item_with
  item-plain e = go depth
    where
      go : (d : ℕ) → item_at every_kind mesh sizes file d k at s ≡ plain_at mesh sizes file k at s
      go zero = ap (λ (b : Bool). item_with b (too_deep k) mesh sizes file k at s) e
      go (suc d) = ap (λ (b : Bool). item_with b (steps_at (item_at every_kind mesh sizes file d)) mesh sizes file k at s) e
