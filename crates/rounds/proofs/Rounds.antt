-- A repeat, and a loop over its rounds (`RoundsRun`): what holds before the first (`rounds-start`), that its inner steps may run again (`rounds-next`)
-- and keep it (`rounds-step`), and what it gives after the last (`rounds-done`). And a step of either kind: a repeat (`item-repeat`) or a plain one
-- (`item-plain`). Assumes nothing.
use Prim.Native.Nat.{ℕ, zero, suc, ◌+◌, ◌-◌, ◌*◌, ◌≤◌, ◌<◌}
use mathlib.Core.Path.{◌≡◌, refl, sym, ap, ◌∙◌, subst}
use mathlib.Core.Bool.{Bool, true, false}
use mathlib.Core.List.{List, ◌++◌, append_assoc, append-nil}
use native.Mathlib.Omega.{arith}
use native.Mathlib.Numerals.{add-one}
use lib.ListN.{length, get_or, replicate}
use Rattle.rules.specs.Lists.{in_turn, flat, product}
use Rattle.rules.specs.Mesh.{devices}
use Rattle.rules.specs.Sharding.{Sharding, shard_sizes}
use Rattle.rules.specs.Spread.{add_words}
use Rattle.rules.specs.Collectives.{Step, after, Shards, stepped}
use Rattle.rules.specs.Limits.{every_kind}
use Rattle.rules.specs.Refusals.{accept}
use Rattle.rules.specs.PlanFile.{StepsRead, JudgesSteps, steps_at, plain_at, is_repeat, item_with, too_deep, item_at}
use Rattle.laws.specs.Demands.{largest_on}
use Rattle.types.specs.Types.{mesh_of, sizes_of}
use Rattle.types.specs.declared.Mesh.{Mesh}
use Rattle.types.specs.declared.Table.{Table}
use Rattle.laws.proofs.Judging.{never, accept-inj}
use Rattle.laws.proofs.Turns.{in-turn-times, fine-times, steps-shape, largest-times}
use Rattle.laws.proofs.Repeats.{Told, steps-tell, item-tells, positive-inv, IsRepeat, repeat-inv}
use Rattle.rounds.specs.Rounds.{shape_of, Leaves, block_at, sharding_on, judged_from, CanRun, HasTaken, HasRun}
use Rattle.rounds.specs.declared.Progress.{Progress}
use Rattle.rounds.proofs.Memory.{leaves-append}

-- one round more
rounds-more : {A : Type 0} (n : ℕ) (l : List A) → flat (replicate (n + 1) l) ≡ flat (replicate n l) ++ l
rounds-more zero l = append-nil l
rounds-more {A} (suc n) l =
    rw (add-one (suc n)) (ap (λ (m : List A). l ++ m) (ap (λ (i : ℕ). flat (replicate i l)) (sym (add-one n)) ∙ rounds-more n l) ∙ sym (append_assoc l (flat (replicate n l)) l))

-- ---- a step of either kind

module _ (mesh sizes file : List ℕ) (depth k at : ℕ) (s : Sharding) {w : StepsRead} where
  pub item-repeat : is_repeat file at ≡ true → item_at every_kind mesh sizes file depth k at s ≡ accept w
      → (0 < depth) × (block_at mesh sizes file (depth - 1) k at s ≡ accept w)
  unfolding item_at item_with
  item-repeat r e = go depth e
    where
      go : (n : ℕ) → item_at every_kind mesh sizes file n k at s ≡ accept w → (0 < n) × (block_at mesh sizes file (n - 1) k at s ≡ accept w)
      go zero q = absurd (never (repeat-inv mesh sizes file (too_deep k) k (at + 1) s w (sym (ap (λ (b : Bool). item_with b (too_deep k) mesh sizes file k at s) r) ∙ q)).block_is)
      go (suc n) q =
          let z : suc n - 1 ≡ n = omega arith in (
            omega arith,
            ap (λ (m : ℕ). block_at mesh sizes file m k at s) z ∙ sym (ap (λ (b : Bool). item_with b (steps_at (item_at every_kind mesh sizes file n)) mesh sizes file k at s) r) ∙ q,
          )

  pub item-plain : is_repeat file at ≡ false → item_at every_kind mesh sizes file depth k at s ≡ accept w → plain_at mesh sizes file k at s ≡ accept w
  unfolding item_at item_with
  item-plain r e = go depth e
    where
      go : (n : ℕ) → item_at every_kind mesh sizes file n k at s ≡ accept w → plain_at mesh sizes file k at s ≡ accept w
      go zero q = sym (ap (λ (b : Bool). item_with b (too_deep k) mesh sizes file k at s) r) ∙ q
      go (suc n) q = sym (ap (λ (b : Bool). item_with b (steps_at (item_at every_kind mesh sizes file n)) mesh sizes file k at s) r) ∙ q

-- ---- rounds

module _ (mesh : Mesh) (table : Table) (file : List ℕ) (depth : ℕ) (from : Progress) where
  abbrev s : Sharding
  s = sharding_on table from

  abbrev inner : JudgesSteps
  inner = steps_at (item_at every_kind (mesh_of mesh) (sizes_of table) file depth)

  abbrev words : Sharding → ℕ
  words r = product (shard_sizes (mesh_of mesh) (sizes_of table) r.dims)

  abbrev run : List Step → Shards ℕ → Shards ℕ
  run ts v = in_turn (stepped add_words (mesh_of mesh)) ts v

  abbrev Shaped : Shards ℕ → Type 0
  Shaped v = v.shape ≡ shape_of mesh table from.sharding

  -- where a round begins
  abbrev first : Bool → Progress
  first in_work = record { at = from.at + 3; number = from.number + 1; in_work = in_work; sharding = from.sharding }

  -- a repeat that was accepted: its two bytes, its inner steps as they were judged, and that they lead back
  pub record Repeat (rounds number : ℕ) (w : StepsRead) : Type 0 where
    pub block : StepsRead
    pub some : 0 < rounds
    pub block_is : (b : Bool) → judged_from (inner number) table (first b) ≡ accept block
    pub told : Told (mesh_of mesh) (sizes_of table) file s block
    pub back : in_turn after block.steps s ≡ s
    pub next_is : w.next ≡ block.next
    pub records-are : length w.records ≡ 1 + length block.records
    pub steps_are : w.steps ≡ flat (replicate rounds block.steps)
    pub sharding_is : w.sharding ≡ block.sharding

  module _ {works spares : ℕ} (g : CanRun (block_at (mesh_of mesh) (sizes_of table) file depth) file mesh table from works spares) where
    is : IsRepeat (mesh_of mesh) (sizes_of table) file inner from.number (from.at + 1) s g.read
    is = repeat-inv (mesh_of mesh) (sizes_of table) file inner from.number (from.at + 1) s g.read g.accepted

    -- the two bytes lie in the file
    pub bytes_inside : from.at + 2 < length file
    bytes_inside =
        let l = (positive-inv (mesh_of mesh) (sizes_of table) file from.number (from.at + 1 + 1) is.number is.number_is).0 in omega (arith, l)

    pub repeated : {rounds number : ℕ} → rounds ≡ get_or file (from.at + 1) 0 → number ≡ get_or file (from.at + 2) 0 → Repeat rounds number g.read
    repeated {rounds} {number} r n =
        let b : StepsRead = is.block in
        let two : from.at + 2 ≡ from.at + 1 + 1 = omega arith in
        let three : from.at + 3 ≡ from.at + 1 + 2 = omega arith in
        let c : rounds ≡ is.count = r ∙ (positive-inv (mesh_of mesh) (sizes_of table) file from.number (from.at + 1) is.count is.count_is).2 in
        let m : number ≡ is.number = n ∙ ap (λ (a : ℕ). get_or file a 0) two
        ∙ (positive-inv (mesh_of mesh) (sizes_of table) file from.number (from.at + 1 + 1) is.number is.number_is).2 in
        let told : Told (mesh_of mesh) (sizes_of table) file s b =
        steps-tell (mesh_of mesh) (sizes_of table) file (item_at every_kind (mesh_of mesh) (sizes_of table) file depth) (item-tells (mesh_of mesh) (sizes_of table) file every_kind depth)
        is.number (from.number + 1) (from.at + 1 + 2) s b is.block_is in
        record {
          block = b;
          some = subst (λ (x : ℕ). 0 < x) (sym c) is.count_pos;
          block_is = λ _. (λ i. inner (m i) (from.number + 1) (three i) s) ∙ is.block_is;
          told = told;
          back = told.ends ∙ is.back;
          next_is = ap (λ (w : StepsRead). w.next) (sym is.whole);
          records-are = ap (λ (w : StepsRead). length w.records) (sym is.whole) ∙ omega arith;
          steps_are = ap (λ (w : StepsRead). w.steps) (sym is.whole) ∙ ap (λ (x : ℕ). flat (replicate x b.steps)) (sym c);
          sharding_is = ap (λ (w : StepsRead). w.sharding) (sym is.whole);
        }

  -- i rounds have run
  pub record RoundsRun (rounds number : ℕ) (work₀ spare₀ : List ℕ) (i : ℕ) (here : Progress) (work spare : List ℕ) : Type 0 where
    pub can : CanRun (block_at (mesh_of mesh) (sizes_of table) file depth) file mesh table from (length work₀) (length spare₀)
    pub is-repeat : Repeat rounds number can.read
    pub few : i ≤ rounds
    pub last : 0 < i → (here.at ≡ is-repeat.block.next) × (here.number ≡ from.number + 1 + length is-repeat.block.records)
        × (sharding_on table here ≡ is-repeat.block.sharding)
    pub leaves : Leaves (mesh_of mesh) (shape_of mesh table from.sharding) (flat (replicate i is-repeat.block.steps))
        from.in_work work₀ spare₀ here.in_work work spare
    pub work-long : length work ≡ length work₀
    pub spare-long : length spare ≡ length spare₀

  pub rounds-start : {rounds number : ℕ} (work spare : List ℕ)
      → (g : CanRun (block_at (mesh_of mesh) (sizes_of table) file depth) file mesh table from (length work) (length spare))
      → rounds ≡ get_or file (from.at + 1) 0 → number ≡ get_or file (from.at + 2) 0 → RoundsRun rounds number work spare 0 from work spare
  rounds-start work spare g r n = record {
    can = g;
    is-repeat = repeated g r n;
    few = omega arith;
    last = λ h. absurd (omega arith);
    leaves = λ v h st. refl;
    work-long = refl;
    spare-long = refl;
  }

  module _ {rounds number : ℕ} {work₀ spare₀ : List ℕ} {i : ℕ} {here : Progress} {work spare : List ℕ}
      (g : RoundsRun rounds number work₀ spare₀ i here work spare) where
    abbrev block : StepsRead
    block = g.is-repeat.block

    pub rounds-next : CanRun (inner number) file mesh table (first here.in_work) (length work) (length spare)
    rounds-next =
        let e : largest_on words s g.can.read.steps ≡ largest_on words s block.steps =
        ap (largest_on words s) g.is-repeat.steps_are ∙ largest-times words rounds block.steps s g.is-repeat.some g.is-repeat.back in
        record {
          ready = g.can.ready;
          limits = g.can.limits;
          number_few = omega (arith, g.can.number_few);
          short = g.can.short;
          read = block;
          accepted = g.is-repeat.block_is here.in_work;
          work_room = subst (λ (n : ℕ). devices (mesh_of mesh) * n ≤ length work) e (omega (arith, g.work-long, g.can.work_room));
          spare_room = subst (λ (n : ℕ). devices (mesh_of mesh) * n ≤ length spare) e (omega (arith, g.spare-long, g.can.spare_room));
        }

    -- shards have the same shape again
    same_shape : (v : Shards ℕ) → Shaped v → Shaped (run (flat (replicate i block.steps)) v)
    same_shape v h =
        steps-shape (mesh_of mesh) (sizes_of table) g.can.ready.fits.sized.least add_words (flat (replicate i block.steps)) s v g.can.ready.sound
        (fine-times (mesh_of mesh) (sizes_of table) i block.steps s g.is-repeat.back g.is-repeat.told.fine) h
        ∙ ap (λ (x : Sharding). shard_sizes (mesh_of mesh) (sizes_of table) x.dims) (in-turn-times after i block.steps s g.is-repeat.back)

    pub rounds-step : i < rounds → {end : Progress} (work' spare' : List ℕ) → HasRun (inner number) mesh table (first here.in_work) work spare work' spare' end
        → length work' ≡ length work → length spare' ≡ length spare → RoundsRun rounds number work₀ spare₀ (i + 1) end work' spare'
    rounds-step h {end} work' spare' f lw ls =
        let ran : HasTaken block mesh table (first here.in_work) work spare work' spare' end = f block (g.is-repeat.block_is here.in_work) in
        let l : List Step = block.steps in
        record {
          can = g.can;
          is-repeat = g.is-repeat;
          few = omega arith;
          last = λ _. (ran.at_is, ran.number_is, ran.sharding_is);
          leaves = subst (λ (m : List Step). Leaves (mesh_of mesh) (shape_of mesh table from.sharding) m from.in_work work₀ spare₀ end.in_work work' spare')
              (sym (rounds-more i l)) (leaves-append (mesh_of mesh) (flat (replicate i l)) from.in_work work₀ spare₀ g.leaves l same_shape ran.leaves);
          work-long = lw ∙ g.work-long;
          spare-long = ls ∙ g.spare-long;
        }

    pub rounds-done : rounds ≤ i → HasRun (block_at (mesh_of mesh) (sizes_of table) file depth) mesh table from work₀ spare₀ work spare here
    rounds-done h w a =
        let r : Repeat rounds number g.can.read = g.is-repeat in
        let n : i ≡ rounds = omega (arith, g.few) in
        let l = g.last (omega (arith, r.some)) in
        subst (λ (w : StepsRead). HasTaken w mesh table from work₀ spare₀ work spare here) (accept-inj (sym g.can.accepted ∙ a)) (record {
          at_is = l.0 ∙ sym r.next_is;
          number_is = l.1 ∙ omega (arith, r.records-are);
          sharding_is = l.2 ∙ sym r.sharding_is;
          leaves = subst (λ (m : List Step). Leaves (mesh_of mesh) (shape_of mesh table from.sharding) m from.in_work work₀ spare₀ here.in_work work spare)
              (ap (λ (x : ℕ). flat (replicate x block.steps)) n ∙ sym r.steps_are) g.leaves;
        })
