-- So many steps in turn, and a loop over them (`RowRun`): what holds before the first (`row-start`), that the next one may run (`row_next`) and keeps it
-- (`row_step`), and what it gives after the last (`row_done`). Assumes nothing.
use Prim.Native.Nat.{ℕ, zero, suc, ◌+◌, ◌-◌, ◌≤◌, ◌<◌, max}
use mathlib.Core.Path.{◌≡◌, refl, sym, ap, ◌∙◌, subst}
use mathlib.Core.List.{List, [], ◌++◌, append_assoc, append-nil}
use native.Mathlib.Omega.{arith}
use lib.ListN.{length, length-append}
use Rattle.rules.specs.Lists.{in_turn, product}
use Rattle.rules.specs.Sharding.{Sharding, shard_sizes, IsSharding}
use Rattle.rules.specs.Spread.{add_words}
use Rattle.rules.specs.Collectives.{Step, Shards, stepped}
use Rattle.rules.specs.Limits.{every_kind}
use Rattle.rules.specs.Refusals.{accept}
use Rattle.rules.specs.PlanFile.{StepsRead, JudgesStep, steps_at, item_at}
use Rattle.laws.specs.Demands.{largest_on}
use Rattle.types.specs.Types.{mesh_of, sizes_of}
use Rattle.types.specs.declared.Mesh.{Mesh}
use Rattle.types.specs.declared.Table.{Table}
use Rattle.laws.proofs.Lists.{in-turn-append}
use Rattle.laws.proofs.Judging.{accept-inj, bind_inv}
use Rattle.laws.proofs.Turns.{steps-sharding, steps-shape, largest-append}
use Rattle.laws.proofs.Repeats.{Told, item-tells}
use Rattle.laws.proofs.Bytes.{Takes, item-takes}
use Rattle.rounds.specs.Rounds.{shape_of, sharding_on, judged_from, CanRun, HasTaken, HasRun}
use Rattle.rounds.specs.declared.Progress.{Progress}
use Rattle.rounds.proofs.Memory.{leaves-append}
use Rattle.rounds.proofs.Steps.{less-room}

-- two one after the other
abbrev joined : StepsRead → StepsRead → StepsRead
joined t u = record { records = t.records ++ u.records; steps = t.steps ++ u.steps; sharding = u.sharding; next = u.next }

-- the first of some steps, and the others
record Split (one : JudgesStep) (n k at : ℕ) (s : Sharding) (w : StepsRead) : Type 0 where
  first : StepsRead
  others : StepsRead
  first_is : one k at s ≡ accept first
  others_are : steps_at one (n - 1) (k + length first.records) first.next first.sharding ≡ accept others
  whole : joined first others ≡ w

split : (one : JudgesStep) (n k at : ℕ) (s : Sharding) (w : StepsRead) → 0 < n → steps_at one n k at s ≡ accept w → Split one n k at s w
unfolding steps_at
split one zero k at s w h e = absurd (omega arith)
split one (suc n) k at s w h e =
    let t = bind_inv (one k at s) _ w e in
    let u = bind_inv (steps_at one n (k + length t.0.records) t.0.next t.0.sharding) _ w t.2 in
    let q : suc n - 1 ≡ n = omega arith in
    record {
      first = t.0;
      others = u.0;
      first_is = t.1;
      others_are = ap (λ (x : ℕ). steps_at one x (k + length t.0.records) t.0.next t.0.sharding) q ∙ u.1;
      whole = accept-inj u.2;
    }

-- no steps
abbrev none : ℕ → Sharding → StepsRead
none at s = record { records = []; steps = []; sharding = s; next = at }

no_steps : (one : JudgesStep) (n k at : ℕ) (s : Sharding) (w : StepsRead) → n ≡ 0 → steps_at one n k at s ≡ accept w → w ≡ none at s
unfolding steps_at
no_steps one zero k at s w h e = sym (accept-inj e)
no_steps one (suc n) k at s w h e = absurd (omega arith)

module _ (mesh : Mesh) (table : Table) (file : List ℕ) (depth : ℕ) where
  abbrev item : JudgesStep
  item = item_at every_kind (mesh_of mesh) (sizes_of table) file depth

  abbrev words : Sharding → ℕ
  words s = product (shard_sizes (mesh_of mesh) (sizes_of table) s.dims)

  abbrev run : List Step → Shards ℕ → Shards ℕ
  run ts v = in_turn (stepped add_words (mesh_of mesh)) ts v

  abbrev Shaped : Progress → Shards ℕ → Type 0
  Shaped p v = v.shape ≡ shape_of mesh table p.sharding

  -- i of the steps have run, and the others can
  pub record RowRun (count : ℕ) (from : Progress) (work₀ spare₀ : List ℕ) (i : ℕ) (here : Progress) (work spare : List ℕ) : Type 0 where
    pub few : i ≤ count
    pub done : StepsRead
    pub ran : HasTaken done mesh table from work₀ spare₀ work spare here
    pub shaped : (v : Shards ℕ) → Shaped from v → Shaped here (run done.steps v)
    pub rest : CanRun (steps_at item (count - i)) file mesh table here (length work) (length spare)
    pub whole : judged_from (steps_at item count) table from ≡ accept (joined done rest.read)
    pub work-long : length work ≡ length work₀
    pub spare-long : length spare ≡ length spare₀

  pub row-start : {count : ℕ} {from : Progress} (work spare : List ℕ) → CanRun (steps_at item count) file mesh table from (length work) (length spare)
      → RowRun count from work spare 0 from work spare
  row-start {count} {from} work spare g =
      let q : count - 0 ≡ count = omega arith in
      record {
        few = omega arith;
        done = none from.at (sharding_on table from);
        ran = record { at_is = refl; number_is = omega arith; sharding_is = refl; leaves = λ v h st. refl };
        shaped = λ v h. h;
        rest = record {
          ready = g.ready;
          limits = g.limits;
          number_few = g.number_few;
          short = g.short;
          read = g.read;
          accepted = ap (λ (n : ℕ). judged_from (steps_at item n) table from) q ∙ g.accepted;
          work_room = g.work_room;
          spare_room = g.spare_room;
        };
        whole = g.accepted;
        work-long = refl;
        spare-long = refl;
      }

  module _ {count : ℕ} {from : Progress} {work₀ spare₀ : List ℕ} {i : ℕ} {here : Progress} {work spare : List ℕ}
      (g : RowRun count from work₀ spare₀ i here work spare) where
    abbrev s : Sharding
    s = sharding_on table here

    pub row_done : count ≤ i → HasRun (steps_at item count) mesh table from work₀ spare₀ work spare here
    row_done h w a =
        let d : StepsRead = g.done in
        let e : g.rest.read ≡ none here.at s = no_steps item (count - i) here.number here.at s g.rest.read (omega arith) g.rest.accepted in
        let all : joined d g.rest.read ≡ d =
        ap (joined d) e ∙ (λ j. record { records = append-nil d.records j; steps = append-nil d.steps j; sharding = g.ran.sharding_is j; next = g.ran.at_is j }) in
        subst (λ (w : StepsRead). HasTaken w mesh table from work₀ spare₀ work spare here) (sym all ∙ accept-inj (sym g.whole ∙ a)) g.ran

    module _ (h : i < count) where
      apart : Split item (count - i) here.number here.at s g.rest.read
      apart = split item (count - i) here.number here.at s g.rest.read (omega arith) g.rest.accepted

      told : Told (mesh_of mesh) (sizes_of table) file s apart.first
      told = item-tells (mesh_of mesh) (sizes_of table) file every_kind depth here.number here.at s apart.first apart.first_is

      largest : largest_on words s g.rest.read.steps ≡ max (largest_on words s apart.first.steps) (largest_on words apart.first.sharding apart.others.steps)
      largest =
          ap (λ (w : StepsRead). largest_on words s w.steps) (sym apart.whole) ∙ largest-append words apart.first.steps apart.others.steps s
          ∙ ap (λ (x : Sharding). max (largest_on words s apart.first.steps) (largest_on words x apart.others.steps)) told.ends

      pub row_next : CanRun item file mesh table here (length work) (length spare)
      row_next =
          let l : largest_on words s apart.first.steps ≤ largest_on words s g.rest.read.steps = omega (arith, largest) in
          record {
            ready = g.rest.ready;
            limits = g.rest.limits;
            number_few = g.rest.number_few;
            short = g.rest.short;
            read = apart.first;
            accepted = apart.first_is;
            work_room = less-room (mesh_of mesh) l g.rest.work_room;
            spare_room = less-room (mesh_of mesh) l g.rest.spare_room;
          }

      module _ {end : Progress} (work' spare' : List ℕ) (f : HasRun item mesh table here work spare work' spare' end) where
        ran : HasTaken apart.first mesh table here work spare work' spare' end
        ran = f apart.first apart.first_is

        -- the others can run from there
        others : length work' ≡ length work → length spare' ≡ length spare → (c : ℕ) → c ≡ count - i - 1
            → CanRun (steps_at item c) file mesh table end (length work') (length spare')
        others lw ls c n =
            let u : StepsRead = apart.others in
            let q : sharding_on table end ≡ apart.first.sharding = ran.sharding_is in
            let l : largest_on words (sharding_on table end) u.steps ≤ largest_on words s g.rest.read.steps =
            subst (λ (x : Sharding). largest_on words x u.steps ≤ largest_on words s g.rest.read.steps) (sym q) (omega (arith, largest)) in
            let tk : Takes (mesh_of mesh) (sizes_of table) file here.at apart.first =
            item-takes (mesh_of mesh) (sizes_of table) file every_kind depth here.number here.at s apart.first apart.first_is in
            record {
              ready = record {
                fits = g.rest.ready.fits;
                sound = subst (IsSharding (mesh_of mesh) (sizes_of table)) (told.ends ∙ sym q)
                    (steps-sharding (mesh_of mesh) (sizes_of table) g.rest.ready.fits.sized.least s apart.first.steps g.rest.ready.sound told.fine);
              };
              limits = g.rest.limits;
              number_few = omega (arith, ran.number_is, ran.at_is, g.rest.number_few, tk.bytes);
              short = g.rest.short;
              read = u;
              accepted = (λ j. steps_at item (n j) (ran.number_is j) (ran.at_is j) (q j)) ∙ apart.others_are;
              work_room = less-room (mesh_of mesh) l (omega (arith, lw, g.rest.work_room));
              spare_room = less-room (mesh_of mesh) l (omega (arith, ls, g.rest.spare_room));
            }

        pub row_step : length work' ≡ length work → length spare' ≡ length spare → RowRun count from work₀ spare₀ (i + 1) end work' spare'
        unfolding others
        row_step lw ls =
            let d : StepsRead = g.done in
            let t : StepsRead = apart.first in
            let u : StepsRead = apart.others in
            let append : (v : Shards ℕ) → run (d.steps ++ t.steps) v ≡ run t.steps (run d.steps v) =
            in-turn-append (stepped add_words (mesh_of mesh)) d.steps t.steps in
            record {
              few = omega arith;
              done = joined d t;
              ran = record {
                at_is = ran.at_is;
                number_is = omega (arith, ran.number_is, g.ran.number_is, length-append d.records t.records);
                sharding_is = ran.sharding_is;
                leaves = leaves-append (mesh_of mesh) d.steps from.in_work work₀ spare₀ g.ran.leaves t.steps g.shaped ran.leaves;
              };
              shaped = λ v e. ap (λ (x : Shards ℕ). x.shape) (append v)
                  ∙ steps-shape (mesh_of mesh) (sizes_of table) g.rest.ready.fits.sized.least add_words t.steps s (run d.steps v) g.rest.ready.sound told.fine (g.shaped v e)
                  ∙ ap (λ (x : Sharding). shard_sizes (mesh_of mesh) (sizes_of table) x.dims) (told.ends ∙ sym ran.sharding_is);
              rest = others lw ls (count - (i + 1)) (omega arith);
              whole = g.whole ∙ ap (λ (w : StepsRead). accept (joined d w)) (sym apart.whole)
                  ∙ (λ j. accept (record {
                    records = sym (append_assoc d.records t.records u.records) j;
                    steps = sym (append_assoc d.steps t.steps u.steps) j;
                    sharding = u.sharding;
                    next = u.next;
                  }));
              work-long = lw ∙ g.work-long;
              spare-long = ls ∙ g.spare-long;
            }
