-- A plain step: what it asks of the two buffers (`plain-asks`), that its number fits (`plain-numbered`), that it is not refused (`plain-read`), and
-- what it leaves (`plain-ran`). Assumes nothing.
use Prim.Native.Nat.{ℕ, ◌+◌, ◌≤◌, ◌<◌, max}
use mathlib.Core.Path.{◌≡◌, refl, sym, ap, ◌∙◌, subst}
use mathlib.Core.Bool.{Bool}
use mathlib.Core.List.{List, [], ◌∷◌}
use native.Mathlib.Omega.{arith}
use lib.ListN.{length}
use Rattle.rules.specs.Lists.{pick, product}
use Rattle.rules.specs.Sharding.{Sharding, shard_sizes}
use Rattle.rules.specs.Spread.{add_words}
use Rattle.rules.specs.Collectives.{Step, after, stepped}
use Rattle.rules.specs.Limits.{most_bytes}
use Rattle.rules.specs.Refusals.{accept}
use Rattle.rules.specs.PlanFile.{Read, step_at, judge_step, plain, StepsRead, plain_at}
use Rattle.laws.specs.Demands.{largest_on}
use Rattle.types.specs.Types.{sharding_of, step_of, mesh_of, sizes_of}
use Rattle.types.specs.declared.Mesh.{Mesh}
use Rattle.types.specs.declared.Sharding as code
use Rattle.types.specs.declared.Table.{Table}
use Rattle.laws.proofs.Judging.{accept-inj, bind_inv}
use Rattle.laws.proofs.Steps.{facts}
use Rattle.laws.proofs.Bytes.{Takes, plain-takes}
use Rattle.std.specs.Prelude.{Result, Err}
use Rattle.types.specs.declared.Refusal.{Refusal}
use Rattle.laws.proofs.Judging.{never}
use Rattle.reader.specs.Reading.{reading}
use Rattle.reader.specs.declared.Read as code-read
use Rattle.taking.specs.Taking.{StepTaken, take_step, taken_of}
use Rattle.taking.specs.declared.Taken.{Taken}
use Rattle.taking.proofs.Takes.{step-taken}
use Rattle.step.proofs.Shards.{stepping}
use Rattle.rounds.specs.Rounds.{shape_of, Turning, Turned, stands_after, Leaves, sharding_on, CanRun, HasTaken, HasRun}
use Rattle.rounds.specs.declared.Progress.{Progress}
use Rattle.rounds.proofs.Memory.{step-leaves}
use Rattle.rounds.proofs.Steps.{less-room, pick-long, within}

pub plain-numbered : {file : List ℕ} {mesh : Mesh} {table : Table} {p : Progress} {work spare : ℕ}
    → CanRun (plain_at (mesh_of mesh) (sizes_of table) file) file mesh table p work spare → p.number < most_bytes
plain-numbered {file} {mesh} {table} {p} g =
    let t : Takes (mesh_of mesh) (sizes_of table) file p.at g.read =
    plain-takes (mesh_of mesh) (sizes_of table) file p.number p.at (sharding_on table p) g.read g.accepted in
    omega (arith, t.bytes, t.some, t.inside, g.number_few, g.short)

-- read again, a step that was accepted is not refused; `plain-asks` gives what it takes of a step of the run
pub plain-read : {file : List ℕ} {at k : ℕ} {mesh : Mesh} {table : Table} {sharding : code.Sharding} {here there : ℕ}
    → Turning file at k mesh table sharding here there → {r : Result (code-read.Read Taken) Refusal}
    → reading (taken_of table.rank) r ≡ take_step (mesh_of mesh) (sizes_of table) k file at (sharding_of table.rank sharding)
    → {x : Refusal} → r ≡ Err x → ⊥
plain-read {table = table} t e q = never (sym (ap (reading (taken_of table.rank)) q) ∙ e ∙ t.taken)

module _ {file : List ℕ} {mesh : Mesh} {table : Table} {p : Progress} (work spare : List ℕ)
    (g : CanRun (plain_at (mesh_of mesh) (sizes_of table) file) file mesh table p (length work) (length spare)) where
  abbrev s : Sharding
  s = sharding_on table p

  abbrev words : Sharding → ℕ
  words r = product (shard_sizes (mesh_of mesh) (sizes_of table) r.dims)

  abbrev taken_as : Step → ℕ → Read StepTaken
  taken_as t end = record { value = record { step = t; sharding = after t s }; next = end }

  abbrev read_steps_as : Step → ℕ → StepsRead
  read_steps_as t end = record { records = plain t ∷ []; steps = t ∷ []; sharding = after t s; next = end }

  -- the step that was accepted
  record Accepted : Type 0 where
    step : Step
    end : ℕ
    judged : judge_step (mesh_of mesh) (sizes_of table) p.number step s ≡ accept (after step s)
    taken : take_step (mesh_of mesh) (sizes_of table) p.number file p.at s ≡ accept (taken_as step end)
    read_is : read_steps_as step end ≡ g.read

  was : Accepted
  unfolding plain_at
  was =
      let t = bind_inv (step_at (length (mesh_of mesh)) (length (sizes_of table)) p.number file p.at) _ g.read g.accepted in
      let step : Step = t.0.value in
      let j = bind_inv (judge_step (mesh_of mesh) (sizes_of table) p.number step s) _ g.read t.2 in
      let a : after step s ≡ j.0 = (facts (mesh_of mesh) (sizes_of table) p.number step s j.0 j.1).1 in
      let judged : judge_step (mesh_of mesh) (sizes_of table) p.number step s ≡ accept (after step s) = j.1 ∙ ap accept (sym a) in
      record {
        step = step;
        end = t.0.next;
        judged = judged;
        taken = step-taken (mesh_of mesh) (sizes_of table) p.number file p.at s refl refl t.1 judged;
        read_is = ap (λ (r : Sharding). record { records = plain step ∷ []; steps = step ∷ []; sharding = r; next = t.0.next }) a ∙ accept-inj j.2;
      }

  pub plain-asks : Turning file p.at p.number mesh table p.sharding (length (pick p.in_work work spare)) (length (pick p.in_work spare work))
  plain-asks =
      let t : Step = was.step in
      let e : largest_on words s g.read.steps ≡ max (words s) (words (after t s)) = ap (λ (w : StepsRead). largest_on words s w.steps) (sym was.read_is) in
      let old : words s ≤ largest_on words s g.read.steps = omega (arith, e) in
      let new : words (after t s) ≤ largest_on words s g.read.steps = omega (arith, e) in
      record {
        ready = g.ready;
        move = taken_as t was.end;
        taken = was.taken;
        stepping = stepping p.number (within g) g.ready.sound was.judged
            (less-room (mesh_of mesh) old (pick-long p.in_work work spare g.work_room g.spare_room))
            (less-room (mesh_of mesh) new (pick-long p.in_work spare work g.spare_room g.work_room));
      }

  module _ {r : code-read.Read Taken} (work' spare' : List ℕ) (t : Turned file p.at p.number mesh table p.sharding (pick p.in_work work spare)
      (pick p.in_work spare work) (pick p.in_work work' spare') (pick p.in_work spare' work') r) where
    pub plain-ran : {b : Bool} → b ≡ stands_after (step_of table.rank r.value.step) p.in_work
        → HasRun (plain_at (mesh_of mesh) (sizes_of table) file) mesh table p work spare work' spare'
        (record { at = r.next; number = p.number + 1; in_work = b; sharding = r.value.sharding })
    plain-ran {b} q w e =
        let is : taken_as was.step was.end ≡ record { value = taken_of table.rank r.value; next = r.next } = accept-inj (sym was.taken ∙ sym t.taken) in
        let same : read_steps_as was.step was.end ≡ w = was.read_is ∙ accept-inj (sym g.accepted ∙ e) in
        let end : Progress = record { at = r.next; number = p.number + 1; in_work = b; sharding = r.value.sharding } in
        subst (λ (w : StepsRead). HasTaken w mesh table p work spare work' spare' end) same (record {
          at_is = sym (ap (λ (x : Read StepTaken). x.next) is);
          number_is = refl;
          sharding_is = sym (ap (λ (x : Read StepTaken). x.value.sharding) is);
          leaves = subst (λ (x : Step). Leaves (mesh_of mesh) (shape_of mesh table p.sharding) (x ∷ []) p.in_work work spare b work' spare')
              (sym (ap (λ (x : Read StepTaken). x.value.step) is)) (λ v f st.
              ap (λ (c : Bool). record { shards = stepped add_words (mesh_of mesh) (step_of table.rank r.value.step) v; in_work = c; work = work'; spare = spare' }) q
              ∙ step-leaves (mesh_of mesh) (step_of table.rank r.value.step) p.in_work v work spare work' spare' (t.leaves v f st) (t.keeps v f st));
        })
