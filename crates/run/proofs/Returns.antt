-- What the definition answers and leaves in each of the code's four ways out (`stops-file`, `stops-work`, `stops-spare`, `finishes`), and the last
-- state as the code has it (`last-size`, `last_fits`). Assumes nothing.
use Prim.Native.Nat.{ℕ, ◌-◌, ◌*◌, ◌≤◌, ◌<◌}
use mathlib.Core.Path.{◌≡◌, refl, sym, ap, ap₂, ◌∙◌}
use mathlib.Core.Bool.{Bool}
use mathlib.Core.List.{List, [], ◌++◌}
use native.Mathlib.Omega.{arith}
use borrow.Author.Tests.{lt-leb, le-leb}
use lib.ListN.{length, replicate}
use lib.Dec.{leb}
use Rattle.rules.specs.Lists.{product}
use Rattle.rules.specs.Mesh.{devices}
use Rattle.rules.specs.Sharding.{shard_sizes}
use Rattle.rules.specs.Limits.{most_devices, most_words}
use Rattle.rules.specs.Refusals.{accept, refuse}
use Rattle.rules.specs.PlanFile.{Plan, judge, announced_shape, room}
use Rattle.rules.specs.Moved.{words_moved}
use Rattle.rules.specs.Calls.{last_state, runnable, Ran, run_leaves, run_of}
use Rattle.laws.specs.Demands.{Fits}
use Rattle.laws.proofs.Accepted.{AcceptedPlan, accepted}
use Rattle.laws.proofs.Room.{state, room_few}
use Rattle.laws.proofs.Whole.{judged, run_is, run_fits, last-length}
use Rattle.plan.specs.Parts.{HoldsPlan, answer_of}
use Rattle.plan.specs.declared.Whole.{Whole}

-- ---- the four ways out

module _ (file work spare : List ℕ) where
  pub stops-file : {n k : ℕ} → judge file ≡ refuse n k → run_of file work spare ≡ record { outcome = refuse n k; moved = 0; work = work; spare = spare }
  unfolding run_of runnable
  stops-file e = rw e refl

  module _ {p : Plan} (e : judge file ≡ accept p) where
    abbrev left : Bool → Bool → Ran
    left b c = run_leaves (judged file p e work spare b c) work spare

    pub stops-work : length work < room p → run_of file work spare ≡ record { outcome = refuse 30 0; moved = 0; work = work; spare = spare }
    stops-work l = run_is file p e work spare ∙ ap (λ (b : Bool). left b (leb (room p) (length spare))) (lt-leb (room p) (length work) l)

    pub stops-spare : room p ≤ length work → length spare < room p → run_of file work spare ≡ record { outcome = refuse 31 0; moved = 0; work = work; spare = spare }
    stops-spare l m = run_is file p e work spare ∙ ap₂ left (le-leb (room p) (length work) l) (lt-leb (room p) (length spare) m)

    pub finishes : Fits p work spare → {moved : ℕ} {work' spare' : List ℕ} → words_moved p ≡ moved → work' ≡ last_state p work ++ replicate (length work - length (last_state p work)) 0
        → spare' ≡ replicate (length spare) 0 → run_of file work spare ≡ record { outcome = accept tt; moved = moved; work = work'; spare = spare' }
    finishes f m w s = run_fits file p e work spare f ∙ (λ i. record { outcome = accept tt; moved = m i; work = sym w i; spare = sym s i })

-- ---- the last state, as the code has it

module _ {file : List ℕ} {w : Whole} (h : (p : Plan) × (judge file ≡ accept p) × HoldsPlan file w p) where
  pub last-size : (given : List ℕ) → w.devices * product (answer_of w).shard ≡ length (last_state h.0 given)
  unfolding announced_shape
  last-size given =
      let p : Plan = h.0 in
      let g : HoldsPlan file w p = h.2 in
      sym (last-length (accepted file p h.1) given
      ∙ (λ i. g.devices_are i * product (shard_sizes (g.mesh_is i) (g.sizes_are i) (g.last_is i).dims)))

  pub record LastFits (buffer : ℕ) : Type 0 where
    pub inside : w.devices * product (answer_of w).shard ≤ buffer
    pub few : w.devices * product (answer_of w).shard ≤ most_devices * most_words

  pub last_fits : {buffer : ℕ} → w.devices * w.most ≤ buffer → LastFits buffer
  last_fits l =
      let p : Plan = h.0 in
      let a : AcceptedPlan p = accepted file p h.1 in
      let n : ℕ = length p.steps in
      let f : devices p.mesh * product (announced_shape p n) ≤ room p = (state a n).fits (omega arith) in
      let e : w.devices * product (answer_of w).shard ≡ devices p.mesh * product (announced_shape p n) = last-size [] ∙ last-length a [] in
      record { inside = omega (arith, e, f, h.2.room_is); few = omega (arith, e, f, room_few a) }
