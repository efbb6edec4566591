-- A whole plan, from the words that lie by device number to the last state by device number. Its steps know places alone. Under the plain order the two
-- are the same (`begins-plain`); under another one the start's shards go to their places (`start-stands`) and the last ones back (`last-numbered`,
-- `begins-ordered`). Assumes nothing.
use Prim.Native.Nat.{ℕ, ◌+◌, ◌*◌, ◌≤◌}
use mathlib.Core.Path.{◌≡◌, refl, sym, ap, ◌∙◌, subst}
use mathlib.Core.Bool.{Bool, true, false, not}
use mathlib.Core.List.{List, ◌++◌}
use native.Mathlib.Omega.{arith}
use lib.ListN.{length, take}
use lib.Seq.{take-length, take_at}
use Rattle.rules.specs.Lists.{tab, pick, in_turn, product}
use Rattle.rules.specs.Mesh.{devices, plain_order, Rearrangement}
use Rattle.rules.specs.Sharding.{shard_sizes}
use Rattle.rules.specs.Spread.{add_words, tabulate, tabulate_by, held_by}
use Rattle.rules.specs.Collectives.{Step, Shards, stepped, Stands}
use Rattle.rules.specs.Refusals.{accept}
use Rattle.rules.specs.PlanFile.{u16_at, edition, carries_order, Plan, judge, announced, announced_shape, room}
use Rattle.rules.specs.Calls.{shards_after, last_state}
use Rattle.types.specs.declared.Sharding as code
use Rattle.laws.proofs.Buffers.{length-tabulate}
use Rattle.laws.proofs.Judging.{accept-inj}
use Rattle.laws.proofs.Accepted.{accepted}
use Rattle.laws.proofs.Room.{state}
use Rattle.laws.proofs.Whole.{plan-shapes}
use Rattle.reader.specs.Reading.{order_of}
use Rattle.order.specs.Order.{words_by_place, places_of, ShardsFit}
use Rattle.order.proofs.Shards.{order-fits, inverse-fits, placed-stands, numbered, plain-stands, plain-tabulate}
use Rattle.plan.specs.Parts.{HoldsPlan}
use Rattle.plan.specs.declared.Whole.{Whole}
use Rattle.rounds.specs.Rounds.{shape_of}
use Rattle.run.specs.Runs.{Runs, RunsOrdered, StartStands, StepsTaken, LastNumbered, BeginsWithLast}

-- buffers of the same lengths, and the two for each other
pub as_long : {file : List ℕ} {w : Whole} {works spares work spare : ℕ} → Runs file w works spares → work ≡ works → spare ≡ spares → Runs file w work spare
as_long h e f = record { plan = h.plan; judged = h.judged; holds = h.holds; work_room = rw e h.work_room; spare_room = rw f h.spare_room }

pub swapped : {file : List ℕ} {w : Whole} {works spares : ℕ} → RunsOrdered file w works spares → RunsOrdered file w spares works
swapped h = record {
  runs = record { plan = h.runs.plan; judged = h.runs.judged; holds = h.runs.holds; work_room = h.runs.spare_room; spare_room = h.runs.work_room };
  carried = h.carried;
}

-- the order that the code reads
abbrev pub order_read : List ℕ → Whole → List ℕ
order_read file w = tab w.devices (λ i. u16_at file (18 + 2 * w.mesh.n + 2 * i))

-- the shards after all steps, from those at the start
last-shards : (p : Plan) (given : List ℕ) → in_turn (stepped add_words p.mesh) p.steps (shards_after p given 0) ≡ shards_after p given (length p.steps)
unfolding shards_after
last-shards p given = ap (λ (ts : List Step). in_turn (stepped add_words p.mesh) ts (shards_after p given 0)) (sym (take-length p.steps))

start-shape : (p : Plan) (given : List ℕ) → (shards_after p given 0).shape ≡ announced_shape p 0
unfolding shards_after
start-shape p given = refl

-- from the shards that stand at the start to the last ones
last-stands : (file before after : List ℕ) (p : Plan) (given : List ℕ) → judge file ≡ accept p → StepsTaken file before after
    → Stands p.mesh (shards_after p given 0) before → Stands p.mesh (shards_after p given (length p.steps)) after
last-stands file before after p given e t h =
    subst (λ (v : Shards ℕ). Stands p.mesh v after) (last-shards p given) (t p e (shards_after p given 0) (start-shape p given) h)

module _ {file : List ℕ} {w : Whole} {p : Plan} (e : judge file ≡ accept p) (g : HoldsPlan file w p) where
  -- the order that the code reads, where the file carries one; else the plain one
  pub order-read : carries_order (edition file) ≡ true → p.order ≡ order_read file w
  order-read c = g.order_is ∙ ap (λ (b : Bool). order_of b w.devices file (18 + 2 * w.mesh.n)) c

  order-plain : carries_order (edition file) ≡ false → p.order ≡ plain_order (devices p.mesh)
  order-plain c = g.order_is ∙ ap (λ (b : Bool). order_of b w.devices file (18 + 2 * w.mesh.n)) c ∙ ap plain_order (sym g.devices_are)

  pub ordered : Rearrangement (devices p.mesh) p.order
  ordered = (accepted file p e).ordered

  -- the shapes that the code has at the start and after the last step
  pub shape-first : announced_shape p 0 ≡ shape_of w.mesh w.table w.start
  unfolding announced_shape announced
  shape-first = λ i. shard_sizes (g.mesh_is i) (g.sizes_are i) (g.start_is i).dims

  pub shape-last : announced_shape p (length p.steps) ≡ shape_of w.mesh w.table w.last
  unfolding announced_shape
  shape-last = λ i. shard_sizes (g.mesh_is i) (g.sizes_are i) (g.last_is i).dims

  pub fits-first : devices p.mesh * product (announced_shape p 0) ≤ room p
  fits-first = (state (accepted file p e) 0).fits (omega arith)

  pub fits_last : devices p.mesh * product (announced_shape p (length p.steps)) ≤ room p
  fits_last = (state (accepted file p e) (length p.steps)).fits (omega arith)

-- ---- the plain order

module _ {file : List ℕ} {w : Whole} (given after : List ℕ) {works spares : ℕ} (long : works ≡ length given) (h : Runs file w works spares)
    (c : carries_order (edition file) ≡ false) where
  pub begins-plain : StepsTaken file given after → BeginsWithLast file given after
  unfolding last_state shards_after
  begins-plain t p e =
      let q : h.plan ≡ p = accept-inj (sym h.judged ∙ e) in
      let g : HoldsPlan file w p = subst (HoldsPlan file w) q h.holds in
      let o : p.order ≡ plain_order (devices p.mesh) = order-plain e g c in
      let l : devices p.mesh * product (announced_shape p 0) ≤ length given =
      omega (arith, fits-first e g, long, subst (λ (z : Plan). room z ≤ works) q h.work_room) in
      let v : Shards ℕ = shards_after p given (length p.steps) in
      let first : Stands p.mesh (shards_after p given 0) given =
      subst (λ (order : List ℕ). Stands p.mesh (record { shape = announced_shape p 0; words = held_by 0 order p.mesh (announced_shape p 0) given }) given) (sym o)
      (plain-stands p.mesh 0 (announced_shape p 0) given l) in
      let last : last_state p given ≡ tabulate p.mesh v.shape v.words =
      ap (λ (order : List ℕ). tabulate_by order p.mesh v.shape v.words) o ∙ plain-tabulate p.mesh v.shape v.words in
      ap (λ (l : List ℕ). take (length l) after) last
      ∙ ap (λ (m : ℕ). take m after) (length-tabulate p.mesh v.shape v.words) ∙ last-stands file given after p given e t first ∙ sym last

-- ---- another order

module _ {file : List ℕ} {w : Whole} {works spares : ℕ} (h : RunsOrdered file w works spares) where
  abbrev plan : Plan
  plan = h.runs.plan

  abbrev m : code.Sharding → ℕ
  m s = product (shape_of w.mesh w.table s)

  pub order_is : plan.order ≡ order_read file w
  order_is = order-read h.runs.judged h.runs.holds h.carried

  pub rearranged : Rearrangement w.devices (order_read file w)
  rearranged = subst (λ (n : ℕ). Rearrangement n (order_read file w)) h.runs.holds.devices_are (subst (Rearrangement (devices plan.mesh)) order_is (ordered h.runs.judged h.runs.holds))

  -- what the two copies ask for
  pub start_fits : ShardsFit (order_read file w) (m w.start) spares works
  start_fits =
      let g = h.runs.holds in
      let l = fits-first h.runs.judged g in
      let e : w.devices * m w.start ≡ devices plan.mesh * product (announced_shape plan 0) =
      sym (λ i. g.devices_are i * product (shape-first h.runs.judged g i)) in
      order-fits rearranged (m w.start) (omega (arith, e, l, h.runs.spare_room)) (omega (arith, e, l, h.runs.work_room))

  pub last_fits : ShardsFit (places_of (order_read file w)) (m w.last) spares works
  last_fits =
      let g = h.runs.holds in
      let l = fits_last h.runs.judged g in
      let e : w.devices * m w.last ≡ devices plan.mesh * product (announced_shape plan (length plan.steps)) =
      sym (λ i. g.devices_are i * product (shape-last h.runs.judged g i)) in
      inverse-fits rearranged (m w.last) (omega (arith, e, l, h.runs.spare_room)) (omega (arith, e, l, h.runs.work_room))

  pub start-stands : (given rest : List ℕ) {order after : List ℕ} {k : ℕ} → order ≡ order_read file w → k ≡ m w.start
      → after ≡ words_by_place 0 order k given ++ rest → StartStands file given after
  unfolding shards_after
  start-stands given rest {after = after} o n a p e =
      let q : plan ≡ p = accept-inj (sym h.runs.judged ∙ e) in
      let g : HoldsPlan file w p = subst (HoldsPlan file w) q h.runs.holds in
      let same : after ≡ words_by_place 0 p.order (product (announced_shape p 0)) given ++ rest =
      a ∙ (λ i. words_by_place 0 ((o ∙ sym (order-read e g h.carried)) i) ((n ∙ ap product (sym (shape-first e g))) i) given ++ rest) in
      subst (Stands p.mesh (shards_after p given 0)) (sym same) (placed-stands 0 p.mesh p.order (ordered e g) (announced_shape p 0) given rest)

  pub last-numbered : (before rest : List ℕ) {places after : List ℕ} {k : ℕ} → places ≡ places_of (order_read file w) → k ≡ m w.last
      → after ≡ words_by_place 0 places k before ++ rest → LastNumbered file before after
  unfolding last_state
  last-numbered before rest {after = after} o n a p e given st =
      let q : plan ≡ p = accept-inj (sym h.runs.judged ∙ e) in
      let g : HoldsPlan file w p = subst (HoldsPlan file w) q h.runs.holds in
      let v : Shards ℕ = shards_after p given (length p.steps) in
      let shape : v.shape ≡ announced_shape p (length p.steps) = plan-shapes (accepted file p e) given (length p.steps) in
      let same : after ≡ last_state p given ++ rest =
      a ∙ (λ i. words_by_place 0 ((o ∙ ap places_of (sym (order-read e g h.carried))) i) ((n ∙ ap product (sym (shape ∙ shape-last e g))) i) before ++ rest)
      ∙ ap (λ (l : List ℕ). l ++ rest) (numbered 0 p.mesh p.order (ordered e g) v before st) in
      ap (take (length (last_state p given))) same ∙ take_at (last_state p given) rest (length (last_state p given)) refl

pick-not : {A : Type 0} (b : Bool) (x y : A) → pick (not b) x y ≡ pick b y x
pick-not true x y = refl
pick-not false x y = refl

-- the three parts together
pub begins-ordered : (file given first before work spare : List ℕ) (b : Bool) → StartStands file given first → StepsTaken file first before
    → LastNumbered file before (pick b spare work) → BeginsWithLast file given (pick (not b) work spare)
begins-ordered file given first before work spare b s t n p e =
    ap (take (length (last_state p given))) (pick-not b work spare) ∙ n p e given (last-stands file first before p given e t (s p e))
