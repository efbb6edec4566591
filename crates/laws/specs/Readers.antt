-- Readers of plan files beside each other: what one that takes less answers on a file that another accepts, and what is kept. Each reader is an
-- instance of the one judgement (`judge_by`, PlanFile). Statements; proofs/Readers.antt proves them. Assumes nothing.
use Rattle.std.specs.Prelude.{ℕ, ◌+◌, ◌≤◌, ◌≡◌, Bool, List, [], ◌∷◌, ◌++◌, length, T, leb}
use Rattle.rules.specs.Lists.{product, All}
use Rattle.rules.specs.Mesh.{devices}
use Rattle.rules.specs.Limits.{latest_edition, Reader, present, original, up_to, before}
use Rattle.rules.specs.Refusals.{Judged, accept, refuse, ◌>>◌, need, need_at}
use Rattle.rules.specs.PlanFile.{Record, kind_byte, Plan, edition, edition_known, judge_by}

-- r takes some meshes and tables, and nothing that s does not take
pub record Narrower (r s : Reader) : Type 0 where
  pub devices_some : 1 ≤ r.devices
  pub words_some : 1 ≤ r.words
  pub devices_few : r.devices ≤ s.devices
  pub words_few : r.words ≤ s.words
  pub bytes_few : r.bytes ≤ s.bytes
  pub editions_few : r.editions ≤ s.editions
  pub kinds_few : (b : ℕ) → T (r.kinds b) → T (s.kinds b)

-- a reader answers 20 at the first step of a kind that it does not know: of records, the first of them with number k
abbrev pub kinds_known : (known : ℕ → Bool) → (k : ℕ) → List Record → Judged (Unit {0})
kinds_known known k [] = accept tt
kinds_known known k (t ∷ records) = do
  need_at k (known (kind_byte t)) 20
  kinds_known known (k + 1) records

-- what a reader takes, of a file and its plan: 2, 3, 11, 13 and the kinds of its steps, in the order of the tests
abbrev pub taken_by : Reader → (file : List ℕ) → Plan → Judged (Unit {0})
taken_by r file p = do
  need (leb (length file) r.bytes) 2
  need (edition_known r (edition file)) 3
  need (leb (devices p.mesh) r.devices) 11
  need (leb (product p.sizes) r.words) 13
  kinds_known r.kinds 1 p.records

-- a file that r accepts is accepted by s, with the same plan; a plan is all that any call's answer has of a file
abbrev pub KeepsPlans : Reader → Reader → Type 0
KeepsPlans r s = (file : List ℕ) (p : Plan) → judge_by r file ≡ accept p → judge_by s file ≡ accept p

-- a file that s accepts is refused by r with the first of these tests that it fails; where it fails none, r accepts it with the same plan
abbrev pub MeetsTests : Reader → Reader → Type 0
MeetsTests r s = (file : List ℕ) (p : Plan) → judge_by s file ≡ accept p → judge_by r file ≡ ◌>>◌ (taken_by r file p) (accept p)

abbrev pub ReadersCompared : Type 0
ReadersCompared = (r s : Reader) → Narrower r s → KeepsPlans r s × MeetsTests r s

-- Document 02, Ask 12: "an accepted file over the old limits meets the last reader's 2, 11 or 13, and every file accepted before keeps its answer."
pub record EarlierLimits : Type 0 where
  pub keeps : KeepsPlans original present
  pub meets : MeetsTests original present

-- Files of the editions that a reader knows keep their plans, and it answers 3 on every accepted file of a later one.
pub record EarlierEditions : Type 0 where
  pub keeps : (latest : ℕ) → latest ≤ latest_edition → KeepsPlans (up_to latest) present
  pub meets : (latest : ℕ) → latest ≤ latest_edition → (file : List ℕ) (p : Plan) → judge_by present file ≡ accept p
      → judge_by (up_to latest) file ≡ ◌>>◌ (need (leb (edition file) latest) 3) (accept p)

-- none of the records is of the kind
abbrev pub NoneOf : (kind : ℕ) → List Record → Type 0
NoneOf kind records = All (λ t. ¬ (kind_byte t ≡ kind)) records

-- Document 02, Ask 11: "On an accepted file with a repeat, the reader just before this answers 20 at the first one."; so does the reader just before Ask 5 at
-- the first step of kind 5. Files without one keep their plans.
pub record EarlierSteps (kind : ℕ) : Type 0 where
  pub keeps : KeepsPlans (before kind) present
  pub stops : (file : List ℕ) (p : Plan) → judge_by present file ≡ accept p
      → (others : List Record) (first : Record) (rest : List Record) → p.records ≡ others ++ first ∷ rest
      → NoneOf kind others → kind_byte first ≡ kind → judge_by (before kind) file ≡ refuse 20 (length others + 1)
  pub passes : (file : List ℕ) (p : Plan) → judge_by present file ≡ accept p → NoneOf kind p.records → judge_by (before kind) file ≡ accept p
