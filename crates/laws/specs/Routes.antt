-- Document 02, Ask 14, "Two routes, one table": what two plans from one start to one end leave is one and the same, and an all-slice is undone by the
-- all-gather of its lists. Statements, of what the runs answer and leave (`run_of`); proofs/Routes.antt proves them. Pairs of rules/specs/WorkedRoutes.antt
-- part where the words are no faithful spread, where the factors differ, and, of `TableDecides`, where an axis is unreduced at the end. Assumes nothing.
use Rattle.std.specs.Prelude.{ℕ, ◌+◌, ◌*◌, ◌%◌, ◌^◌, ◌≡◌, List, [], ◌∷◌, length, take, drop}
use Rattle.rules.specs.Lists.{product, In, Below}
use Rattle.rules.specs.Mesh.{devices, Agree}
use Rattle.rules.specs.Sharding.{Sharding, varying}
use Rattle.rules.specs.Collectives.{Step, all_slice, all_gather}
use Rattle.rules.specs.Refusals.{accept}
use Rattle.rules.specs.PlanFile.{Plan, judge, announced, announced_shape}
use Rattle.rules.specs.Factor.{factor_after}
use Rattle.rules.specs.Calls.{shards_after, last_state, Ran, run_of}
use Rattle.laws.specs.Demands.{Words, SpreadAt, start_words}

-- ---- two routes

-- what a plan ends in: the sharding announced last, the words of that state, and the factor of all its steps
abbrev pub last_sharding : Plan → Sharding
last_sharding p = announced p (length p.steps)

abbrev pub end_words : Plan → ℕ
end_words p = devices p.mesh * product (announced_shape p (length p.steps))

abbrev pub whole_factor : Plan → ℕ
whole_factor p = factor_after p (length p.steps)

-- "two .. plans with the same mesh, device order, table sizes .., which end in the same sharding .. and whose factors in the sense of Ask 6 are the same
-- number modulo 2^32"
pub record OneEnd (p q : Plan) : Type 0 where
  pub one_mesh : p.mesh ≡ q.mesh
  pub one_order : p.order ≡ q.order
  pub one_size : p.sizes ≡ q.sizes
  pub one_end : last_sharding p ≡ last_sharding q
  pub one_factor : whole_factor p % 2 ^ 32 ≡ whole_factor q % 2 ^ 32

-- "with no unreduced axes": of the sharding that a plan ends in
abbrev pub NoneUnreduced : Plan → Type 0
NoneUnreduced p = (last_sharding p).unreduced ≡ []

-- "leave equal last states": the states are equal buffers, work begins with the same words after both runs, and where the two are as long as each other
-- they are equal throughout
pub record EqualEnds (p q : Plan) (work work' : List ℕ) (ran ran' : Ran) : Type 0 where
  pub states : last_state p work ≡ last_state q work'
  pub fronts : take (end_words p) ran.work ≡ take (end_words p) ran'.work
  pub buffers : length ran.work ≡ length ran'.work → ran.work ≡ ran'.work

-- "two accepted plans .. leave equal last states .., where both runs reach the end": the plans p and q, from the words in work and in work'
abbrev pub LeaveEqual : (p q : Plan) (work work' : List ℕ) → Type 0
LeaveEqual p q work work' =
    (f g : List ℕ) → judge f ≡ accept p → judge g ≡ accept q
    → (spare spare' : List ℕ) → (run_of f work spare).outcome ≡ accept tt → (run_of g work' spare').outcome ≡ accept tt
    → EqualEnds p q work work' (run_of f work spare) (run_of g work' spare')

-- "and starting sharding", "from the same faithful spread": it stands in front of two buffers of words, whose lengths may differ, as the rooms of the
-- plans do; or in one and the same.
pub record OneSpread (p q : Plan) (work work' : List ℕ) : Type 0 where
  pub one_start : p.start ≡ q.start
  pub words : Words work
  pub one_front : take (start_words p) work ≡ take (start_words p) work'
  pub table : List ℕ → ℕ
  pub faithful : SpreadAt p table 0 (shards_after p work 0).words

-- The sentence as it stands, "which end in the same sharding with no unreduced axes"
abbrev pub RoutesMeet : Type 0
RoutesMeet = (p q : Plan) (work work' : List ℕ) → OneEnd p q → NoneUnreduced p → OneSpread p q work work' → LeaveEqual p q work work'

-- and beyond it, "unreduced axes or not": no step moves a word along an axis that stays unreduced to the end, so the parts of the sums stay apart.
abbrev pub RoutesMeetUnreduced : Type 0
RoutesMeetUnreduced = (p q : Plan) (work work' : List ℕ) → OneEnd p q → OneSpread p q work work' → LeaveEqual p q work work'

-- Where no axis is unreduced at the end, the table decides: the starts may differ, and the spreads of it.
abbrev pub TableDecides : Type 0
TableDecides =
    (p q : Plan) (work work' : List ℕ) → OneEnd p q → NoneUnreduced p → Words work → Words work'
    → (table : List ℕ → ℕ) → SpreadAt p table 0 (shards_after p work 0).words → SpreadAt q table 0 (shards_after q work' 0).words
    → LeaveEqual p q work work'

-- What is to be seen of a buffer, and no more: where "devices that differ only on replicated axes hold equal shards", it is a faithful spread of a table.
abbrev pub EqualShardsSpread : Type 0
EqualShardsSpread =
    (file : List ℕ) (p : Plan) → judge file ≡ accept p → (work : List ℕ)
    → ((x y i : List ℕ) → Below x p.mesh → Below y p.mesh → Below i (announced_shape p 0) → Agree (λ a. In a (varying p.start)) x y
    → (shards_after p work 0).words x i ≡ (shards_after p work 0).words y i)
    → (table : List ℕ → ℕ) × SpreadAt p table 0 (shards_after p work 0).words

-- ---- there and back

-- What an all-slice and then the all-gather of the same lists, as plain steps k + 1 and k + 2 of a plan, give back of the shards after k steps.
pub record GivesBack (p : Plan) (work : List ℕ) (k : ℕ) : Type 0 where
  -- "gives back the sharding", and so the shape
  pub sharding : announced p (k + 2) ≡ announced p k
  pub shape : (shards_after p work (k + 2)).shape ≡ (shards_after p work k).shape
  -- "and, from a faithful spread, every word of the shards": of any table, after k steps; or at the start, for it is one after k steps then
  pub words : (table : List ℕ → ℕ) → SpreadAt p table k (shards_after p work k).words
      → (x i : List ℕ) → Below x p.mesh → Below i (announced_shape p k) → (shards_after p work (k + 2)).words x i ≡ (shards_after p work k).words x i
  pub from_start : Words work → (table : List ℕ → ℕ) → SpreadAt p table 0 (shards_after p work 0).words
      → (x i : List ℕ) → Below x p.mesh → Below i (announced_shape p k) → (shards_after p work (k + 2)).words x i ≡ (shards_after p work k).words x i

-- "Likewise, unreduced axes or not, an accepted all-slice followed by the all-gather of the same lists": anywhere in an accepted plan
abbrev pub GatherUndoesSlice : Type 0
GatherUndoesSlice =
    (file : List ℕ) (p : Plan) → judge file ≡ accept p → (k : ℕ) (Ss : List (List ℕ)) (rest : List Step)
    → drop k p.steps ≡ all_slice Ss ∷ all_gather Ss ∷ rest → (work : List ℕ) → GivesBack p work k

-- "run to the end, gives back the sharding and, from a faithful spread, every word of the shards": of a plan that is these two steps
pub record RunGivesBack (p : Plan) (work : List ℕ) (ran : Ran) : Type 0 where
  pub sharding : last_sharding p ≡ p.start
  pub words : (table : List ℕ → ℕ) → SpreadAt p table 0 (shards_after p work 0).words → take (start_words p) ran.work ≡ take (start_words p) work

abbrev pub ThereAndBack : Type 0
ThereAndBack =
    (file : List ℕ) (p : Plan) → judge file ≡ accept p → (Ss : List (List ℕ)) → p.steps ≡ all_slice Ss ∷ all_gather Ss ∷ []
    → (work spare : List ℕ) → (run_of file work spare).outcome ≡ accept tt → RunGivesBack p work (run_of file work spare)
