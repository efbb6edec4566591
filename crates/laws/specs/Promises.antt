-- What the rules promise of themselves; proofs/Promises.antt proves it. Assumes nothing.
use Rattle.std.specs.Prelude.{ℕ}
use Rattle.rules.specs.Lists.{All}
use Rattle.laws.specs.Readers.{ReadersCompared, EarlierLimits, EarlierEditions, EarlierSteps}
use Rattle.laws.specs.Demands.{
  WholePlan,
  FactorOne,
  TimesOne,
  Spreadable,
  Startable,
  RoomLimit,
  ReplicatedStays,
  ReducesJudged,
  StepsCounted,
  BlocksComeBack,
  RoomInOnePass,
  RefusalNumbers,
  Locality,
  GroupByPosition,
  SumOfWords,
}
use Rattle.laws.specs.Routes.{RoutesMeet, RoutesMeetUnreduced, TableDecides, EqualShardsSpread, GatherUndoesSlice, ThereAndBack}
use Rattle.laws.specs.Meetings.{RoutesMet}
use Rattle.laws.specs.Moved.{PlansCharged, BlocksCharged, OneNumber}
use Rattle.rules.specs.Ledger.{Holds, ledger, beside as beside_it}
use Rattle.rules.specs.WorkedRefusals.{refusals}
use Rattle.rules.specs.WorkedGroups.{InGroups}
use Rattle.rules.specs.WorkedLimits.{limits, Earlier}
use Rattle.rules.specs.WorkedEditions.{editions, FirstEdition, Unequal, NoSharding}
use Rattle.rules.specs.WorkedOrders.{orders, SecondEdition}
use Rattle.rules.specs.WorkedRepeats.{repeats, RepeatsRead}
use Rattle.rules.specs.WorkedScatters.{scatters, ScattersRead}
use Rattle.rules.specs.WorkedFactors.{factors, FactorsCounted}
use Rattle.rules.specs.WorkedRoutes.{routes, RoutesCompared}
use Rattle.rules.specs.WorkedMoves.{MovesCounted}

-- Demand 3 for every plan that passes, where its factor is 1 and what 1 times a table is, and that it speaks of something; two routes, one table; the
-- room's limit; that the replicated list stays; when an all-reduce is 27; what repeats come to; the numbers of refusals; what readers that take less
-- answer; a step's locality; what a plan moves between devices; what a group and a sum of words are; the ledger W1 to W10, and cases beside it; a file or
-- a call for each refusal number; groups, a rearrangement and a spread on the smallest meshes; each limit from both sides; files of the later editions;
-- files with repeats; files with reduce-scatters; files that reduce replicated axes; pairs of routes; words moved.
pub record RulesPromise : Type 1 where
  pub whole_plan : WholePlan
  pub factor_one : FactorOne
  pub times_one : TimesOne
  pub spreadable : Spreadable
  pub startable : Startable
  pub routes_meet : RoutesMeet
  pub routes_meet_unreduced : RoutesMeetUnreduced
  pub table_decides : TableDecides
  pub equal_shards_spread : EqualShardsSpread
  pub gather_undoes_slice : GatherUndoesSlice
  pub there_and_back : ThereAndBack
  pub routes_met : RoutesMet
  pub room_limit : RoomLimit
  pub replicated_stays : ReplicatedStays
  pub reduces_judged : ReducesJudged
  pub steps_counted : StepsCounted
  pub blocks_come_back : BlocksComeBack
  pub room_in_one_pass : RoomInOnePass
  pub refusal_numbers : RefusalNumbers
  pub readers_compared : ReadersCompared
  pub earlier_limits : EarlierLimits
  pub earlier_editions : EarlierEditions
  pub earlier_steps : (kind : ℕ) → EarlierSteps kind
  pub locality : Locality
  pub plans_charged : PlansCharged
  pub blocks_charged : BlocksCharged
  pub one_number : OneNumber
  pub group_by_position : GroupByPosition
  pub sum_of_words : SumOfWords
  pub worked : All Holds ledger
  pub beside : All Holds beside_it
  pub refused : All Holds refusals
  pub in_groups : InGroups
  pub limited : All Holds limits
  pub earlier : Earlier
  pub in_editions : All Holds editions
  pub first_edition : FirstEdition
  pub unequal : Unequal
  pub no_sharding : NoSharding
  pub ordered : All Holds orders
  pub second_edition : SecondEdition
  pub repeated : All Holds repeats
  pub repeats_read : RepeatsRead
  pub scattered : All Holds scatters
  pub scatters_read : ScattersRead
  pub factored : All Holds factors
  pub factors_counted : FactorsCounted
  pub routed : All Holds routes
  pub routes_compared : RoutesCompared
  pub moves_counted : MovesCounted
