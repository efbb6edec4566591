-- The rules' own promises (`rules-promise`). Assumes nothing.
use Rattle.rules.proofs.Ledger as table
use Rattle.rules.proofs.WorkedRefusals as files
use Rattle.rules.proofs.WorkedGroups as small
use Rattle.rules.proofs.WorkedLimits as sizes
use Rattle.rules.proofs.WorkedEditions as later
use Rattle.rules.proofs.WorkedOrders as cabled
use Rattle.rules.proofs.WorkedRepeats as repeated
use Rattle.rules.proofs.WorkedScatters as scattered
use Rattle.rules.proofs.WorkedFactors as factored
use Rattle.rules.proofs.WorkedRoutes as routed
use Rattle.rules.proofs.WorkedMoves as moves
use Rattle.laws.specs.Promises.{RulesPromise}
use Rattle.laws.proofs.Whole as whole
use Rattle.laws.proofs.Judging as judging
use Rattle.laws.proofs.Routes as routes
use Rattle.laws.proofs.Meetings as meetings
use Rattle.laws.proofs.Refusing as refusing
use Rattle.laws.proofs.Repeats as repeats
use Rattle.laws.proofs.Accepted as accepted
use Rattle.laws.proofs.Readers as readers
use Rattle.laws.proofs.Locality as local
use Rattle.laws.proofs.Moved as charges
use Rattle.laws.proofs.Groups as group
use Rattle.laws.proofs.Sums as sums

pub rules-promise : RulesPromise
rules-promise = record {
  whole_plan = whole.whole_plan;
  factor_one = whole.factor_one;
  times_one = whole.times_one;
  spreadable = whole.spreadable;
  startable = whole.startable;
  routes_meet = routes.routes_meet;
  routes_meet_unreduced = routes.routes_meet_unreduced;
  table_decides = routes.table_decides;
  equal_shards_spread = routes.equal_shards_spread;
  gather_undoes_slice = routes.gather_undoes_slice;
  there_and_back = routes.there_and_back;
  routes_met = meetings.routes_met;
  room_limit = whole.room_limit;
  replicated_stays = whole.replicated_stays;
  reduces_judged = judging.reduces_judged;
  steps_counted = accepted.steps_counted;
  blocks_come_back = repeats.blocks_come_back;
  room_in_one_pass = accepted.room_in_one_pass;
  refusal_numbers = refusing.refusal_numbers;
  readers_compared = readers.readers_compared;
  earlier_limits = readers.earlier_limits;
  earlier_editions = readers.earlier_editions;
  earlier_steps = readers.earlier_steps;
  locality = local.locality;
  plans_charged = charges.plans_charged;
  blocks_charged = charges.blocks_charged;
  one_number = charges.one_number;
  group_by_position = group.groups-by-position;
  sum_of_words = sums.add_words-total;
  worked = table.worked;
  beside = table.worked_beside;
  refused = files.refused;
  in_groups = small.in_groups;
  limited = sizes.limited;
  earlier = sizes.earlier;
  in_editions = later.in_editions;
  first_edition = later.first_edition;
  unequal = later.unequal;
  no_sharding = later.no_sharding;
  ordered = cabled.in_order;
  second_edition = cabled.second_edition;
  repeated = repeated.repeated;
  repeats_read = repeated.repeats_read;
  scattered = scattered.scattered;
  scatters_read = scattered.scatters_read;
  factored = factored.factored;
  factors_counted = factored.factors_counted;
  routed = routed.routed;
  routes_compared = routed.routes_compared;
  moves_counted = moves.moves_counted;
}
