-- The proofs of what specs/WorkedMoves.antt states and of its worked cases. Assumes nothing.
use Rattle.std.specs.Prelude.{refl}
use Rattle.rules.specs.Collectives.{sources}
use Rattle.rules.specs.Calls.{check_of, run_of}
use Rattle.rules.specs.Moved.{other_devices, moved_by, charge_of}
use Rattle.rules.specs.Ledger.{file_in, file_of}
use Rattle.rules.specs.WorkedMoves.{MovesCounted}

pub moves_counted : MovesCounted
unfolding file_in file_of other_devices sources moved_by charge_of check_of run_of
moves_counted = record {
  none = refl;
  own = refl;
  others = refl;
  each_once = refl;
  word_by_word = refl;
  word_by_word_to_all = refl;
  slice = refl;
  gather = refl;
  gather_both = refl;
  gather_first = refl;
  gather_last = refl;
  reduce = refl;
  reduce_last = refl;
  to_all_moves = refl;
  to_all_both = refl;
  scatter_row = refl;
  scatter_both_moves = refl;
  alone = refl;
  charged_slice = refl;
  charged_gather = refl;
  charged_to_all = refl;
  charged = refl;
  charged_scatter = refl;
  most_is = refl;
  w1_moves = refl;
  w8_moves = refl;
  picture_moves = refl;
  once = refl;
  thrice = refl;
  nested = refl;
  ordered = refl;
  plain_order_moves = refl;
  runs = refl;
  longer = refl;
  short = refl;
  refused = refl;
}
