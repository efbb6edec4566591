use Rattle.rules.specs.Spread.{add_words}
use Rattle.step.proofs.Kernels.{one_word, axes-asked, sums-asked, slice-asked, scatter-leaves}
use Rattle.step.proofs.scatter.Goals as goal

pub ascending-along-requires : goal.ascending-along-requires
ascending-along-requires c = axes-asked c.args.lists c.requires

pub sum_first-requires : goal.sum_first-requires
sum_first-requires c = sums-asked c.args.lists c.requires c.ascending-along.ensures

pub move_first-requires-clause-moving : goal.move_first-requires-clause-moving
move_first-requires-clause-moving c = (slice-asked c.args.lists c.requires c.ascending-along.ensures _ c.empty-none.ensures).0

pub move_first-requires-clause-along : goal.move_first-requires-clause-along
move_first-requires-clause-along c = (slice-asked c.args.lists c.requires c.ascending-along.ensures _ c.empty-none.ensures).1.0

pub move_first-requires-clause-words_value : goal.move_first-requires-clause-words_value
move_first-requires-clause-words_value c = (slice-asked c.args.lists c.requires c.ascending-along.ensures _ c.empty-none.ensures).1.1.0

pub returns-clause-there_after : goal.returns-clause-there_after
returns-clause-there_after c =
    (scatter-leaves c.args.lists c.requires c.ascending-along.ensures _ c.empty-none.ensures add_words one_word 0 c.args.here.now
    c.args.there.now c.sum_first.ensures c.move_first.ensures).1
