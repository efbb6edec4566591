use Rattle.rules.specs.Spread.{add_words}
use Rattle.sums.specs.Sums.{group_word}
use Rattle.sums.proofs.Sharing.{share-sum}
use Rattle.sums.proofs.Shards.reduce_block.Goals as goal

pub returns : goal.returns
returns c =
    let w = c.args.words.now in
    share-sum add_words 0 w c.requires.group (group_word add_words 0 w c.args.self.shifts.now c.args.self.at) c.sum.new.words c.repeat.new.words
    c.requires.some.some c.sum.ensures c.repeat.ensures
