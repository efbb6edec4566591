use Rattle.std.proofs.Common.{◌≡◌, ◌≤◌, take, drop}
use Rattle.rules.specs.Lists.{product}
use Rattle.rules.specs.PlanFile.{judge_sizes}
use Rattle.types.specs.Answers.{number_of}
use Rattle.rules.specs.Limits.{most_words}
use Rattle.reader.proofs.judge_sizes.Given as goal

abbrev pub invariant-loop-size : goal.invariant-loop-size
invariant-loop-size l = record {
  low : l.product ≤ most_words;
  same : judge_sizes l.most (number_of l.zero) (number_of l.over) 1 l.sizes
      ≡ judge_sizes l.most (number_of l.zero) (number_of l.over) l.product (drop l.size-index l.sizes);
  times : l.product ≡ product (take l.size-index l.sizes);
}
