-- What the parts of the judgement of repeats (src/lib.rt) ask for and answer. The code holds no lists of steps: its answer is a summary of what the
-- rules' judgement reads (`summarized`), or its refusal. Assumes nothing.
use Rattle.std.specs.Prelude.{ℕ, zero, suc, ◌+◌, ◌*◌, ◌≤◌, max, ◌≡◌, List, length, leb}
use Rattle.rules.specs.Lists.{product}
use Rattle.rules.specs.Limits.{most_dims, most_bytes, most_run, every_kind}
use Rattle.rules.specs.Sharding.{Sharding, shard_sizes}
use Rattle.rules.specs.Refusals.{Judged, accept, refuse, ◌>>=◌, ◌>>◌, need_at}
use Rattle.rules.specs.PlanFile.{Read, StepsRead, JudgesSteps, steps_at, positive_at, same_sharding, too_deep, item_at}
use Rattle.rules.specs.Moved.{added_on, moved_from, most_moved}
use Rattle.laws.specs.Demands.{one_pass, largest_on}
use Rattle.types.specs.Types.{sharding_of, mesh_of, sizes_of}
use Rattle.types.specs.declared.Mesh.{Mesh}
use Rattle.types.specs.declared.Sharding as code
use Rattle.types.specs.declared.Table.{Table}
use Rattle.judge.specs.Step.{Sharded}
use Rattle.taking.specs.Charges.{Extends}
use Rattle.taking.specs.declared.Extent.{Extent}
use Rattle.blocks.specs.declared.Repeat.{Repeat}
use Rattle.blocks.specs.declared.StepsJudged.{StepsJudged}

-- ---- the two bytes of a repeat

-- how often the block is run, and how many steps it has
pub record Head : Type 0 where
  pub count : ℕ
  pub number : ℕ

-- 42 where no repeat may stand
abbrev pub not_too_deep : (depth k : ℕ) → Judged (Unit {0})
not_too_deep zero k = refuse 42 k
not_too_deep (suc depth) k = accept tt

-- "A count or number of 0 is 44, judged when its byte is read; depth above 4 is 42, tested after both."
unfoldable pub head_at : (depth k : ℕ) → List ℕ → ℕ → Judged Head
unfolding positive_at
head_at depth k file at = do
  count ← positive_at k file at
  number ← positive_at k file (at + 1)
  not_too_deep depth k
  accept (record { count = count; number = number })

abbrev pub head_of : Repeat → Head
head_of r = record { count = r.count; number = r.inner }

-- ---- steps that were judged

-- what the repeat with number k judges its inner steps by
abbrev pub inner_at : (mesh sizes file : List ℕ) → (depth k : ℕ) → JudgesSteps
inner_at mesh sizes file zero k = too_deep k
inner_at mesh sizes file (suc depth) k = steps_at (item_at every_kind mesh sizes file depth)

-- the words of a shard
abbrev pub shard_words : (mesh sizes : List ℕ) → Sharding → ℕ
shard_words mesh sizes s = product (shard_sizes mesh sizes s.dims)

-- the number of the next kind byte, the plain steps run, the most words of a shard so far, the words moved between devices, and the sharding after them
pub record Summary : Type 0 where
  pub number : ℕ
  pub runs : ℕ
  pub largest : ℕ
  pub moved : ℕ
  pub sharding : Sharding

-- of steps from number k on, which begin with the sharding s; the shards before them had so many words at most
abbrev pub summary_of : (mesh sizes : List ℕ) → (k largest : ℕ) → Sharding → StepsRead → Read Summary
summary_of mesh sizes k largest s w = record {
  value = record {
    number = k + length w.records;
    runs = length w.steps;
    largest = max largest (largest_on (shard_words mesh sizes) s (one_pass w.records));
    moved = added_on (moved_from mesh sizes) s w.steps;
    sharding = w.sharding;
  };
  next = w.next;
}

abbrev pub summarized : (mesh sizes : List ℕ) → (k largest : ℕ) → Sharding → Judged StepsRead → Judged (Read Summary)
summarized mesh sizes k largest s (accept w) = accept (summary_of mesh sizes k largest s w)
summarized mesh sizes k largest s (refuse a b) = refuse a b

-- what the code's answer stands for, of a table of a rank
abbrev pub steps_of : ℕ → StepsJudged → Read Summary
steps_of rank r = record {
  value = record { number = r.number; runs = r.runs; largest = r.largest; moved = r.moved; sharding = sharding_of rank r.sharding };
  next = r.at;
}

-- What is asked before a step: mesh and table are within their limits, the sharding is one, its shard is counted, and there are no fewer bytes before it
-- than kind bytes.
pub record Judging (file : List ℕ) (at k : ℕ) (mesh : Mesh) (table : Table) (extent : Extent) (largest : ℕ) (s : code.Sharding) : Type 0 where
  pub ready : Sharded mesh table s
  pub extends : Extends extent mesh table
  pub counted : shard_words (mesh_of mesh) (sizes_of table) (sharding_of table.rank s) ≤ largest
  pub number_few : k ≤ at
  pub inside : at ≤ length file
  pub short : length file ≤ most_bytes

-- ---- the end of a block

-- the inner steps are accepted; they are a byte's number at most, and each runs no more than the limit, where no plain step moves more than its limit
pub record Closing (block : StepsJudged) (rank : ℕ) : Type 0 where
  pub rank_few : rank ≤ most_dims
  pub runs_few : block.runs ≤ 255 * most_run
  pub moved_few : block.moved ≤ block.runs * most_moved

-- "The sharding after the block must equal the one before it, list for list, else 41 at the repeat's number. More than 4,096 plain steps run in all is
-- 43, tested after 41 for the repeat alone"
abbrev pub closed : (k count rank : ℕ) → code.Sharding → StepsJudged → Judged (Read Summary)
closed k count rank before block = do
  need_at k (same_sharding (sharding_of rank block.sharding) (sharding_of rank before)) 41
  need_at k (leb (count * block.runs) most_run) 43
  accept (record {
    value = record {
      number = block.number;
      runs = count * block.runs;
      largest = block.largest;
      moved = count * block.moved;
      sharding = sharding_of rank block.sharding;
    };
    next = block.at;
  })
