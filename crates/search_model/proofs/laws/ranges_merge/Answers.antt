use Rattle.search_model.proofs.DelayRanges.{range_part, ranges_merged, ranges_counted}
use Rattle.search_model.proofs.laws.ranges_merge.Goals as goal

pub returns : goal.returns
returns c = record {
  range = range_part;
  merge = ranges_merged;
  counts = λ f edges cells s n start kind ranges. ranges_counted f edges cells s n start ranges kind;
}
