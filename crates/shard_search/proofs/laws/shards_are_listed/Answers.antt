use Rattle.shard_search.proofs.PulseLists.{ends_join, part_is_both}
use Rattle.shard_search.proofs.Seeking.{all_sought, part_is_sought}
use Rattle.shard_search.proofs.laws.shards_are_listed.Goals as goal

pub returns : goal.returns
returns c = record {
  ends = ends_join;
  part = part_is_both c.late_path_sums.ensures c.delays_are_part.ensures;
  whole = all_sought;
  needed = part_is_sought c.parts_need_no_more.ensures;
}
