use Rattle.search_model.proofs.Shards.{part_members, part_rises, parts_merge}
use Rattle.search_model.proofs.laws.shards_merge.Goals as goal

pub returns : goal.returns
returns c = record { members = part_members; rises = part_rises; merge = parts_merge }
