use Rattle.std.proofs.Common.{rules}
use Rattle.std.proofs.lemmas.List.Sorted.{IsPartitionPoint-from_clause}
use Rattle.beam_set.specs.Ends.{is_before}
use Rattle.beam_set.proofs.near.count_before.Goals as goal

pub returns : goal.returns
returns c = IsPartitionPoint-from_clause (is_before c.args.spectrum) _ _ c.partition_point.ensures.partitioned
    (c.requires c.args.spectrum) (λ a r q k. search rules)
