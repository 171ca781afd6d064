use Rattle.std.proofs.Common.{◌≡◌, map}
use Rattle.std.specs.List.{range_with_len}
use Rattle.channel_mask.specs.Ranges.{mark_of}
use Rattle.channel_mask.proofs.mask.marks.Given as goal

abbrev pub invariant-loop-c : goal.invariant-loop-c
invariant-loop-c l =
    l.marks.items ≡ map (mark_of l.ranges l.channels l.is_falling) (range_with_len 0 l.c)
