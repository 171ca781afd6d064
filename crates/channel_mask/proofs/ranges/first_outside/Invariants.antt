use Rattle.std.proofs.Common.{◌≡◌, drop, find, nat_le}
use Rattle.std.specs.List.{flat_map}
use Rattle.channel_mask.specs.Ranges.{ends_of}
use Rattle.channel_mask.proofs.ranges.first_outside.Given as goal

-- the first is among those that are left
abbrev pub invariant-loop-range : goal.invariant-loop-range
invariant-loop-range l =
    find (λ n. nat_le l.channels n) (flat_map ends_of l.ranges)
    ≡ find (λ n. nat_le l.channels n) (flat_map ends_of (drop l.range-index l.ranges))
