use Rattle.std.proofs.Common.{◌≡◌, ◌+◌, ◌*◌, ◌++◌, take}
use Rattle.std.specs.List.{flat_map}
use Rattle.band_level.specs.Levelled.{value_bytes}
use Rattle.band_level.proofs.levels.write_pairs.Given as goal

abbrev pub invariant-loop-i : goal.invariant-loop-i
invariant-loop-i l =
    take (l.at + 2 * l.i) l.out ≡ take l.at l.initial.out ++ flat_map (value_bytes 16) (take l.i l.levels)
