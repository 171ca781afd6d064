use Rattle.std.proofs.Common.{◌≡◌}
use Rattle.ring_blocks.specs.Contents.{room_of}
use Rattle.ring_tests.proofs.blocks.a_block_is_filled_again_and_again.Given as goal

abbrev pub invariant-loop-bytes : goal.invariant-loop-bytes
invariant-loop-bytes g l = room_of l.block ≡ 4
