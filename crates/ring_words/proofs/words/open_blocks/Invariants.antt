use Rattle.std.proofs.Common.{◌≡◌, All, length}
use Rattle.ring_blocks.specs.Contents.{room_of}
use Rattle.ring_words.proofs.words.open_blocks.Given as goal

abbrev pub invariant-loop-made : goal.invariant-loop-made
invariant-loop-made l = (length l.blocks.items ≡ l._made) × All (λ b. room_of b ≡ l.size) l.blocks.items
