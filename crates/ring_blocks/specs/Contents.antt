-- What contracts see of a block.
-- Source: PSRDADA manual (ring buffers of a writer and its readers); the mark is this project's choice.
use Rattle.std.specs.Prelude.{ℕ, take, vec_len}
use Rattle.ring_blocks.specs.declared.Block.{Block}
use Rattle.ring_blocks.specs.declared.Entry.{Entry}

-- its space in bytes
abbrev pub room_of : Block → ℕ
room_of block = vec_len block.buffer

-- what lies in it
abbrev pub entry_of : Block → Entry
entry_of block = record { mark = block.mark; bytes = take block.used block.buffer.items }
