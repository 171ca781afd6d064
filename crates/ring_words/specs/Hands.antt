-- What a seat holds: slots, each with a block.
-- Source: PSRDADA manual (ring buffers of a writer and its readers); the slots are this project's choice.
use Rattle.std.specs.Prelude.{ℕ, ◌%◌, List, [], ◌∷◌, map, length, if◌then◌else◌}
use Rattle.ring_blocks.specs.declared.Block.{Block}
use Rattle.ring_blocks.specs.declared.Entry.{Entry}
use Rattle.ring_blocks.specs.Contents.{room_of, entry_of}
use Rattle.ring_words.specs.declared.views.ReaderView.{ReaderView}
use Rattle.ring_words.specs.declared.views.WriterView.{WriterView}
use Rattle.ring_words.specs.Views.{got_list}

-- a slot, with the space of its block
abbrev pub room_at : ℕ × Block → ℕ × ℕ
room_at x = (x.0, room_of x.1)

-- and with what lies in it
abbrev pub entry_at : ℕ × Block → ℕ × ℕ × Entry
entry_at x = (x.0, room_of x.1, entry_of x.1)

-- the writer that has a buffer out holds that of the block to be sealed next
abbrev pub rooms_out : WriterView → List (ℕ × ℕ)
rooms_out w = if w.out then (length w.sealed % w.shape.buffers, w.shape.size) ∷ [] else []

-- a reader that has a buffer out holds the block that it got
abbrev pub entries_out : ReaderView → List (ℕ × ℕ × Entry)
entries_out r =
    if r.out then map (λ e. (length r.cleared % r.shape.buffers, r.shape.size, e)) (got_list r.got)
    else []
