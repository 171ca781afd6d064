-- What clauses say of a ring's words and of the seats of its threads.
-- Source: PSRDADA manual (ring buffers of a writer and its readers); the seats are this project's choice.
use Rattle.std.specs.Prelude.{◌≡◌, ℕ, List, slice_get, Option, Some}
use Rattle.atomic_table.specs.Seated.{TableId}
use Rattle.ring_words.specs.declared.shape.RingShape.{RingShape}
use Rattle.ring_words.specs.declared.views.ReaderView.{ReaderView}
use Rattle.ring_words.specs.declared.views.WriterView.{WriterView}
use Rattle.ring_words.specs.declared.seats.WriterSeat.{WriterSeat}
use Rattle.ring_words.specs.declared.seats.ReaderSeat.{ReaderSeat}
use Rattle.ring_words.specs.declared.words.Words.{Words}
use Rattle.ring_words.specs.Views.{writer_of, reader_of, fresh_reader}

abbrev pub shape_of : Words → RingShape
shape_of words = words.shape

-- what the writer knows
abbrev pub writer_view : WriterSeat → WriterView
writer_view s = writer_of s.seat.me.0

-- what a reader knows
abbrev pub reader_view : ReaderSeat → ReaderView
reader_view s = reader_of s.seat.me.0

-- which ring these words are, and which ring a seat is of
abbrev pub table_of : Words → TableId
table_of words = words.table.shared.table_id

abbrev pub writer_table : WriterSeat → TableId
writer_table s = s.seat.table_id

abbrev pub reader_table : ReaderSeat → TableId
reader_table s = s.seat.table_id

-- the seat is one of this ring
abbrev pub Writes : Words → WriterSeat → Type 0
Writes words s = (writer_table s ≡ table_of words) × ((writer_view s).shape ≡ words.shape)

abbrev pub Reads : Words → ReaderSeat → Type 0
Reads words s = (reader_table s ≡ table_of words) × ((reader_view s).shape ≡ words.shape)

-- the seat of reader i, which has done nothing
abbrev pub IsFreshReader : Words → ℕ → ReaderSeat → Type 0
IsFreshReader words i s = Reads words s × (reader_view s ≡ fresh_reader words.shape i)

-- it stands at place i
abbrev pub HasFreshReader : Words → List (Option ReaderSeat) → ℕ → Type 0
HasFreshReader words seats i =
    (s : ReaderSeat) × (slice_get seats i ≡ Some (Some s)) × IsFreshReader words i s
