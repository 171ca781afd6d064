-- What clauses see of a ring and of the passes of its threads.
-- Source: PSRDADA manual (ring buffers of a writer and its readers); the passes are this project's choice.
use Rattle.std.specs.Prelude.{◌≡◌, ℕ, Bool, false, List, slice_get, Option, Some}
use Rattle.atomic_table.specs.Seated.{TableId}
use Rattle.ring_words.specs.declared.shape.RingShape.{RingShape}
use Rattle.ring_words.specs.declared.views.ReaderView.{ReaderView}
use Rattle.ring_words.specs.declared.views.WriterView.{WriterView}
use Rattle.ring_words.specs.declared.seats.ReaderSeat.{ReaderSeat}
use Rattle.ring_words.specs.Views.{fresh_reader}
use Rattle.ring_words.specs.Seats.{shape_of, writer_view, reader_view, reader_table, Writes, Reads}
use Rattle.ring_ends.specs.declared.ring.Ring.{Ring}
use Rattle.ring_ends.specs.declared.passes.WriterPass.{WriterPass}
use Rattle.ring_ends.specs.declared.passes.ReaderPass.{ReaderPass}
use Rattle.ring_ends.specs.declared.passes.DetachedReader.{DetachedReader}
use Rattle.ring_ends.specs.declared.passes.RetiredPass.{RetiredPass}
use Rattle.ring_ends.specs.declared.passes.EndedReader.{EndedReader}
use Rattle.ring_ends.specs.declared.passes.EndedReader.TheVariants.{Here, Away, Retired}

abbrev pub ring_shape : Ring → RingShape
ring_shape ring = shape_of ring.words

-- what the writer knows: the blocks that it sealed, and what it saw of each reader's count
abbrev pub writer_knows : WriterPass → WriterView
writer_knows pass = writer_view pass.seat

-- what a reader knows: the blocks that it cleared, and the one that it got
abbrev pub reader_knows : ReaderPass → ReaderView
reader_knows pass = reader_view pass.seat

-- whether it has read the block that comes after those it cleared
abbrev pub is_read : ReaderPass → Bool
is_read pass = pass.has_read

abbrev pub detached_knows : DetachedReader → ReaderView
detached_knows reader = reader_view reader.seat

abbrev pub retired_knows : RetiredPass → ReaderView
retired_knows pass = reader_view pass.seat

abbrev pub ended_seat : EndedReader → ReaderSeat
ended_seat (Here pass) = pass.seat
ended_seat (Away reader) = reader.seat
ended_seat (Retired pass) = pass.seat

abbrev pub ended_knows : EndedReader → ReaderView
ended_knows ended = reader_view (ended_seat ended)

-- which ring a pass is of
abbrev pub ring_of_reader : ReaderPass → TableId
ring_of_reader pass = reader_table pass.seat

abbrev pub ring_of_detached : DetachedReader → TableId
ring_of_detached reader = reader_table reader.seat

-- the pass is one of this ring
abbrev pub WritesTo : Ring → WriterPass → Type 0
WritesTo ring pass = Writes ring.words pass.seat

abbrev pub ReadsFrom : Ring → ReaderPass → Type 0
ReadsFrom ring pass = Reads ring.words pass.seat

abbrev pub RetiredFrom : Ring → RetiredPass → Type 0
RetiredFrom ring pass = Reads ring.words pass.seat

abbrev pub EndedFrom : Ring → EndedReader → Type 0
EndedFrom ring ended = Reads ring.words (ended_seat ended)

-- at place i is the pass of reader i, which has done nothing
abbrev pub HasFreshPass : Ring → List (Option ReaderPass) → ℕ → Type 0
HasFreshPass ring passes i =
    (p : ReaderPass) × (slice_get passes i ≡ Some (Some p)) × ReadsFrom ring p
    × (reader_knows p ≡ fresh_reader (ring_shape ring) i) × (is_read p ≡ false)
