-- What is known once all passes are back.
-- Source: PSRDADA manual (ring buffers of a writer and its readers); what is counted is this project's choice.
use Rattle.std.specs.Prelude.{◌≡◌, ℕ, ◌<◌, List, length, slice_get, Option, Some}
use Rattle.ring_blocks.specs.declared.Entry.{Entry}
use Rattle.ring_words.specs.declared.shape.RingShape.{RingShape}
use Rattle.ring_words.specs.declared.views.ReaderView.{ReaderView}
use Rattle.ring_words.specs.Views.{parked_at}
use Rattle.ring_words.specs.Seats.{writer_view}
use Rattle.ring_ends.specs.declared.ring.Ring.{Ring}
use Rattle.ring_ends.specs.declared.passes.EndedReader.{EndedReader}
use Rattle.ring_ends.specs.declared.finished.Finished.{Finished}
use Rattle.ring_ends.specs.Passes.{ring_shape, ended_knows, EndedFrom}
use Rattle.ring_ends.specs.Counted.{cleared_of}

abbrev pub finished_shape : Finished → RingShape
finished_shape f = (writer_view f.seat).shape

-- the blocks that were sealed
abbrev pub sealed_at_end : Finished → List Entry
sealed_at_end f = (writer_view f.seat).sealed

-- what reader i knew
abbrev pub reader_at_end : Finished → ℕ → Option ReaderView
reader_at_end f i = parked_at (writer_view f.seat) i

-- the blocks that it cleared
abbrev pub cleared_at_end : Finished → ℕ → List Entry
cleared_at_end f i = cleared_of (reader_at_end f i)

-- the reader e is given at place j
abbrev pub Gives : List (Option EndedReader) → ℕ → EndedReader → Type 0
Gives readers j e = slice_get readers j ≡ Some (Some e)

-- these are all readers of the ring, each once, in any order
pub record AllReaders (ring : Ring) (readers : List (Option EndedReader)) : Type 0 where
  pub count : length readers ≡ (ring_shape ring).readers
  pub each : (j : ℕ) → j < length readers → (e : EndedReader) × Gives readers j e × EndedFrom ring e
  pub once : (j k : ℕ) (e f : EndedReader) → Gives readers j e → Gives readers k f →
      (ended_knows e).number ≡ (ended_knows f).number → j ≡ k
  pub all : (i : ℕ) → i < (ring_shape ring).readers →
      (j : ℕ) × (e : EndedReader) × Gives readers j e × ((ended_knows e).number ≡ i)

-- as many readers of the ring as it has, and reader j at place j
pub record AreInOrder (ring : Ring) (readers : List (Option EndedReader)) : Type 0 where
  pub count : length readers ≡ (ring_shape ring).readers
  pub each : (j : ℕ) → j < length readers →
      (e : EndedReader) × Gives readers j e × EndedFrom ring e × ((ended_knows e).number ≡ j)

-- these are all
abbrev pub OrderIsEnough : Type 0
OrderIsEnough =
    (ring : Ring) (readers : List (Option EndedReader)) → AreInOrder ring readers →
    AllReaders ring readers
