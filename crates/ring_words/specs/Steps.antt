-- What each step comes to: what the writer or a reader knew before, what was found or answered, and what it knows
-- after.
-- Source: PSRDADA manual (ring buffers of a writer and its readers); the steps are this project's choice.
use Rattle.std.specs.Prelude.{◌≡◌, ◌≢◌, ℕ, ◌+◌, ◌*◌, ◌<◌, List, ◌++◌, drop, length, slice_index, Some}
use Rattle.ring_blocks.specs.declared.Entry.{Entry}
use Rattle.ring_blocks.specs.declared.Mark.{Mark}
use Rattle.ring_core.specs.Machine.{Event, Answer}
use Rattle.ring_words.specs.declared.shape.RingShape.{RingShape}
use Rattle.ring_words.specs.declared.views.ReaderView.{ReaderView}
use Rattle.ring_words.specs.declared.views.WriterView.{WriterView}
use Rattle.ring_words.specs.Views.{after_look, after_writer_take, after_seal, after_hit, after_miss, after_give, after_clear, after_retire}
use Rattle.ring_words.specs.Plays.{IsWriterEvent, IsReaderEvent, WriterSettled, IsMiss, look_answer, miss_answer}

-- the writer saw each reader past the block in the buffer of the next
abbrev pub SeesRoom : RingShape → WriterView → Type 0
SeesRoom shape w =
    (i : ℕ) → i < shape.readers → length w.sealed < slice_index w.low i + shape.buffers

-- the writer looked at reader i and saw n as its count
pub record SawCount (w : WriterView) (i n : ℕ) (w' : WriterView) : Type 0 where
  pub view : w' ≡ after_look w i n
  pub settled : WriterSettled w'
  pub event : IsWriterEvent w (Event.Look i) (look_answer w i n) w'

-- the writer took the buffer of the next block
pub record TookBuffer (w w' : WriterView) : Type 0 where
  pub view : w' ≡ after_writer_take w
  pub event : IsWriterEvent w Event.WriterTake (Answer.Taken (length w.sealed)) w'

-- the writer sealed the block as number n
pub record SealedEntry (w : WriterView) (entry : Entry) (n : ℕ) (w' : WriterView) : Type 0 where
  pub number : n ≡ length w.sealed
  pub view : w' ≡ after_seal w entry
  pub settled : WriterSettled w'
  pub event : IsWriterEvent w (Event.Seal entry) (Answer.Sealed n) w'

-- the word of a buffer that is at home with block number n
abbrev pub home_word : ℕ → ℕ
home_word n = 16 * (n + 1)

-- The reader found its next block at home and holds it. It is the one that it had got before, if it had.
pub record TookBlock (r r' : ReaderView) : Type 0 where
  pub entry : Entry
  pub view : r' ≡ after_hit r (home_word (length r.cleared)) entry
  pub again : (e : Entry) → r.got ≡ Some e → e ≡ entry
  pub event : IsReaderEvent r (Event.ReaderTake r.number) (Answer.Got (length r.cleared) entry) r'

-- the reader found the word n, which shows an older block, or the wanted one with another reader
pub record MissedBlock (r : ReaderView) (n : ℕ) (r' : ReaderView) : Type 0 where
  pub other : n ≢ home_word (length r.cleared)
  pub why : IsMiss r n
  pub view : r' ≡ after_miss r n
  pub event : IsReaderEvent r (Event.ReaderTake r.number) (miss_answer r n) r'

-- What takes bytes was `x`. It took those of the block that the reader got, as `Takes` says, and is `x'` then. The
-- answers are the block's length and mark.
pub record HandedBlock {X : Type 0} (Takes : X → Entry → X → Type 0) (r : ReaderView) (x x' : X)
    (used : ℕ) (mark : Mark) : Type 0 where
  pub entry : Entry
  pub got : r.got ≡ Some entry
  pub bytes : Takes x entry x'
  pub used_is : used ≡ length entry.bytes
  pub mark_is : mark ≡ entry.mark

-- the bytes in front are those of the block
abbrev pub CopiesTo : List ℕ → Entry → List ℕ → Type 0
CopiesTo into entry into' = into' ≡ entry.bytes ++ drop (length entry.bytes) into

-- the block was copied
abbrev pub CopiedBlock : ReaderView → List ℕ → List ℕ → ℕ → Mark → Type 0
CopiedBlock r into into' used mark = HandedBlock CopiesTo r into into' used mark

-- the block was lent to a part of a taker
abbrev pub LentBlock : {X : Type 0} → (X → ℕ → Entry → X → Type 0) → ℕ → ReaderView → X → X →
    ℕ → Mark → Type 0
LentBlock took part r taker taker' used mark =
    HandedBlock (λ x. took x part) r taker taker' used mark

-- the reader gave the buffer back
pub record GaveBuffer (r r' : ReaderView) : Type 0 where
  pub view : r' ≡ after_give r
  pub event : IsReaderEvent r (Event.Give r.number) Answer.Given r'

-- what the reader got counts as cleared, and n is the count
pub record ClearedBlock (r : ReaderView) (n : ℕ) (r' : ReaderView) : Type 0 where
  pub view : r' ≡ after_clear r
  pub count : n ≡ length r'.cleared
  pub event : IsReaderEvent r (Event.Clear r.number) (Answer.Cleared n) r'

-- the writer no longer waits for the reader
pub record RetiredReader (r r' : ReaderView) : Type 0 where
  pub view : r' ≡ after_retire r
  pub event : IsReaderEvent r (Event.Retire r.number) Answer.Retired r'
