-- What each step tells the seat that makes it, and which event of the ring as a machine it is.
-- Source: PSRDADA manual (ring buffers of a writer and its readers); the steps are this project's choice.
use Rattle.std.specs.Prelude.{◌≡◌, ◌≢◌, ℕ, ◌+◌, ◌-◌, ◌/◌, ◌%◌, ◌<◌, ◌≤◌, ◌⊎◌, List, [], ◌∷◌, ◌==◌, nat_le, All, length, take, slice_get, Some, if◌then◌else◌}
use Rattle.atomic_table.specs.Table.{Me, Step, rest}
use Rattle.ring_blocks.specs.declared.Block.{Block}
use Rattle.ring_blocks.specs.declared.Entry.{Entry}
use Rattle.ring_blocks.specs.Contents.{room_of, entry_of}
use Rattle.ring_core.specs.Machine.{Machine, Event, Answer, Does, Reached, greatest}
use Rattle.ring_words.specs.declared.shape.RingShape.{RingShape}
use Rattle.ring_words.specs.declared.views.View.{View}
use Rattle.ring_words.specs.declared.views.ReaderView.{ReaderView}
use Rattle.ring_words.specs.declared.views.WriterView.{WriterView}
use Rattle.ring_words.specs.declared.views.View.TheVariants.{Writer, Reader}
use Rattle.ring_words.specs.Views.{writer_of, reader_of, parked_at, after_look, after_writer_take, after_seal, after_hit, after_miss, after_give, after_clear, after_retire}
use Rattle.ring_words.specs.Ring.{standing}

-- Some list of events leaves the machine `old`, which shows what the seat knew. Then the event has this answer, and
-- leaves `new`, which shows what the seat knows.
pub record IsEvent (shape : RingShape) (event : Event Entry) (answer : Answer Entry)
    (before after : Machine Entry → Type 0) : Type 0 where
  pub old : Machine Entry
  pub new : Machine Entry
  pub reached : Reached shape.buffers shape.max_blocks shape.readers old
  pub does : Does shape.buffers shape.max_blocks old event answer new
  pub shows_before : before old
  pub shows_after : after new

-- the machine shows this writer
abbrev pub ShowsWriter : WriterView → Machine Entry → Type 0
ShowsWriter w m = (m.sealed ≡ w.sealed) × (m.writing ≡ w.out) × (m.low ≡ w.low)

-- the machine shows this reader
abbrev pub ShowsReader : ReaderView → Machine Entry → Type 0
ShowsReader r m = slice_get m.readers r.number ≡ Some (standing r)

abbrev pub IsWriterEvent : WriterView → Event Entry → Answer Entry → WriterView → Type 0
IsWriterEvent w event answer w' = IsEvent w.shape event answer (ShowsWriter w) (ShowsWriter w')

abbrev pub IsReaderEvent : ReaderView → Event Entry → Answer Entry → ReaderView → Type 0
IsReaderEvent r event answer r' = IsEvent r.shape event answer (ShowsReader r) (ShowsReader r')

-- what the machine answers where the writer finds n as the count of reader i
abbrev pub look_answer : WriterView → ℕ → ℕ → Answer Entry
look_answer w i n =
    if n == greatest then Answer.RoomRetired i
    else (if nat_le (n + w.shape.buffers) (length w.sealed)
    then Answer.Full i n
    else Answer.Room i n)

-- and where a reader tries to take a block in vain, and finds the word n in its buffer
abbrev pub miss_answer : ReaderView → ℕ → Answer Entry
miss_answer r n =
    if nat_le (n / 16) (length r.cleared) then Answer.Empty (length r.cleared)
    else Answer.Busy (length r.cleared) (n % 16 - 1)

-- What a look and a seal of the writer tell of its own view. A reader without a seat cleared a beginning of what was
-- sealed, and what it got is the next block.
pub record WriterSettled (w : WriterView) : Type 0 where
  pub limit : length w.sealed ≤ w.shape.max_blocks
  pub sized : All (λ e. length e.bytes ≤ w.shape.size) w.sealed
  pub begins : (i : ℕ) (r : ReaderView) → parked_at w i ≡ Some r →
      take (length r.cleared) w.sealed ≡ r.cleared
  pub next : (i : ℕ) (r : ReaderView) (e : Entry) → parked_at w i ≡ Some r → r.got ≡ Some e →
      slice_get w.sealed (length r.cleared) ≡ Some e

-- what each step of a reader tells of its own view
pub record ReaderSettled (r : ReaderView) : Type 0 where
  pub limit : length r.cleared ≤ r.shape.max_blocks
  pub sized : All (λ e. length e.bytes ≤ r.shape.size) r.cleared
  pub next : (e : Entry) → r.got ≡ Some e →
      (length r.cleared < r.shape.max_blocks) × (length e.bytes ≤ r.shape.size)

-- In each of the following: the step, the seat before, the number found and the seat after.

-- the writer loads the count of reader `st.word - st.slots`: the words of the counts come after those of the buffers
pub record Looked (st : Step Block) (m : Me Block View) (n : ℕ) (m' : Me Block View) : Type 0 where
  pub seat : m' ≡ (Writer (after_look (writer_of m.0) (st.word - st.slots) n), m.1)
  pub settled : WriterSettled (writer_of m'.0)
  pub event : IsWriterEvent (writer_of m.0) (Event.Look (st.word - st.slots))
      (look_answer (writer_of m.0) (st.word - st.slots) n) (writer_of m'.0)

-- the writer finds the word that it expects, and takes the block
pub record WriterTook (st : Step Block) (m : Me Block View) (n : ℕ)
    (m' : Me Block View) : Type 0 where
  pub found : n ≡ st.first
  pub view : m'.0 ≡ Writer (after_writer_take (writer_of m.0))
  pub block : Block
  pub slots : m'.1 ≡ (st.word, block) ∷ m.1
  pub room : room_of block ≡ (writer_of m.0).shape.size
  pub event : IsWriterEvent (writer_of m.0) Event.WriterTake
      (Answer.Taken (length (writer_of m.0).sealed)) (writer_of m'.0)

-- the writer gives the block b back as the next one
pub record SealedBlock (m m' : Me Block View) (b : Block) : Type 0 where
  pub seat : m' ≡ (Writer (after_seal (writer_of m.0) (entry_of b)), [])
  pub settled : WriterSettled (writer_of m'.0)
  pub event : IsWriterEvent (writer_of m.0) (Event.Seal (entry_of b))
      (Answer.Sealed (length (writer_of m.0).sealed)) (writer_of m'.0)

-- what is true of the block that was taken last
abbrev pub OfBlock : List (ℕ × Block) → (Block → Type 0) → Type 0
OfBlock [] P = Unit {0}
OfBlock (x ∷ xs) P = P x.1

abbrev pub Sealed : Step Block → Me Block View → ℕ → Me Block View → Type 0
Sealed st m n m' = OfBlock m.1 (SealedBlock m m')

-- a reader finds the block that it wants at home, and takes it
pub record Hit (st : Step Block) (m : Me Block View) (n : ℕ) (m' : Me Block View) : Type 0 where
  pub block : Block
  pub slots : m'.1 ≡ (st.word, block) ∷ m.1
  pub view : m'.0 ≡ Reader (after_hit (reader_of m.0) n (entry_of block))
  pub room : room_of block ≡ (reader_of m.0).shape.size
  pub same : (e : Entry) → (reader_of m.0).got ≡ Some e → e ≡ entry_of block
  pub event : IsReaderEvent (reader_of m.0) (Event.ReaderTake (reader_of m.0).number)
      (Answer.Got (length (reader_of m.0).cleared) (entry_of block)) (reader_of m'.0)

-- the word n of that buffer shows an older block, or the wanted one with another reader
abbrev pub IsMiss : ReaderView → ℕ → Type 0
IsMiss r n = (n / 16 ≤ length r.cleared) ⊎ ((n / 16 ≡ length r.cleared + 1)
    × ((j : ℕ) × (n % 16 ≡ j + 1) × (j < r.shape.readers) × (j ≢ r.number)))

pub record Missed (m : Me Block View) (n : ℕ) (m' : Me Block View) : Type 0 where
  pub seat : m' ≡ (Reader (after_miss (reader_of m.0) n), m.1)
  pub why : IsMiss (reader_of m.0) n
  pub event : IsReaderEvent (reader_of m.0) (Event.ReaderTake (reader_of m.0).number)
      (miss_answer (reader_of m.0) n) (reader_of m'.0)

pub record Tried (st : Step Block) (m : Me Block View) (n : ℕ) (m' : Me Block View) : Type 0 where
  pub hit : n ≡ st.first → Hit st m n m'
  pub missed : n ≢ st.first → Missed m n m'
  pub settled : ReaderSettled (reader_of m'.0)

pub record Gave (st : Step Block) (m : Me Block View) (n : ℕ) (m' : Me Block View) : Type 0 where
  pub seat : m' ≡ (Reader (after_give (reader_of m.0)), rest m.1)
  pub settled : ReaderSettled (reader_of m'.0)
  pub event : IsReaderEvent (reader_of m.0) (Event.Give (reader_of m.0).number)
      Answer.Given (reader_of m'.0)

pub record Cleared (st : Step Block) (m : Me Block View) (n : ℕ) (m' : Me Block View) : Type 0 where
  pub seat : m' ≡ (Reader (after_clear (reader_of m.0)), m.1)
  pub settled : ReaderSettled (reader_of m'.0)
  pub event : IsReaderEvent (reader_of m.0) (Event.Clear (reader_of m.0).number)
      (Answer.Cleared (length (reader_of m.0).cleared + 1)) (reader_of m'.0)

pub record Retired (st : Step Block) (m : Me Block View) (n : ℕ) (m' : Me Block View) : Type 0 where
  pub seat : m' ≡ (Reader (after_retire (reader_of m.0)), m.1)
  pub settled : ReaderSettled (reader_of m'.0)
  pub event : IsReaderEvent (reader_of m.0) (Event.Retire (reader_of m.0).number)
      Answer.Retired (reader_of m'.0)
