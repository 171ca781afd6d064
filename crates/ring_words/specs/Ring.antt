-- The rule of the ring's table: what its words and slots, and what the seats know, say of one another between any two
-- steps.
-- Block number m lies in buffer m modulo buffers. Word k is the turn of buffer k, and word buffers + i is the count of
-- reader i.
-- Source: PSRDADA manual (ring buffers of a writer and its readers); the words are this project's choice.
use Rattle.std.specs.Prelude.{◌≡◌, ℕ, ◌+◌, ◌*◌, ◌%◌, ◌<◌, ◌≤◌, true, false, List, ◌++◌, length, slice_index, Some, is_some, if◌then◌else◌}
use mathlib.Core.Option as maybe
use mathlib.Core.Option.{some}
use lib.ListN.{get_elem?}
use Rattle.atomic_table.specs.Table.{State}
use Rattle.ring_blocks.specs.declared.Block.{Block}
use Rattle.ring_blocks.specs.declared.Entry.{Entry}
use Rattle.ring_blocks.specs.Contents.{room_of, entry_of}
use Rattle.ring_core.specs.Machine.{Machine, Phase, Reader as Standing, Reached, greatest}
use Rattle.ring_words.specs.declared.shape.RingShape.{RingShape}
use Rattle.ring_words.specs.declared.views.View.{View}
use Rattle.ring_words.specs.declared.views.ReaderView.{ReaderView}
use Rattle.ring_words.specs.declared.views.WriterView.{WriterView}
use Rattle.ring_words.specs.declared.views.View.TheVariants.{Writer, Reader, Spent}
use Rattle.ring_words.specs.Shape.{IsRing}
use Rattle.ring_words.specs.Views.{listed, fresh_writer}

abbrev pub first_view : RingShape → View
first_view shape = Writer (fresh_writer shape)

-- who has a buffer
pub data Holder : Type 0 where
  at_home : Holder
  by_reader : ℕ → Holder
  by_writer : Holder

-- what the word of a buffer tells: one more than the number of the block sealed there last, or 0 where there was
-- none, and who has it
pub record Turn : Type 0 where
  pub newest : ℕ
  pub holder : Holder

abbrev pub holder_code : Holder → ℕ
holder_code at_home = 0
holder_code (by_reader i) = i + 1
holder_code by_writer = 15

abbrev pub turn_word : Turn → ℕ
turn_word t = 16 * t.newest + holder_code t.holder

-- the word of a reader's count
abbrev pub count_word : ReaderView → ℕ
count_word r = if r.retired then greatest else length r.cleared

-- xs begin ys
abbrev pub Begins : List Entry → List Entry → Type 0
Begins xs ys = (rest : List Entry) × (ys ≡ xs ++ rest)

-- of the first h blocks, n is one more than the number of the last one in buffer k, or 0 where there is none
pub record IsNewest (buffers h k n : ℕ) : Type 0 where
  pub none : n ≡ 0 → h ≤ k
  pub last : (m : ℕ) → n ≡ m + 1 → (m % buffers ≡ k) × (m < h) × (h ≤ m + buffers)

-- What stands behind a state of the table: the writer, and its seat; what each reader knows, and its seat, where a
-- reader with no seat of its own is in the writer's; and the turn of each buffer.
pub record Roles : Type 0 where
  pub writer : WriterView
  pub seat : ℕ
  pub reader : ℕ → ReaderView
  pub place : ℕ → ℕ
  pub turn : ℕ → Turn

module _ (shape : RingShape) (x : Roles) where
  -- What is true of a buffer with this holder. At home it has the block that was sealed there last.
  -- A reader has the block that comes after those it cleared, and the writer the buffer of the block to be sealed next.
  abbrev pub Held : List (maybe.Option Block) → ℕ → ℕ → Holder → Type 0
  Held homes k n at_home =
      (b : Block) × (get_elem? homes k ≡ some (some b)) × (room_of b ≡ shape.size)
      × ((m : ℕ) → n ≡ m + 1 → get_elem? x.writer.sealed m ≡ some (entry_of b))
  Held homes k n (by_reader i) = (i < shape.readers) × ((x.reader i).out ≡ true)
      × (n ≡ length (x.reader i).cleared + 1)
  Held homes k n by_writer = (x.writer.out ≡ true) × (k ≡ length x.writer.sealed % shape.buffers)

  pub record TurnOk (words : List ℕ) (homes : List (maybe.Option Block)) (k : ℕ)
      (t : Turn) : Type 0 where
    pub shows : slice_index words k ≡ turn_word t
    pub newest : IsNewest shape.buffers (length x.writer.sealed) k t.newest
    pub held : Held homes k t.newest t.holder

  -- A reader cleared a beginning of what was sealed. Until it retires no block past that is overwritten, and what it
  -- got is the next one.
  pub record ReaderOk (words : List ℕ) (i : ℕ) (r : ReaderView) : Type 0 where
    pub number : r.number ≡ i
    pub shaped : r.shape ≡ shape
    pub shows : slice_index words (shape.buffers + i) ≡ count_word r
    pub begins : Begins r.cleared x.writer.sealed
    pub within : r.retired ≡ false → length x.writer.sealed ≤ length r.cleared + shape.buffers
    pub got : (e : Entry) → r.got ≡ Some e → (r.retired ≡ false)
        × (get_elem? x.writer.sealed (length r.cleared) ≡ some e)
    pub out : r.out ≡ true → ((e : Entry) × (r.got ≡ Some e))
        × ((x.turn (length r.cleared % shape.buffers)).holder ≡ by_reader i)
    pub low : slice_index x.writer.low i ≤ count_word r

  -- While the writer has a buffer, it saw each reader past the block that it overwrites.
  pub record WriterOk : Type 0 where
    pub shaped : x.writer.shape ≡ shape
    pub lows : length x.writer.low ≡ shape.readers
    pub limit : length x.writer.sealed ≤ shape.max_blocks
    pub sized : (m : ℕ) (e : Entry) → get_elem? x.writer.sealed m ≡ some e →
        length e.bytes ≤ shape.size
    pub out : x.writer.out ≡ true →
        ((x.turn (length x.writer.sealed % shape.buffers)).holder ≡ by_writer)
        × (length x.writer.sealed < shape.max_blocks)
    pub room : x.writer.out ≡ true → (i : ℕ) → i < shape.readers →
        length x.writer.sealed < slice_index x.writer.low i + shape.buffers
    pub look : (i n : ℕ) → x.writer.last_look ≡ Some (i, n) → slice_index x.writer.low i ≡ n

  -- what the seat j knows: the one writer has its seat, and each reader the seat at its place
  abbrev pub Knows : ℕ → View → Type 0
  Knows j (Writer v) = (v ≡ x.writer) × (j ≡ x.seat)
  Knows j (Reader r) = (r.number < shape.readers) × (r ≡ x.reader r.number) × (x.place r.number ≡ j)
  Knows j Spent = Unit {0}

-- the rule, with what stands behind the state
pub record HoldsFor (shape : RingShape) (s : State Block View) (x : Roles) : Type 0 where
  pub ring : IsRing shape
  pub wide : length s.words ≡ shape.buffers + shape.readers
  pub deep : length s.homes ≡ shape.buffers
  pub writer : WriterOk shape x
  pub each_turn : (k : ℕ) → k < shape.buffers → TurnOk shape x s.words s.homes k (x.turn k)
  pub each_reader : (i : ℕ) → i < shape.readers → ReaderOk shape x s.words i (x.reader i)
  pub seated : get_elem? s.views x.seat ≡ some (Writer x.writer)
  pub each_seat : (j : ℕ) (v : View) → get_elem? s.views j ≡ some v → Knows shape x j v
  pub all_parked : length x.writer.parked ≡ shape.readers
  pub parked : (i : ℕ) (r : ReaderView) → get_elem? x.writer.parked i ≡ some (Some r) →
      (i < shape.readers) × (r ≡ x.reader i) × (x.place i ≡ x.seat)

-- how a reader stands, in the words of the ring as a machine
abbrev pub phase_in_view : ReaderView → Phase
phase_in_view r =
    if r.retired then Phase.Retired
    else (if r.out then Phase.Out else (if is_some r.got then Phase.Read else Phase.Ready))

abbrev pub standing : ReaderView → Standing
standing r = record { cleared = length r.cleared; phase = phase_in_view r }

-- the machine that the running ring shows
abbrev pub shown : RingShape → Roles → Machine Entry
shown shape x = record {
  sealed = x.writer.sealed;
  writing = x.writer.out;
  low = x.writer.low;
  readers = listed (λ i. standing (x.reader i)) shape.readers;
}

-- the rule; the machine that the ring shows is one that a list of events leaves
pub record RuleHolds (shape : RingShape) (s : State Block View) : Type 0 where
  pub roles : Roles
  pub core : HoldsFor shape s roles
  pub reached : Reached shape.buffers shape.max_blocks shape.readers (shown shape roles)
