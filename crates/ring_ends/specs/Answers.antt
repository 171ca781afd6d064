-- What a write and a read answer, and why.
-- Source: PSRDADA manual (ring buffers of a writer and its readers); the answers are this project's choice.
use Rattle.std.specs.Prelude.{◌≡◌, ◌≢◌, ℕ, ◌+◌, ◌/◌, ◌%◌, ◌<◌, ◌≤◌, List, length, slice_index, Some}
use Rattle.ring_blocks.specs.declared.Entry.{Entry}
use Rattle.ring_blocks.specs.declared.Mark.{Mark}
use Rattle.ring_blocks.specs.declared.Mark.TheVariants.{More, End, Cut}
use Rattle.ring_words.specs.declared.shape.RingShape.{RingShape}
use Rattle.ring_words.specs.declared.views.ReaderView.{ReaderView}
use Rattle.ring_words.specs.declared.views.WriterView.{WriterView}
use Rattle.ring_words.specs.Views.{after_seal, after_hit, after_miss, after_give}
use Rattle.ring_words.specs.Steps.{home_word, CopiesTo}
use Rattle.ring_ends.specs.declared.answers.WriteStop.{WriteStop}
use Rattle.ring_ends.specs.declared.answers.WriteStop.TheVariants.{Full, Spent}
use Rattle.ring_ends.specs.declared.answers.ReadStop.{ReadStop}
use Rattle.ring_ends.specs.declared.answers.ReadStop.TheVariants.{Empty, Busy}
use Rattle.ring_ends.specs.declared.answers.Taken.{Taken}

-- a block that is marked More is full, one that is marked End is shorter, and one that is marked Cut is empty
abbrev pub FitsMark : ℕ → Mark → List ℕ → Type 0
FitsMark size More bytes = length bytes ≡ size
FitsMark size End bytes = length bytes < size
FitsMark size Cut bytes = length bytes ≡ 0

-- The writer, which knew w, looked at the first n readers in turn: what it saw of the others before stays.
pub record LookedAtFirst (w : WriterView) (n : ℕ) (w' : WriterView) : Type 0 where
  pub looks : w'.looks ≡ w.looks + n
  pub last : (i : ℕ) → n ≡ i + 1 → w'.last_look ≡ Some (i, slice_index w'.low i)
  pub others : (i : ℕ) → n ≤ i → slice_index w'.low i ≡ slice_index w.low i
  pub rest : w' ≡ record w { low = w'.low; looks = w'.looks; last_look = w'.last_look }

-- it saw each of the first n past the block in the buffer of the next
abbrev pub SawPast : WriterView → ℕ → WriterView → Type 0
SawPast w n w' = (i : ℕ) → i < n → length w.sealed < slice_index w'.low i + w.shape.buffers

-- it looked at all readers in turn, and saw each past it
pub record SawAllPast (w w' : WriterView) : Type 0 where
  pub in_turn : LookedAtFirst w w.shape.readers w'
  pub past : SawPast w w.shape.readers w'

-- the block was sealed as number n, and before that each reader was seen past the block that lay in its buffer
pub record IsWritten (w : WriterView) (entry : Entry) (n : ℕ) (w' : WriterView) : Type 0 where
  pub number : n ≡ length w.sealed
  pub within : n < w.shape.max_blocks
  pub looked : WriterView
  pub saw : SawAllPast w looked
  pub view : w' ≡ after_seal looked entry

-- Nothing was sealed: looking at each reader in turn, the writer saw first of reader i that it had cleared c blocks,
-- and not the one in the buffer of the next
pub record IsFull (w : WriterView) (i c : ℕ) (w' : WriterView) : Type 0 where
  pub within : length w.sealed < w.shape.max_blocks
  pub reader : i < w.shape.readers
  pub in_turn : LookedAtFirst w (i + 1) w'
  pub past : SawPast w i w'
  pub count : slice_index w'.low i ≡ c
  pub late : c + w.shape.buffers ≤ length w.sealed

-- why a write sealed nothing
abbrev pub IsWriteStop : WriterView → WriteStop → WriterView → Type 0
IsWriteStop w (Full i c) w' = IsFull w i c w'
IsWriteStop w (Spent limit) w' = (limit ≡ w.shape.max_blocks) × (length w.sealed ≡ limit) × (w' ≡ w)

-- What takes bytes was `x`. It took those of the block that comes after those that the reader cleared, as `Takes` says,
-- and is `x'` then.
pub record IsHanded {X : Type 0} (Takes : X → Entry → X → Type 0) (r : ReaderView) (x : X)
    (t : Taken) (r' : ReaderView) (x' : X) : Type 0 where
  pub entry : Entry
  pub rest : r' ≡ after_give (after_hit r (home_word (length r.cleared)) entry)
  pub again : (e : Entry) → r.got ≡ Some e → e ≡ entry
  pub block : t.block ≡ length r.cleared
  pub within : t.block < r.shape.max_blocks
  pub used : t.used ≡ length entry.bytes
  pub fits : t.used ≤ r.shape.size
  pub mark : t.mark ≡ entry.mark
  pub bytes : Takes x entry x'

-- the reader copied the block to the front of `into`, which is `into'` then
abbrev pub IsRead : ReaderView → List ℕ → Taken → ReaderView → List ℕ → Type 0
IsRead r into t r' into' = IsHanded CopiesTo r into t r' into'

-- a part of the taker took the block
abbrev pub IsLent : {X : Type 0} → (X → ℕ → Entry → X → Type 0) → ℕ → ReaderView → X → Taken →
    ReaderView → X → Type 0
IsLent took part r taker t r' taker' = IsHanded (λ x. took x part) r taker t r' taker'

-- unless the reader cleared as many blocks as the ring may carry, each block that fits a buffer can be taken, as
-- `Can` says
abbrev pub CanTakeNext : (Entry → Type 0) → RingShape → ReaderView → Type 0
CanTakeNext Can ring r =
    (e : Entry) → length r.cleared < ring.max_blocks → length e.bytes ≤ ring.size → Can e

-- Why a read took nothing: its try found a word, whose first part is 1 more than the number of the block in that
-- buffer, and 0 where there is none, and whose last part tells who had it. Empty: the block is an older one. Busy: it
-- is the wanted one, and another reader had it
pub record FoundOlder (r : ReaderView) (block seen : ℕ) (r' : ReaderView) : Type 0 where
  pub word : ℕ
  pub rest : r' ≡ after_miss r word
  pub wanted : block ≡ length r.cleared
  pub seen_is : seen ≡ word / 16
  pub older : seen ≤ block

pub record FoundTaken (r : ReaderView) (block reader : ℕ) (r' : ReaderView) : Type 0 where
  pub word : ℕ
  pub rest : r' ≡ after_miss r word
  pub wanted : block ≡ length r.cleared
  pub seen : word / 16 ≡ block + 1
  pub holder : word % 16 ≡ reader + 1
  pub near : reader < r.shape.readers
  pub other : reader ≢ r.number

abbrev pub IsReadStop : ReaderView → ReadStop → ReaderView → Type 0
IsReadStop r (Empty block seen) r' = FoundOlder r block seen r'
IsReadStop r (Busy block reader) r' = FoundTaken r block reader r'
