-- What one read of a reader of both rings does: which ring it reads, and that the block which it finds is cleared.
-- Source: this project's choice.
use Rattle.std.specs.Prelude.{◌≡◌, ◌≢◌, ◌⊎◌, ℕ, zero, suc, ◌+◌, ◌/◌, ◌%◌, ◌<◌, ◌≤◌, ◌==◌, Bool, true, false, ◌++◌, length, Option, Some, None}
use Rattle.ring_blocks.specs.declared.Entry.{Entry}
use Rattle.ring_words.specs.declared.views.ReaderView.{ReaderView}
use Rattle.ring_words.specs.Views.{got_list}
use Rattle.ring_words.specs.Steps.{home_word}
use Rattle.ring_ends.specs.Passes.{ended_knows}
use Rattle.dada_hdu.specs.declared.ended.HduEnded.{HduEnded}
use Rattle.dada_hdu.specs.Passes.{header_end, data_end}
use Rattle.stream_model.specs.Blocks.{ended_transfers, is_over}

-- ---- one ring

-- a word of the next block, which another reader has
pub record IsTaken (r : ReaderView) (word : ℕ) : Type 0 where
  pub seen : word / 16 ≡ length r.cleared + 1
  pub reader : ℕ
  pub holder : word % 16 ≡ reader + 1
  pub near : reader < r.shape.readers
  pub other : reader ≢ r.number

-- The word that a try for the next block finds: where it takes a block, that of the next one, which nobody has; where
-- it takes none, that of an older one, or of the next one, which another reader has.
abbrev pub FindsWord : ReaderView → Option Entry → ℕ → Type 0
FindsWord r None word = (word / 16 ≤ length r.cleared) ⊎ IsTaken r word
FindsWord r (Some block) word = word ≡ home_word (length r.cleared)

-- It tried once more to take a block, and cleared what it found: it holds none that it did not hold before, and where
-- it held one it found no other. The last word that it knows is the one that it found.
pub record TriesNext (old new : ReaderView) : Type 0 where
  pub number : new.number ≡ old.number
  pub tries : new.tries ≡ old.tries + 1
  pub found : Option Entry
  pub cleared : new.cleared ≡ old.cleared ++ got_list found
  pub holds_none : old.got ≡ None → new.got ≡ None
  pub again : (held block : Entry) → old.got ≡ Some held → found ≡ Some block → block ≡ held
  pub word : ℕ
  pub finds : FindsWord old found word
  pub last_try : new.last_try ≡ Some word

-- it did not try
pub record Rests (old new : ReaderView) : Type 0 where
  pub number : new.number ≡ old.number
  pub tries : new.tries ≡ old.tries
  pub cleared : new.cleared ≡ old.cleared
  pub holds_none : old.got ≡ None → new.got ≡ None
  pub last_try : new.last_try ≡ old.last_try

-- ---- both rings

abbrev pub header_view : HduEnded → ReaderView
header_view reader = ended_knows (header_end reader)

abbrev pub data_view : HduEnded → ReaderView
data_view reader = ended_knows (data_end reader)

-- a header is next: as many headers were cleared as transfers have ended
abbrev pub header_is_next : HduEnded → Bool
header_is_next reader =
    length (header_view reader).cleared == ended_transfers (data_view reader).cleared

-- the header ring was read, or else the data ring
abbrev pub ReadsRing : Bool → HduEnded → HduEnded → Type 0
ReadsRing true old new =
    TriesNext (header_view old) (header_view new) × Rests (data_view old) (data_view new)
ReadsRing false old new =
    Rests (header_view old) (header_view new) × TriesNext (data_view old) (data_view new)

-- one read: of the header ring if a header is next, otherwise of the data ring
abbrev pub ReadsNext : HduEnded → HduEnded → Type 0
ReadsNext old new = ReadsRing (header_is_next old) old new

-- no read; the reader may have retired
pub record HasRested (old new : HduEnded) : Type 0 where
  pub header : Rests (header_view old) (header_view new)
  pub blocks : Rests (data_view old) (data_view new)

-- blocks come after those that it cleared, if there are this many transfers
abbrev pub HasMore : ℕ → HduEnded → Type 0
HasMore transfers reader = is_over transfers (data_view reader).cleared ≡ false

-- n reads, one after another, before each of which `Goes` is true of the reader
unfoldable pub Reads : (HduEnded → Type 0) → ℕ → HduEnded → HduEnded → Type 0
Reads Goes zero old new = HasRested old new
Reads Goes (suc n) old new = (mid : HduEnded) × Reads Goes n old mid × Goes mid × ReadsNext mid new
