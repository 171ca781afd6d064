-- What a call on one of the rings answers and leaves.
-- Source: PSRDADA manual (a header ring and a data ring as one data unit); the answers are this project's choice.
use Rattle.std.specs.Prelude.{◌≡◌, ℕ, true, false, List, length, Result, MatchResult, OnOk, OnErr}
use Rattle.dada_model.specs.Fields.{HeaderText, header_bytes}
use Rattle.ring_blocks.specs.declared.Entry.{Entry}
use Rattle.ring_blocks.specs.declared.Mark.{Mark}
use Rattle.ring_blocks.specs.declared.Mark.TheVariants.{End}
use Rattle.ring_words.specs.Plays.{ReaderSettled}
use Rattle.ring_words.specs.Steps.{CopiesTo}
use Rattle.ring_words.specs.Views.{after_clear}
use Rattle.ring_ends.specs.declared.passes.WriterPass.{WriterPass}
use Rattle.ring_ends.specs.declared.passes.ReaderPass.{ReaderPass}
use Rattle.ring_ends.specs.declared.passes.DetachedReader.{DetachedReader}
use Rattle.ring_ends.specs.declared.answers.WriteStop.{WriteStop}
use Rattle.ring_ends.specs.declared.answers.ReadStop.{ReadStop}
use Rattle.ring_ends.specs.declared.answers.Taken.{Taken}
use Rattle.ring_ends.specs.Answers.{IsWritten, IsWriteStop, IsHanded, IsReadStop}
use Rattle.ring_ends.specs.Passes.{writer_knows, reader_knows, detached_knows, is_read, ring_of_reader, ring_of_detached}

abbrev pub entry : Mark → List ℕ → Entry
entry mark bytes = record { mark = mark; bytes = bytes }

-- the block of a header: its bytes, marked End
abbrev pub header_entry : HeaderText → Entry
header_entry header = entry End (header_bytes header)

-- the block was sealed as the next one; or none was, and why
abbrev pub WriteAnswers : WriterPass → Entry → Result ℕ WriteStop → WriterPass → Type 0
WriteAnswers old block result new = MatchResult result
    (λ n. IsWritten (writer_knows old) block n (writer_knows new))
    (λ stop. IsWriteStop (writer_knows old) stop (writer_knows new))

-- What takes bytes was `x`, and is `x'` then: it took those of the next block, as `Takes` says; or none, and why.
pub record HandedAnswers {X : Type 0} (Takes : X → Entry → X → Type 0) (old : ReaderPass) (x : X)
    (result : Result Taken ReadStop) (new : ReaderPass) (x' : X) : Type 0 where
  pub cases : MatchResult result
      (λ taken. IsHanded Takes (reader_knows old) x taken (reader_knows new) x')
      (λ stop. IsReadStop (reader_knows old) stop (reader_knows new))
  pub settled : ReaderSettled (reader_knows new)
  pub has_read : OnOk result (is_read new ≡ true)
  pub kept : OnErr result ((is_read new ≡ is_read old) × (x' ≡ x))

-- the next block was copied to the front of `into`, which is `into'` then; or none was, and why
abbrev pub ReadAnswers : ReaderPass → List ℕ → Result Taken ReadStop → ReaderPass → List ℕ → Type 0
ReadAnswers old into result new into' = HandedAnswers CopiesTo old into result new into'

-- a part of the taker took the next block; or none was taken, and why
abbrev pub LendAnswers : {X : Type 0} → (X → ℕ → Entry → X → Type 0) → ℕ → ReaderPass → X →
    Result Taken ReadStop → ReaderPass → X → Type 0
LendAnswers took part old taker result new taker' =
    HandedAnswers (λ x. took x part) old taker result new taker'

-- the block that was read is cleared, and with it n blocks in all
pub record ClearAnswers (old : ReaderPass) (n : ℕ) (new : ReaderPass) : Type 0 where
  pub cleared : reader_knows new ≡ after_clear (reader_knows old)
  pub count : n ≡ length (reader_knows new).cleared
  pub settled : ReaderSettled (reader_knows new)
  pub unread : is_read new ≡ false

-- the reader reads nothing for now
pub record IsDetached (pass : ReaderPass) (reader : DetachedReader) : Type 0 where
  pub same : detached_knows reader ≡ reader_knows pass
  pub ring : ring_of_detached reader ≡ ring_of_reader pass

-- it goes on, and has read nothing
pub record IsAttached (reader : DetachedReader) (pass : ReaderPass) : Type 0 where
  pub same : reader_knows pass ≡ detached_knows reader
  pub ring : ring_of_reader pass ≡ ring_of_detached reader
  pub unread : is_read pass ≡ false
