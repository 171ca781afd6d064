-- What a turn of a recorder does to the rings.
-- Source: this project's profile.
use Rattle.std.specs.Prelude.{◌≡◌, Bool, true, false, length, Option, Some, None, List}
use Rattle.ring_blocks.specs.declared.Entry.{Entry}
use Rattle.ring_words.specs.Views.{after_hit, after_give, after_clear}
use Rattle.ring_words.specs.Steps.{home_word}
use Rattle.ring_ends.specs.declared.passes.ReaderPass.{ReaderPass}
use Rattle.ring_ends.specs.Passes.{reader_knows}
use Rattle.ring_ends.specs.Answers.{IsReadStop}
use Rattle.dada_hdu.specs.declared.passes.HduReader.{HduReader}
use Rattle.dada_recorder.specs.declared.answers.RecordEnd.{RecordEnd}
use Rattle.dada_recorder.specs.declared.answers.RecordTurn.{RecordTurn}
use Rattle.dada_recorder.specs.declared.answers.RecordTurn.TheVariants.{Moved, Waiting, Ended}

-- the blocks that a pass cleared of each ring
abbrev pub cleared_headers : HduReader → List Entry
cleared_headers pass = (reader_knows pass.header).cleared

abbrev pub cleared_blocks : HduReader → List Entry
cleared_blocks pass = (reader_knows pass.blocks).cleared

-- One try found the next block at home, and it was taken, given back and cleared. It is the one that was read before
-- and not cleared, if there was one.
pub record ClearsNext (old new : ReaderPass) : Type 0 where
  pub block : Entry
  pub again : (e : Entry) → (reader_knows old).got ≡ Some e → e ≡ block
  pub view : reader_knows new ≡ after_clear (after_give
      (after_hit (reader_knows old) (home_word (length (reader_knows old).cleared)) block))

-- one of the rings was read: that of the headers until the header of the transfer was cleared, and
-- then that of the data
abbrev pub ReadsOne : Bool → (ReaderPass → ReaderPass → Type 0) → HduReader → HduReader → Type 0
ReadsOne false does old new = does old.header new.header × (new.blocks ≡ old.blocks)
ReadsOne true does old new = does old.blocks new.blocks × (new.header ≡ old.header)

-- What a turn answered, and the end that it came to. It cleared one block, or found none.
abbrev pub RecordAnswers : Bool → HduReader → HduReader → Option RecordEnd → RecordTurn → Type 0
RecordAnswers has_header old new end Moved = (end ≡ None) × ReadsOne has_header ClearsNext old new
RecordAnswers has_header old new end (Waiting stop) = (end ≡ None) × ReadsOne has_header
    (λ before after. IsReadStop (reader_knows before) stop (reader_knows after)) old new
RecordAnswers has_header old new end (Ended is) =
    (end ≡ Some is) × ReadsOne has_header ClearsNext old new

-- the answer at an end, or at none
abbrev pub turn_of : Option RecordEnd → RecordTurn
turn_of None = Moved
turn_of (Some end) = Ended end
