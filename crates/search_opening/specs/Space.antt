-- The space of a stage, and what makes it one.
-- Source: this project's choice.
use Rattle.std.specs.Prelude.{◌≡◌, ℕ, ◌+◌, ◌*◌, ◌/◌, ◌<◌, ◌≤◌, All, IfSome, IsSomeAnd, [], length, vec_len, take, slice_get, Option, Some, None}
use Rattle.arrayvec.specs.ArrayVec.{ArrayVec}
use Rattle.psr_base.specs.Told.{Told}
use Rattle.dada_model.specs.Fields.{HeaderText}
use Rattle.ring_words.specs.declared.shape.RingShape.{RingShape}
use Rattle.search_engine.specs.Engine.{most_fed}
use Rattle.disk_feeder.specs.declared.feeder.Feeder.{Feeder}
use Rattle.disk_feeder.specs.Feeder.{HasOpenFile, has_end, headers_of, plan_at, block_size, FeederFeeds}
use Rattle.disk_feeder.specs.Feeding.{header_entries}
use Rattle.dada_recorder.specs.declared.recorder.Recorder.{Recorder}
use Rattle.session_readers.specs.declared.bank.Bank.{Bank}
use Rattle.search_session.specs.Books.{HasBank}
use Rattle.search_session.specs.Stages.{IsUnfed, IsEmptyHand, IsFreshRecorder, recorder_count}
use Rattle.search_opening.specs.declared.space.StageSpace.{StageSpace}
use Rattle.search_opening.specs.Rings.{AreOpened}

-- the banks of a space
abbrev pub banks_in : {I F : Type 0} → StageSpace I F → ArrayVec (Option Bank)
banks_in space = space.banks

-- how many hands it has
abbrev pub hands_in : {I F : Type 0} → StageSpace I F → ℕ
hands_in space = length space.hands.items

-- The space of a stage of these banks: rings of this shape, of which the header is sealed, and the empty hands.
pub record IsSpaceOf {I F : Type 0} (banks : ArrayVec (Option Bank)) (shape : RingShape)
    (header : HeaderText) (space : StageSpace I F) : Type 0 where
  pub rings : AreOpened shape header space.hdu space.writer space.readers.items
  pub banks_are : space.banks ≡ banks
  pub spaces_count : length space.spaces.items ≡ length banks.items
  pub spaces : All (λ slot. IsSomeAnd slot (λ bytes. 65537 ≤ vec_len bytes)) space.spaces.items
  pub some_hand : 0 < hands_in space
  pub empty : All IsEmptyHand space.hands.items

-- ---- what comes to it

-- The feeder has accepted all first headers, of which this is the first, and seals blocks of the rings' size, no more
-- of them than the rings may carry.
pub record FeedsRings {I : Type 0} (told : I → Told) (is_open : I → Type 0) (shape : RingShape)
    (header : HeaderText) (feeder : Feeder I) : Type 0 where
  pub first : slice_get (headers_of feeder) 0 ≡ Some header
  pub feeds : FeederFeeds (told feeder.inputs.now) feeder
      (header_entries (take 1 (headers_of feeder))) []
  pub running : has_end feeder ≡ None
  pub file : HasOpenFile feeder → is_open feeder.inputs.now
  pub size : shape.size ≡ block_size feeder
  pub blocks : (plan_at feeder).max_bytes / block_size feeder + length (plan_at feeder).starts + 1
      ≤ shape.max_blocks

-- The space, the feeder and the recorder of one session: each bank has an engine for each transfer, which was fed
-- nothing, and readers are as many as banks and recorders.
pub record AreStaged {I F : Type 0} (told : I → Told) (is_open : I → Type 0)
    (files_open : F → Type 0) (space : StageSpace I F) (feeder : Feeder I)
    (recorder : Option (Recorder F)) : Type 0 where
  pub banks : ArrayVec (Option Bank)
  pub shape : RingShape
  pub header : HeaderText
  pub space_is : IsSpaceOf banks shape header space
  pub feeds : FeedsRings told is_open shape header feeder
  pub transfers : 0 < length (plan_at feeder).starts
  pub engines : (s : ℕ) → s < length banks.items →
      (bank : Bank) × HasBank banks.items s bank × IsUnfed (length (plan_at feeder).starts) bank
  pub readers : shape.readers ≡ length banks.items + recorder_count recorder
  pub recorder_is : IfSome recorder (IsFreshRecorder files_open space.hdu)
  pub few : shape.max_blocks * shape.size ≤ most_fed
