-- What a turn of a recorder finds, and what it leaves.
-- Source: this project's profile.
use Rattle.std.specs.Prelude.{◌≡◌, None}
use Rattle.psr_base.specs.Made.{FilesSeen}
use Rattle.dada_hdu.specs.declared.hdu.Hdu.{Hdu}
use Rattle.dada_hdu.specs.declared.passes.HduReader.{HduReader}
use Rattle.dada_hdu.specs.Passes.{ReadsBoth}
use Rattle.dada_recorder.specs.declared.space.RecorderSpace.{RecorderSpace}
use Rattle.dada_recorder.specs.Blocks.{files_of_blocks}
use Rattle.dada_recorder.specs.Making.{Outset, HasMade, IsOpenAs}
use Rattle.dada_recorder.specs.Recording.{FilesAre}
use Rattle.dada_recorder.specs.Transfers.{plan_in, IsRunning, StandsAt, EndsClosed, CountsEnd}
use Rattle.dada_recorder.specs.Turns.{cleared_headers, cleared_blocks}

-- A recorder goes on after the blocks that its pass cleared of these rings. In this and the next one: whether a file is
-- open, and what files show.
pub record GoesOnIn {F : Type 0} (files_open : F → Type 0) (hdu : Hdu) (space : RecorderSpace) (files : F)
    (pass : HduReader) : Type 0 where
  pub ring : ReadsBoth hdu pass
  pub running : space.end ≡ None
  pub is_open : IsOpenAs space.transfers.files.place.is_open (files_open files)
  pub stands : IsRunning space.transfers (cleared_headers pass) (cleared_blocks pass)

-- It took a turn: it stands for the blocks that its pass cleared then, and so do the files.
pub record HasTurned {F : Type 0} (files_open : F → Type 0) (seen : F → FilesSeen) (hdu : Hdu)
    (old : RecorderSpace) (files : F) (pass : HduReader) (new : RecorderSpace) (files' : F) (pass' : HduReader) :
    Type 0 where
  pub ring : ReadsBoth hdu pass'
  pub plan : plan_in new.transfers ≡ plan_in old.transfers
  pub block : new.block ≡ old.block
  pub is_open : new.end ≡ None
      → IsOpenAs new.transfers.files.place.is_open (files_open files')
  pub closed : EndsClosed new.end (files_open files')
  pub stands : StandsAt new.transfers (cleared_headers pass') (cleared_blocks pass') new.end
  pub made : (outset : Outset) → HasMade outset old.transfers.files.place.is_open
      (files_of_blocks (plan_in old.transfers) (cleared_headers pass) (cleared_blocks pass))
      (seen files) →
      FilesAre (plan_in new.transfers) outset new.transfers.files.place.is_open
      (cleared_headers pass') (cleared_blocks pass') new.end (seen files')
  pub faults : CountsEnd new.end (seen files) (seen files')
