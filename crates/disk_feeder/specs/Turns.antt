-- What a turn of a feeder does to the rings.
-- Source: this project's profile.
use Rattle.std.specs.Prelude.{◌≡◌, ℕ, ◌⊎◌, ◌<◌, Option, Some, None, List, [], ◌∷◌, ◌++◌, length}
use Rattle.ring_blocks.specs.declared.Entry.{Entry}
use Rattle.ring_ends.specs.declared.passes.WriterPass.{WriterPass}
use Rattle.ring_ends.specs.Passes.{ring_shape, writer_knows}
use Rattle.ring_ends.specs.Answers.{IsFull}
use Rattle.dada_hdu.specs.declared.hdu.Hdu.{Hdu}
use Rattle.dada_hdu.specs.declared.passes.HduWriter.{HduWriter}
use Rattle.dada_hdu.specs.Passes.{header_ring, data_ring, data_shape, WritesBoth}
use Rattle.disk_feeder.specs.declared.answers.FeedEnd.{FeedEnd}
use Rattle.disk_feeder.specs.declared.answers.FeedTurn.{FeedTurn}
use Rattle.disk_feeder.specs.declared.answers.FeedTurn.TheVariants.{Moved, Waiting, Ended}

-- the blocks that a pass sealed of each ring
abbrev pub sealed_headers : HduWriter → List Entry
sealed_headers pass = (writer_knows pass.header).sealed

abbrev pub sealed_blocks : HduWriter → List Entry
sealed_blocks pass = (writer_knows pass.blocks).sealed

-- a ring may carry one block more
abbrev pub HasRoom : Hdu → HduWriter → Type 0
HasRoom hdu pass = length (sealed_blocks pass) < (ring_shape (data_ring hdu)).max_blocks

abbrev pub HasHeaderRoom : Hdu → HduWriter → Type 0
HasHeaderRoom hdu pass = length (sealed_headers pass) < (ring_shape (header_ring hdu)).max_blocks

-- a block of so many bytes may be sealed in the data ring
pub record CanSeal (hdu : Hdu) (size : ℕ) (pass : HduWriter) : Type 0 where
  pub ring : WritesBoth hdu pass
  pub size_is : (data_shape hdu).size ≡ size
  pub room : HasRoom hdu pass

-- one block was sealed
abbrev pub SealsOne : WriterPass → WriterPass → Type 0
SealsOne old new = (block : Entry)
    × ((writer_knows new).sealed ≡ (writer_knows old).sealed ++ block ∷ [])

-- nothing was sealed, since this reader had cleared only so many blocks
abbrev pub FindsFull : WriterPass → ℕ → ℕ → WriterPass → Type 0
FindsFull old reader cleared new = IsFull (writer_knows old) reader cleared (writer_knows new)

-- What a turn answered, and the end that it came to. It sealed one block of one ring, or found that ring full.
abbrev pub TurnAnswers : HduWriter → HduWriter → Option FeedEnd → FeedTurn → Type 0
TurnAnswers old new end Moved = (end ≡ None)
    × ((SealsOne old.header new.header × (new.blocks ≡ old.blocks))
    ⊎ (SealsOne old.blocks new.blocks × (new.header ≡ old.header)))
TurnAnswers old new end (Waiting reader cleared) = (end ≡ None)
    × ((FindsFull old.header reader cleared new.header × (new.blocks ≡ old.blocks))
    ⊎ (FindsFull old.blocks reader cleared new.blocks × (new.header ≡ old.header)))
TurnAnswers old new end (Ended stop) =
    (end ≡ Some stop) × SealsOne old.blocks new.blocks × (new.header ≡ old.header)
