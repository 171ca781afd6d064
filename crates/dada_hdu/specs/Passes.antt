-- What clauses see of two rings and of the passes of their threads.
-- Source: PSRDADA manual (a header ring and a data ring as one data unit); the passes are this project's choice.
use Rattle.std.specs.Prelude.{◌≡◌, ℕ, ◌+◌, false, List, slice_get, Option, Some, option_map, map}
use Rattle.ring_words.specs.declared.shape.RingShape.{RingShape}
use Rattle.ring_words.specs.Views.{fresh_reader, seated_writer}
use Rattle.ring_ends.specs.declared.ring.Ring.{Ring}
use Rattle.ring_ends.specs.declared.passes.EndedReader.{EndedReader}
use Rattle.ring_ends.specs.declared.passes.EndedReader.TheVariants as end
use Rattle.ring_ends.specs.Passes.{ring_shape, writer_knows, reader_knows, ended_knows, is_read, WritesTo, EndedFrom}
use Rattle.dada_hdu.specs.declared.hdu.Hdu.{Hdu}
use Rattle.dada_hdu.specs.declared.passes.HduWriter.{HduWriter}
use Rattle.dada_hdu.specs.declared.passes.HduReader.{HduReader}
use Rattle.dada_hdu.specs.declared.passes.HduRetired.{HduRetired}
use Rattle.dada_hdu.specs.declared.ended.HduEnded.{HduEnded}
use Rattle.dada_hdu.specs.declared.ended.HduEnded.TheVariants.{Here, Away, Retired}

abbrev pub header_ring : Hdu → Ring
header_ring hdu = hdu.header

abbrev pub data_ring : Hdu → Ring
data_ring hdu = hdu.blocks

abbrev pub data_shape : Hdu → RingShape
data_shape hdu = ring_shape (data_ring hdu)

-- a reader, however it ended, as a reader of the header ring
abbrev pub header_end : HduEnded → EndedReader
header_end (Here reader) = end.Here reader.header
header_end (Away reader) = end.Away reader.header
header_end (Retired reader) = end.Retired reader.header

-- and as one of the data ring
abbrev pub data_end : HduEnded → EndedReader
data_end (Here reader) = end.Here reader.blocks
data_end (Away reader) = end.Away reader.blocks
data_end (Retired reader) = end.Retired reader.blocks

abbrev pub header_ends : List (Option HduEnded) → List (Option EndedReader)
header_ends readers = map (option_map header_end) readers

abbrev pub data_ends : List (Option HduEnded) → List (Option EndedReader)
data_ends readers = map (option_map data_end) readers

-- the reader's number, the same in both rings
abbrev pub number_of : HduEnded → ℕ
number_of reader = (ended_knows (data_end reader)).number

-- how often it tried to take a block, of either ring
abbrev pub tries_of : HduEnded → ℕ
tries_of reader = (ended_knows (header_end reader)).tries + (ended_knows (data_end reader)).tries

-- the pass writes to these rings
pub record WritesBoth (hdu : Hdu) (pass : HduWriter) : Type 0 where
  pub header : WritesTo (header_ring hdu) pass.header
  pub blocks : WritesTo (data_ring hdu) pass.blocks

-- the reader is one of both rings, with one number
pub record EndedFromBoth (hdu : Hdu) (reader : HduEnded) : Type 0 where
  pub header : EndedFrom (header_ring hdu) (header_end reader)
  pub blocks : EndedFrom (data_ring hdu) (data_end reader)
  pub number : (ended_knows (header_end reader)).number ≡ (ended_knows (data_end reader)).number

abbrev pub ReadsBoth : Hdu → HduReader → Type 0
ReadsBoth hdu pass = EndedFromBoth hdu (Here pass)

abbrev pub RetiredFromBoth : Hdu → HduRetired → Type 0
RetiredFromBoth hdu reader = EndedFromBoth hdu (Retired reader)

-- the writer's pass, which has done nothing
pub record IsFreshWriter (hdu : Hdu) (pass : HduWriter) : Type 0 where
  pub ring : WritesBoth hdu pass
  pub header : writer_knows pass.header
      ≡ seated_writer (ring_shape (header_ring hdu)) (ring_shape (header_ring hdu)).readers
  pub blocks : writer_knows pass.blocks ≡ seated_writer (data_shape hdu) (data_shape hdu).readers

-- the pass of reader i, which has done nothing
pub record IsFreshReader (hdu : Hdu) (i : ℕ) (pass : HduReader) : Type 0 where
  pub ring : ReadsBoth hdu pass
  pub header : reader_knows pass.header ≡ fresh_reader (ring_shape (header_ring hdu)) i
  pub blocks : reader_knows pass.blocks ≡ fresh_reader (data_shape hdu) i
  pub no_header : is_read pass.header ≡ false
  pub no_block : is_read pass.blocks ≡ false

-- it stands at place i
abbrev pub HasFreshReader : Hdu → List (Option HduReader) → ℕ → Type 0
HasFreshReader hdu passes i =
    (p : HduReader) × (slice_get passes i ≡ Some (Some p)) × IsFreshReader hdu i p
