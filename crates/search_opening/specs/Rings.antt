-- The rings of a run, as they are when its session begins.
-- Source: PSRDADA manual (a header ring and a data ring as one data unit); the measures are this project's choice.
use Rattle.std.specs.Prelude.{◌≡◌, ℕ, ◌+◌, ◌/◌, List, [], ◌∷◌, length, All, EachIndex, Option, IsSomeAnd}
use Rattle.dada_model.specs.Fields.{HeaderText}
use Rattle.ring_words.specs.declared.shape.RingShape.{RingShape}
use Rattle.dada_hdu.specs.declared.hdu.Hdu.{Hdu}
use Rattle.dada_hdu.specs.declared.passes.HduWriter.{HduWriter}
use Rattle.dada_hdu.specs.declared.passes.HduReader.{HduReader}
use Rattle.dada_hdu.specs.Answers.{header_entry}
use Rattle.dada_hdu.specs.Passes.{data_shape, WritesBoth, ReadsBoth, HasFreshReader}
use Rattle.disk_feeder.specs.Turns.{sealed_headers, sealed_blocks}

-- The data ring has room for all full blocks of the data, for the last block of each transfer, and for a Cut
abbrev pub run_shape : (buffers size readers max_bytes transfers : ℕ) → RingShape
run_shape buffers size readers max_bytes transfers = record {
  buffers = buffers;
  size = size;
  readers = readers;
  max_blocks = max_bytes / size + transfers + 1;
}

-- a header is sealed and no data, and no reader has read
pub record AreOpened
    (shape : RingShape) (header : HeaderText) (hdu : Hdu) (writer : HduWriter)
    (readers : List (Option HduReader)) : Type 0 where
  pub shape_is : data_shape hdu ≡ shape
  pub writes : WritesBoth hdu writer
  pub sealed : sealed_headers writer ≡ header_entry header ∷ []
  pub no_data : sealed_blocks writer ≡ []
  pub count : length readers ≡ shape.readers
  pub fresh : EachIndex readers (λ i. HasFreshReader hdu readers i)
  pub reads : All (λ at. IsSomeAnd at (ReadsBoth hdu)) readers
