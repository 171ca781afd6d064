-- The measures of a ring.
-- Source: PSRDADA manual (ring buffers of a writer and its readers); the ranges are this project's choice.
use Rattle.std.specs.Prelude.{◌<◌, ◌≤◌, ◌^◌}
use Rattle.ring_words.specs.declared.shape.RingShape.{RingShape}
use Rattle.ring_words.specs.declared.shape.ShapeFault.{ShapeFault}
use Rattle.ring_words.specs.declared.shape.ShapeFault.TheVariants.{Buffers, Size, Readers, Blocks}

-- the ranges that a ring's measures lie in
pub record IsRing (shape : RingShape) : Type 0 where
  pub two_buffers : 2 ≤ shape.buffers
  pub most_buffers : shape.buffers ≤ 64
  pub some_size : 1 ≤ shape.size
  pub most_size : shape.size ≤ 2 ^ 24
  pub some_readers : 1 ≤ shape.readers
  pub most_readers : shape.readers ≤ 8
  pub some_blocks : 1 ≤ shape.max_blocks
  pub most_blocks : shape.max_blocks < 2 ^ 59

abbrev pub BuffersFit : RingShape → Type 0
BuffersFit shape = (2 ≤ shape.buffers) × (shape.buffers ≤ 64)

abbrev pub SizeFits : RingShape → Type 0
SizeFits shape = (1 ≤ shape.size) × (shape.size ≤ 2 ^ 24)

abbrev pub ReadersFit : RingShape → Type 0
ReadersFit shape = (1 ≤ shape.readers) × (shape.readers ≤ 8)

abbrev pub BlocksFit : RingShape → Type 0
BlocksFit shape = (1 ≤ shape.max_blocks) × (shape.max_blocks < 2 ^ 59)

-- the fault is in this measure, and those before it lie in their ranges
abbrev pub IsFirstFault : RingShape → ShapeFault → Type 0
IsFirstFault shape Buffers = ¬ BuffersFit shape
IsFirstFault shape Size = BuffersFit shape × ¬ SizeFits shape
IsFirstFault shape Readers = BuffersFit shape × SizeFits shape × ¬ ReadersFit shape
IsFirstFault shape Blocks = BuffersFit shape × SizeFits shape × ReadersFit shape × ¬ BlocksFit shape
