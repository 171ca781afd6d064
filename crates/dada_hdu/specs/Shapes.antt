-- The measures of the header ring beside a data ring.
-- Source: PSRDADA manual (a header ring and a data ring as one data unit); the measures are this project's choice.
use Rattle.ring_words.specs.declared.shape.RingShape.{RingShape}

-- 2 buffers, each with space for one byte more than the longest header; as many readers and blocks as the data ring
abbrev pub header_shape : RingShape → RingShape
header_shape data_ring = record {
  buffers = 2;
  size = 65537;
  readers = data_ring.readers;
  max_blocks = data_ring.max_blocks;
}
